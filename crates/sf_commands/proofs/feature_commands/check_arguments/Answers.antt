use Rattle.std.proofs.Common.{◌∙◌, Ok, Result, ap, refl, subst, sym}
use Rattle.sf_refusals.specs.declared.refusal.Refusal.{Refusal}
use Rattle.sf_wkt.specs.Grammar.{read}
use Rattle.sf_commands.specs.declared.command.Command.{Command}
use Rattle.sf_commands.specs.declared.command.Command.TheVariants.{Check}
use Rattle.sf_commands.specs.Commands.{of_text, OrMemory}
use Rattle.sf_commands.proofs.AddLemmas.{layer_and_text-text, OrMemory-unread}
use Rattle.sf_commands.proofs.feature_commands.check_arguments.Goals as goal

pub returns-in_err-geometry : goal.returns-in_err-geometry
returns-in_err-geometry c =
    let layer = c.in_ok-layer.layer.now in
    let P : Result Command Refusal → Type 0 = λ expected. OrMemory expected c.from_residual-in_err-geometry.result in
    subst P (sym (layer_and_text-text Check c.args.words c.next.new.self layer c.in_ok-text.text.now c.in_ok-layer.ensures.0 c.in_ok-layer.ensures.1 c.in_ok-text.ensures.0 c.in_ok-text.ensures.1))
    (OrMemory-unread (λ x. of_text x (Check layer)) (λ fault. refl) (read c.in_ok-text.text.now) c.from_residual-in_err-geometry.result _ c.in_err-geometry.ensures.exact c.from_residual-in_err-geometry.ensures.1)

pub returns : goal.returns
returns c =
    let layer = c.in_ok-layer.layer.now in
    ap (λ l. Ok (Check l c.in_ok-geometry.geometry)) c.in_ok-layer-2.ensures
    ∙ sym (layer_and_text-text Check c.args.words c.next.new.self layer c.in_ok-text.text.now c.in_ok-layer.ensures.0 c.in_ok-layer.ensures.1 c.in_ok-text.ensures.0 c.in_ok-text.ensures.1
    ∙ ap (λ x. of_text x (Check layer)) (sym c.in_ok-geometry.ensures.exact))
