use Rattle.std.proofs.Common.{◌≡◌, ◌∙◌, Ok, Some, Result, ap, subst, sym, rules}
use Rattle.std.specs.Option.{ok_or}
use Rattle.sf_refusals.specs.declared.refusal.Refusal.{Refusal}
use Rattle.sf_refusals.specs.declared.refusal.Refusal.TheVariants.{BadCommand}
use Rattle.sf_wkt.specs.Grammar.{read}
use Rattle.sf_commands.specs.declared.command.Command.{Command}
use Rattle.sf_commands.specs.declared.command.Command.TheVariants.{Nearest}
use Rattle.sf_commands.specs.Commands.{few_named, valid_of, with_geometry, OrMemory}
use Rattle.sf_commands.proofs.QueryLemmas.{after_two_words-text, OrMemory-made}
use Rattle.sf_commands.proofs.query_commands.nearest_arguments.Goals as goal

pub returns-in_err-given : goal.returns-in_err-given
returns-in_err-given c =
    let layer = c.in_ok-layer.layer.now in
    let text = c.in_ok-text.text.now in
    let count : few_named c.in_ok-count.count.now ≡ Some c.in_ok-count-2.count = search rules in
    let P : Result Command Refusal → Type 0 = λ expected. OrMemory expected c.from_residual-in_err-given.result in
    subst P
    (sym (after_two_words-text (λ layer word text. with_geometry Nearest layer (ok_or (few_named word) BadCommand) (valid_of (read text))) c.args.words c.next.new.self c.next-2.new.self layer c.in_ok-count.count.now text
    c.in_ok-layer.ensures.0 c.in_ok-layer.ensures.1 c.in_ok-count.ensures.0 c.in_ok-count.ensures.1 c.in_ok-text.ensures.0 c.in_ok-text.ensures.1
    ∙ ap (λ x. with_geometry Nearest layer (ok_or x BadCommand) (valid_of (read text))) count))
    (OrMemory-made (valid_of (read text)) (λ given. Ok (Nearest layer c.in_ok-count-2.count given)) _ c.from_residual-in_err-given.result c.in_err-given.ensures c.from_residual-in_err-given.ensures.1)

pub returns : goal.returns
returns c =
    let layer = c.in_ok-layer.layer.now in
    let text = c.in_ok-text.text.now in
    let count : few_named c.in_ok-count.count.now ≡ Some c.in_ok-count-2.count = search rules in
    ap (λ l. Ok (Nearest l c.in_ok-count-2.count c.in_ok-given.given)) c.in_ok-layer-2.ensures
    ∙ sym (after_two_words-text (λ layer word text. with_geometry Nearest layer (ok_or (few_named word) BadCommand) (valid_of (read text))) c.args.words c.next.new.self c.next-2.new.self layer c.in_ok-count.count.now text
    c.in_ok-layer.ensures.0 c.in_ok-layer.ensures.1 c.in_ok-count.ensures.0 c.in_ok-count.ensures.1 c.in_ok-text.ensures.0 c.in_ok-text.ensures.1
    ∙ ap (λ x. with_geometry Nearest layer (ok_or x BadCommand) (valid_of (read text))) count
    ∙ ap (with_geometry Nearest layer (Ok c.in_ok-count-2.count)) (sym c.in_ok-given.ensures))
