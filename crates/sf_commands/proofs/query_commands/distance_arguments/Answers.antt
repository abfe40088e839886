use Rattle.std.proofs.Common.{◌≡◌, ◌∙◌, Ok, Some, Result, ap, subst, sym, rules}
use Rattle.std.specs.Option.{ok_or}
use Rattle.sf_refusals.specs.declared.refusal.Refusal.{Refusal}
use Rattle.sf_refusals.specs.declared.refusal.Refusal.TheVariants.{BadCommand}
use Rattle.sf_wkt.specs.Grammar.{read}
use Rattle.sf_commands.specs.declared.command.Command.{Command}
use Rattle.sf_commands.specs.declared.command.Command.TheVariants.{Distance}
use Rattle.sf_words.specs.Naming.{id_of}
use Rattle.sf_commands.specs.Commands.{valid_of, with_geometry, OrMemory}
use Rattle.sf_commands.proofs.QueryLemmas.{after_two_words-text, OrMemory-made}
use Rattle.sf_commands.proofs.query_commands.distance_arguments.Goals as goal

pub returns-in_err-given : goal.returns-in_err-given
returns-in_err-given c =
    let layer = c.in_ok-layer.layer.now in
    let text = c.in_ok-text.text.now in
    let id : id_of c.in_ok-id.id.now ≡ Some c.in_ok-id-2.id = search rules in
    let P : Result Command Refusal → Type 0 = λ expected. OrMemory expected c.from_residual-in_err-given.result in
    subst P
    (sym (after_two_words-text (λ layer word text. with_geometry Distance layer (ok_or (id_of word) BadCommand) (valid_of (read text))) c.args.words c.next.new.self c.next-2.new.self layer c.in_ok-id.id.now text
    c.in_ok-layer.ensures.0 c.in_ok-layer.ensures.1 c.in_ok-id.ensures.0 c.in_ok-id.ensures.1 c.in_ok-text.ensures.0 c.in_ok-text.ensures.1
    ∙ ap (λ x. with_geometry Distance layer (ok_or x BadCommand) (valid_of (read text))) id))
    (OrMemory-made (valid_of (read text)) (λ given. Ok (Distance layer c.in_ok-id-2.id given)) _ c.from_residual-in_err-given.result c.in_err-given.ensures c.from_residual-in_err-given.ensures.1)

pub returns : goal.returns
returns c =
    let layer = c.in_ok-layer.layer.now in
    let text = c.in_ok-text.text.now in
    let id : id_of c.in_ok-id.id.now ≡ Some c.in_ok-id-2.id = search rules in
    ap (λ l. Ok (Distance l c.in_ok-id-2.id c.in_ok-given.given)) c.in_ok-layer-2.ensures
    ∙ sym (after_two_words-text (λ layer word text. with_geometry Distance layer (ok_or (id_of word) BadCommand) (valid_of (read text))) c.args.words c.next.new.self c.next-2.new.self layer c.in_ok-id.id.now text
    c.in_ok-layer.ensures.0 c.in_ok-layer.ensures.1 c.in_ok-id.ensures.0 c.in_ok-id.ensures.1 c.in_ok-text.ensures.0 c.in_ok-text.ensures.1
    ∙ ap (λ x. with_geometry Distance layer (ok_or x BadCommand) (valid_of (read text))) id
    ∙ ap (with_geometry Distance layer (Ok c.in_ok-id-2.id)) (sym c.in_ok-given.ensures))
