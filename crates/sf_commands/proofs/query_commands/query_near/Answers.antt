use Rattle.std.proofs.Common.{◌≡◌, ◌∙◌, Ok, Some, Result, ap, subst, sym, rules}
use Rattle.std.specs.Option.{ok_or}
use Rattle.sf_refusals.specs.declared.refusal.Refusal.{Refusal}
use Rattle.sf_refusals.specs.declared.refusal.Refusal.TheVariants.{BadCommand}
use Rattle.sf_wkt.specs.Grammar.{read}
use Rattle.sf_commands.specs.declared.command.Command.{Command}
use Rattle.sf_commands.specs.declared.command.Command.TheVariants.{Near}
use Rattle.sf_words.specs.Reaches.{reach_of}
use Rattle.sf_commands.specs.Commands.{valid_of, with_geometry, OrMemory}
use Rattle.sf_commands.proofs.QueryLemmas.{OrMemory-made, query_near-text}
use Rattle.sf_commands.proofs.query_commands.query_near.Goals as goal

pub returns-in_err-given : goal.returns-in_err-given
returns-in_err-given c =
    let layer = c.args.layer.now in
    let text = c.in_ok-text.text.now in
    let reach : reach_of c.in_ok-distance.distance.now ≡ Some c.in_ok-reach.reach = search rules in
    let P : Result Command Refusal → Type 0 = λ expected. OrMemory expected c.from_residual-in_err-given.result in
    subst P
    (sym (query_near-text c.args.words c.next.new.self layer c.in_ok-distance.distance.now text
    c.in_ok-distance.ensures.0 c.in_ok-distance.ensures.1 c.in_ok-text.ensures.0 c.in_ok-text.ensures.1
    ∙ ap (λ x. with_geometry Near layer (ok_or x BadCommand) (valid_of (read text))) reach))
    (OrMemory-made (valid_of (read text)) (λ given. Ok (Near layer c.in_ok-reach.reach given)) _ c.from_residual-in_err-given.result c.in_err-given.ensures c.from_residual-in_err-given.ensures.1)

pub returns : goal.returns
returns c =
    let layer = c.args.layer.now in
    let text = c.in_ok-text.text.now in
    let reach : reach_of c.in_ok-distance.distance.now ≡ Some c.in_ok-reach.reach = search rules in
    ap (λ l. Ok (Near l c.in_ok-reach.reach c.in_ok-given.given)) c.in_ok-layer.ensures
    ∙ sym (query_near-text c.args.words c.next.new.self layer c.in_ok-distance.distance.now text
    c.in_ok-distance.ensures.0 c.in_ok-distance.ensures.1 c.in_ok-text.ensures.0 c.in_ok-text.ensures.1
    ∙ ap (λ x. with_geometry Near layer (ok_or x BadCommand) (valid_of (read text))) reach
    ∙ ap (with_geometry Near layer (Ok c.in_ok-reach.reach)) (sym c.in_ok-given.ensures))
