use Rattle.std.proofs.Common.{◌≡◌, ◌∙◌, Ok, Some, Result, ap, subst, sym, rules}
use Rattle.std.specs.Option.{ok_or}
use Rattle.sf_refusals.specs.declared.refusal.Refusal.{Refusal}
use Rattle.sf_refusals.specs.declared.refusal.Refusal.TheVariants.{BadCommand}
use Rattle.sf_wkt.specs.Grammar.{read}
use Rattle.sf_commands.specs.declared.command.Command.{Command}
use Rattle.sf_commands.specs.declared.command.Command.TheVariants.{Query}
use Rattle.sf_values.specs.Kinds.{predicate_of}
use Rattle.sf_commands.specs.Commands.{valid_of, with_geometry, OrMemory}
use Rattle.sf_commands.proofs.QueryLemmas.{OrMemory-made}
use Rattle.sf_commands.proofs.query_commands.query_named.Goals as goal

pub returns-in_err-given : goal.returns-in_err-given
returns-in_err-given c =
    let text = c.args.text.now in
    let predicate : predicate_of c.args.predicate.now ≡ Some c.in_ok-predicate.predicate = search rules in
    let P : Result Command Refusal → Type 0 = λ expected. OrMemory expected c.from_residual-in_err-given.result in
    subst P (sym (ap (λ x. with_geometry Query c.args.layer.now (ok_or x BadCommand) (valid_of (read text))) predicate))
    (OrMemory-made (valid_of (read text)) (λ given. Ok (Query c.args.layer.now c.in_ok-predicate.predicate given)) _ c.from_residual-in_err-given.result c.in_err-given.ensures c.from_residual-in_err-given.ensures.1)

pub returns : goal.returns
returns c =
    let text = c.args.text.now in
    let predicate : predicate_of c.args.predicate.now ≡ Some c.in_ok-predicate.predicate = search rules in
    ap (λ l. Ok (Query l c.in_ok-predicate.predicate c.in_ok-given.given)) c.in_ok-layer.ensures
    ∙ sym (ap (λ x. with_geometry Query c.args.layer.now (ok_or x BadCommand) (valid_of (read text))) predicate
    ∙ ap (with_geometry Query c.args.layer.now (Ok c.in_ok-predicate.predicate)) (sym c.in_ok-given.ensures))
