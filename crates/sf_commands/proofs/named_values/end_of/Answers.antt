use Rattle.std.proofs.Common.{◌≡◌, ◌∙◌, false, Some, Ok, ap, sym, subst, rules}
use Rattle.std.specs.List.{list_all}
use Rattle.sf_wkt.specs.Tokens.{is_blank}
use Rattle.sf_commands.specs.Commands.{OrMemory, value_between}
use Rattle.sf_commands.proofs.LookupLemmas.{OrMemory-given}
use Rattle.sf_commands.proofs.ValueListLemmas.{end_by, given-spelled}
use Rattle.sf_commands.proofs.named_values.end_of.Goals as goal

pub returns-in_err-value_between : goal.returns-in_err-value_between
returns-in_err-value_between c =
    let text = c.args.text.now in
    let some : list_all is_blank text ≡ false = search rules in
    subst (λ is. OrMemory (end_by text is) c.from_residual.result) (sym some)
    (OrMemory-given (value_between text) (λ value. Ok (Some value)) c.in_err-value_between.field-0.0 c.from_residual.result c.in_err-value_between.ensures c.from_residual.ensures.1)

pub returns : goal.returns
returns c =
    let text = c.args.text.now in
    let some : list_all is_blank text ≡ false = search rules in
    sym (ap (end_by text) some ∙ given-spelled (value_between text) (λ value. Ok (Some value)) c.in_ok-value_between.field-0 c.in_ok-value_between.ensures)
