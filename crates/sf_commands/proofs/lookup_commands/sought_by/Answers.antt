use Rattle.std.proofs.Common.{◌∙◌, Ok, ap, sym, subst}
use Rattle.sf_commands.specs.declared.command.Sought.TheVariants.{Value}
use Rattle.sf_commands.specs.Commands.{OrMemory, sought_by, value_between}
use Rattle.sf_commands.proofs.LookupLemmas.{OrMemory-given}
use Rattle.sf_commands.proofs.ValueListLemmas.{given-spelled}
use Rattle.sf_commands.proofs.lookup_commands.sought_by.Goals as goal

pub returns-in_err-value_between-in-None : goal.returns-in_err-value_between-in-None
returns-in_err-value_between-in-None c =
    let text = c.args.text.now in
    subst (λ ends. OrMemory (sought_by text ends) c.from_residual.result) (sym c.in-None.ensures)
    (OrMemory-given (value_between text) (λ value. Ok (Value value)) c.in_err-value_between-in-None.field-0.0 c.from_residual.result
    c.in_err-value_between-in-None.ensures c.from_residual.ensures.1)

pub returns-in_ok-value_between-in-None : goal.returns-in_ok-value_between-in-None
returns-in_ok-value_between-in-None c =
    let text = c.args.text.now in
    sym (ap (sought_by text) c.in-None.ensures
    ∙ given-spelled (value_between text) (λ value. Ok (Value value)) c.in_ok-value_between-in-None.field-0 c.in_ok-value_between-in-None.ensures)
