use Rattle.sf_commands.specs.Commands.{value_between}
use Rattle.sf_commands.proofs.ValueListLemmas.{refused-with, value-read, value-unread}
use Rattle.sf_commands.proofs.named_values.push_value.Goals as goal

pub returns-in_err-value : goal.returns-in_err-value
returns-in_err-value c =
    refused-with _ _ c.in_err-value.field-0.0 c.from_residual.result (value-unread (value_between c.args.text.now) c.in_err-value.field-0.0 c.in_err-value.ensures) c.from_residual.ensures.1

pub returns : goal.returns
returns c = (c.in_ok-value.value, value-read (value_between c.args.text.now) c.in_ok-value.value c.in_ok-value.ensures, c.in_ok-push.ensures)
