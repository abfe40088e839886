use Rattle.sf_commands.proofs.AddressLemmas.{parse-refused}
use Rattle.sf_commands.proofs.parsing.parse.Goals as goal

pub returns-in_err-command : goal.returns-in_err-command
returns-in_err-command c =
    parse-refused c.args.line.now c.in_ok-editor.words c.in_ok-editor.editor c.in_err-command.field-0.0 c.from_residual-in_err-command.result
    c.if-line-gt-LINE_MAX.false c.in_ok-editor.ensures c.in_err-command.ensures c.from_residual-in_err-command.ensures.1
