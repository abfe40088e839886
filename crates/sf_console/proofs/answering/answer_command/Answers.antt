use Rattle.std.proofs.Common.{Ok}
use Rattle.sf_commands.specs.Commands.{command_of, takes_memory}
use Rattle.sf_console.specs.Answers.{reply_text}
use Rattle.sf_console.proofs.ReadingLemmas.{IsAnswered-asked, IsAnswered-refused}
use Rattle.sf_console.proofs.answering.answer_command.Goals as goal

pub returns-in_err-asker : goal.returns-in_err-asker
returns-in_err-asker c =
    let text = c.args.text.now in
    IsAnswered-refused (takes_memory text) c.args.editor.now (command_of text) c.in_err-asker.field-0.0 c.from_residual.result c.in_err-asker.ensures c.from_residual.ensures.1

pub returns : goal.returns
returns c =
    let text = c.args.text.now in
    IsAnswered-asked (takes_memory text) c.args.editor.now c.execute.new.editor (reply_text c.execute.result) (command_of text) (Ok (c.in_ok-asker.asker, c.in_ok-asker.command)) c.in_ok-asker.ensures c.execute.ensures
