use Rattle.sf_console.specs.Answers.{reply_text}
use Rattle.sf_console.proofs.CheckLaws.{refused-told}
use Rattle.sf_console.proofs.checking.checked.Goals as goal

pub returns-in-Err : goal.returns-in-Err
returns-in-Err c =
    refused-told c.args.store.now c.args.layer.now c.as_str.result.now c.args.geometry.now c.in-Err.refusal (reply_text c.refused.result) c.as_str.ensures c.in-Err.ensures.refused c.refused.ensures
