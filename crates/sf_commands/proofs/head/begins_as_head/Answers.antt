use Rattle.std.proofs.Common.{◌∙◌, sym}
use Rattle.sf_commands.proofs.PartLemmas.{groupless, headless}
use Rattle.sf_commands.proofs.head.begins_as_head.Goals as goal

pub returns-clause-head : goal.returns-clause-head
returns-clause-head c = λ is. headless c.args.bytes.now (sym c.begins.ensures ∙ is)

pub returns-clause-group : goal.returns-clause-group
returns-clause-group c = λ is. groupless c.args.bytes.now (sym c.begins.ensures ∙ is)
