-- What is made of the command of a member's words.
use Rattle.std.proofs.Common.{Bool, Result, Err, ap}
use Rattle.sf_refusals.specs.declared.refusal.Refusal.{Refusal}
use Rattle.sf_refusals.specs.declared.refusal.Refusal.TheVariants.{Memory}
use Rattle.sf_commands.specs.declared.command.Command.{Command}
use Rattle.sf_commands.specs.Commands.{OrMemory}
use Rattle.sf_commands.specs.Members.{member_by}
use Rattle.sf_commands.proofs.AddLemmas.{OrMemory-same}

pub OrMemory-member : (of_last : Bool) (expected r : Result Command Refusal) → OrMemory expected r → OrMemory (member_by of_last expected) (member_by of_last r)
OrMemory-member of_last expected (Err Memory) h = tt
OrMemory-member of_last expected r h = OrMemory-same (member_by of_last expected) (member_by of_last r) (ap (member_by of_last) h)
