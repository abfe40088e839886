-- Laws of commands.
use Rattle.std.specs.Prelude.{◌≡◌, ℕ, List, Ok}
use Rattle.std.specs.List.{AllByRecursion}
use Rattle.sf_steps.specs.declared.edit.Edit.{Edit}
use Rattle.sf_steps.specs.Laws.{BringsGridPoints}
use Rattle.sf_groups.specs.declared.member.Member.{Member}
use Rattle.sf_commands.specs.declared.command.Command.TheVariants as commands
use Rattle.sf_commands.specs.Commands.{command_of}
use Rattle.sf_commands.specs.GroupTexts.{members_of}

-- the points that the edit of a line brings are on the grid
abbrev pub CommandsBringGridPoints : Type 0
CommandsBringGridPoints = (line : List ℕ) (editor : ℕ) (edit : Edit) → command_of line ≡ Ok (editor, commands.Edit edit) → BringsGridPoints edit

-- and so are those that the members of a text bring
abbrev pub MembersBringGridPoints : Type 0
MembersBringGridPoints = (text : List ℕ) (members : List Member) → members_of text ≡ Ok members → AllByRecursion (λ member. BringsGridPoints member.edit) members
