-- Internal: who wants to trust the program need not read this file.
-- What is carried out, in the words of the crates below, passed on to those that keep a session.
pub use Rattle.sf_steps.specs.declared.answer.Answer.{Answer}
pub use Rattle.sf_groups.specs.declared.member.Member.{Member}
pub use Rattle.sf_history.specs.Recorded.{AddRule as Adding, DropRule as Dropping}
pub use Rattle.sf_history.specs.Recorded.{StepRefusal}
pub use Rattle.sf_commands.specs.declared.command.Command.{Command}
pub use Rattle.sf_commands.specs.declared.command.Command.TheVariants.{AddRule, DropRule, Edit, Undo, Redo}
pub use Rattle.sf_commands.specs.declared.group_text.GroupRefusal.{GroupRefusal}
pub use Rattle.sf_commands.specs.declared.head.Head.{Head}
pub use Rattle.sf_commands.specs.Commands.{OrMemoryIf, command_of, takes_memory}
pub use Rattle.sf_commands.specs.GroupTexts.{OrNoMemory, group_of}
