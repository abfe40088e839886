-- Internal: who wants to trust the program need not read this file.
-- What steps are made of, in the words of the crates below, passed on to those that keep a history of them.
pub use Rattle.sf_steps.specs.declared.answer.Answer.{Answer}
pub use Rattle.sf_steps.specs.declared.edit.Edit.{Edit}
pub use Rattle.sf_steps.specs.declared.refusal.Refusal.{Refusal as EditRefusal}
pub use Rattle.sf_steps.specs.Steps.{step}
pub use Rattle.sf_groups.specs.declared.member.Member.{Member}
pub use Rattle.sf_groups.specs.Members.{Refused, together}
pub use Rattle.sf_ruled_store.specs.Changes.{OfEdit, OfGroup}
pub use Rattle.sf_rules.specs.declared.rule.Rule.{Rule}
