-- Internal: who wants to trust the program need not read this file.
-- Why a step on rules is refused.
use Rattle.std.specs.Prelude.{◌≡◌, ℕ, List, [], ◌∷◌, Result, Err}
use Rattle.sf_layers.specs.Content.{Content}
use Rattle.sf_rules.specs.declared.rule.Rule.{Rule}
use Rattle.sf_ruled_store.specs.declared.refusal.Refusal.{Refusal}
use Rattle.sf_steps.specs.declared.answer.Answer.{Answer}
use Rattle.sf_steps.specs.declared.answer.Answer.TheVariants.{Done, Id}
use Rattle.sf_steps.specs.declared.refusal.Refusal.{Refusal as EditRefusal}
use Rattle.sf_steps.specs.declared.refusal.Refusal.TheVariants as edits
use Rattle.sf_together.specs.declared.outcome.Refusal.{Refusal as GroupRefusal}
use Rattle.sf_together.specs.declared.outcome.Refusal.TheVariants as groups
use Rattle.sf_rules.specs.declared.exchanging.NotExchanged.{NotExchanged}
use Rattle.sf_rules.specs.declared.exchanging.NotExchanged.TheVariants as exchanges
use Rattle.sf_ruled_store.specs.declared.refusal.Refusal.TheVariants.{ByEdit, ByMember, Memory, RuleBroken}
use Rattle.sf_ruled_store.specs.Ruled.{Ruled}

-- a content with rules
abbrev pub ruled : Content → List Rule → Ruled
ruled content rules = record { content = content; rules = rules }

-- it is refused so, or no memory was found
abbrev pub IsRefusedAs : Result Ruled Refusal → Refusal → Type 0
IsRefusedAs result Memory = Unit {0}
IsRefusedAs result refusal = result ≡ Err refusal

-- ---- refusals of what a step is made of

-- of an edit
abbrev pub by_edit : EditRefusal → Refusal
by_edit edits.Memory = Memory
by_edit refusal = ByEdit refusal

-- of a group
abbrev pub by_member : GroupRefusal → Refusal
by_member (groups.Member number refusal) = ByMember number refusal
by_member groups.Memory = Memory

-- of an exchange under rules
abbrev pub by_rules : NotExchanged → Refusal
by_rules (exchanges.Broken broken) = RuleBroken broken
by_rules exchanges.Memory = Memory

-- of an edit that is the only one of a group
abbrev pub as_edit : Refusal → Refusal
as_edit (ByMember number refusal) = ByEdit refusal
as_edit refusal = refusal

-- of a group whose only edit is refused so
abbrev pub as_member : Refusal → Refusal
as_member (ByEdit refusal) = ByMember 1 refusal
as_member refusal = refusal

-- ---- answers

-- what an edit answers that gives these identifiers
abbrev pub answer_of : List ℕ → Answer
answer_of [] = Done
answer_of (id ∷ ids) = Id id
