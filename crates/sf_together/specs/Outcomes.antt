-- Internal: who wants to trust the program need not read this file.
-- Why a group is refused.
use Rattle.std.specs.Prelude.{◌≡◌, ◌++◌, ℕ, List, Result, Ok, Err}
use Rattle.sf_layers.specs.Content.{Content}
use Rattle.sf_groups.specs.declared.member.Member.{Member as GroupMember}
use Rattle.sf_groups.specs.Members.{ids_given, resolved, together}
use Rattle.sf_steps.specs.declared.answer.Answer.{Answer}
use Rattle.sf_steps.specs.declared.refusal.Refusal.{Refusal as StepRefusal}
use Rattle.sf_steps.specs.declared.refusal.Refusal.TheVariants as steps
use Rattle.sf_steps.specs.Steps.{step}
use Rattle.sf_together.specs.declared.outcome.Refusal.{Refusal}
use Rattle.sf_together.specs.declared.outcome.Refusal.TheVariants.{Member, Memory}

-- a group is refused so: for the first member that is refused, or as out of memory
abbrev pub IsRefusedAs : Content → List GroupMember → Refusal → Type 0
IsRefusedAs old members (Member number refusal) = together old members ≡ Err (record { member = number; refusal = refusal })
IsRefusedAs old members Memory = Unit {0}

-- ---- one member

-- a member is carried out, and the identifiers that it gave stand behind the others
pub record IsCarriedOut (old : Content) (member : GroupMember) (new : Content) (ids more : List ℕ) : Type 0 where
  pub answer : Answer
  pub led : step old (resolved old member) ≡ Ok (new, answer)
  pub given : more ≡ ids ++ ids_given answer

-- the refusal of a group whose member of this number is refused so
abbrev pub refused_as : ℕ → StepRefusal → Refusal
refused_as number steps.Memory = Memory
refused_as number refusal = Member number refusal

-- a member of this number is refused so, or no memory was found
abbrev pub IsStepRefused : ℕ → Result (Content × Answer) StepRefusal → Refusal → Type 0
IsStepRefused number result (Member found refusal) = (found ≡ number) × (result ≡ Err refusal)
IsStepRefused number result Memory = Unit {0}
