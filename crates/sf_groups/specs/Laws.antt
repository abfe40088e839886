-- Internal: who wants to trust the program need not read this file.
-- Laws of groups.
use Rattle.std.specs.Prelude.{◌≡◌, ◌+◌, ◌∷◌, [], ℕ, false, List, Ok, Err}
use Rattle.std.specs.List.{AllByRecursion}
use Rattle.sf_layers.specs.Content.{Content}
use Rattle.sf_layers.specs.WellFormed.{IsWellFormed}
use Rattle.sf_steps.specs.declared.answer.Answer.{Answer}
use Rattle.sf_steps.specs.declared.edit.Edit.{Edit}
use Rattle.sf_steps.specs.Steps.{step}
use Rattle.sf_steps.specs.Laws.{BringsGridPoints}
use Rattle.sf_groups.specs.declared.member.Member.{Member}
use Rattle.sf_groups.specs.Groups.{content_weight}
use Rattle.sf_groups.specs.Members.{IsGroup, Refused, ids_given, together}
use Rattle.sf_groups.specs.Scratches.{IsScratchFor, Shows, is_of_layer, is_looked_at}

-- a group keeps a content well formed
abbrev pub GroupsKeepWellFormed : Type 0
GroupsKeepWellFormed =
    (old new : Content) (members : List Member) (ids : List ℕ) → AllByRecursion (λ member. BringsGridPoints member.edit) members → IsWellFormed old
    → together old members ≡ Ok (new, ids) → IsWellFormed new

-- what a group does on a scratch content it does on the whole one, which gains as much as the scratch content does
pub record DoesAlike (whole : Content) (members : List Member) (scratch : Content) : Type 0 where
  pub refused : (refused : Refused) → together scratch members ≡ Err refused → together whole members ≡ Err refused
  pub carried : (after : Content) (ids : List ℕ) → together scratch members ≡ Ok (after, ids)
      → (new : Content) × (together whole members ≡ Ok (new, ids)) × Shows (is_of_layer members) (is_looked_at whole members) new after
      × (content_weight new + content_weight scratch ≡ content_weight whole + content_weight after)

abbrev pub ScratchesDoAlike : Type 0
ScratchesDoAlike =
    (whole scratch : Content) (members : List Member) → IsGroup members → AllByRecursion (λ member. BringsGridPoints member.edit) members
    → IsWellFormed whole → IsWellFormed scratch → IsScratchFor whole members scratch → DoesAlike whole members scratch

-- one edit alone as a group is the edit
abbrev pub OneIsTheEdit : Type 0
OneIsTheEdit =
    (old new : Content) (edit : Edit) (answer : Answer) → step old edit ≡ Ok (new, answer)
    → together old (record { edit = edit; of_last = false } ∷ []) ≡ Ok (new, ids_given answer)
