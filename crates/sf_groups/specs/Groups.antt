-- Internal: who wants to trust the program need not read this file.
-- What carrying a group out does, and how much is held that takes it back.
use Rattle.std.specs.Prelude.{◌≡◌, ◌+◌, ℕ, false, List, IsTrue, sum_by, None, Some, Ok, if◌then◌else◌}
use Rattle.std.specs.List.{list_any}
use Rattle.sf_features.specs.Features.{FeatureContent}
use Rattle.sf_layers.specs.Content.{Content}
use Rattle.sf_steps.specs.Inverses.{feature_weight}
use Rattle.sf_patches.specs.declared.slot.Slot.{Slot}
use Rattle.sf_patches.specs.declared.slot.Slot.TheVariants.{Counter, State}
use Rattle.sf_patches.specs.declared.halves.Halves.{Halves}
use Rattle.sf_patches.specs.Halves.{FitsHalves, after_halves}
use Rattle.sf_groups.specs.declared.member.Member.{Member}
use Rattle.sf_groups.specs.declared.group.NotTaken.{NotTaken}
use Rattle.sf_groups.specs.declared.group.NotTaken.TheVariants.{Misplaced, Memory}
use Rattle.sf_groups.specs.Members.{may_follow, names, together}

-- the grid points and values that an exchange holds
abbrev pub slot_weight : Slot → ℕ
slot_weight (Counter place next_id) = 0
slot_weight (State place id None) = 0
slot_weight (State place id (Some feature)) = feature_weight feature

abbrev pub patch_weight : List Slot → ℕ
patch_weight slots = sum_by slot_weight slots

abbrev pub halves_weight : Halves → ℕ
halves_weight halves = patch_weight halves.growing + patch_weight halves.removing

-- the grid points and values of the features that members name, each counted once, as they are before the group
abbrev pub together_touched : Content → List Member → ℕ
together_touched content members =
    sum_by (λ entry. sum_by (λ f. if list_any (names entry.0 f.0) members then feature_weight f.1 else 0) entry.1.features) content

-- the grid points and values that the features of a layer and of a content hold
abbrev pub features_weight : List (ℕ × FeatureContent) → ℕ
features_weight features = sum_by (λ entry. feature_weight entry.1) features

abbrev pub content_weight : Content → ℕ
content_weight content = sum_by (λ entry. features_weight entry.1.features) content

-- a group is accepted: it leads from old to new and gives these identifiers, and the halves take new back to old and hold what
-- the group named, and no more
pub record AcceptsGroup (old : Content) (members : List Member) (halves : Halves) (ids : List ℕ) (new : Content) : Type 0 where
  pub led : together old members ≡ Ok (new, ids)
  pub back : after_halves new halves ≡ old
  pub fits : FitsHalves new halves
  pub weight : halves_weight halves ≡ together_touched old members

-- a member is not taken behind others, and given back: it may not stand there, or there was no memory
abbrev pub IsNotTaken : List Member → Member → NotTaken → Type 0
IsNotTaken earlier member (Misplaced back) = (may_follow earlier member ≡ false) × (back ≡ member)
IsNotTaken earlier member (Memory back) = IsTrue (may_follow earlier member) × (back ≡ member)
