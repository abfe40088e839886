-- Patches in two halves: what may need memory, and what is removed behind it.
use Rattle.std.specs.Prelude.{List, None, Some}
use Rattle.std.specs.List.{AllByRecursion}
use Rattle.sf_layers.specs.Content.{Content}
use Rattle.sf_layers.specs.WellFormed.{IsWellFormed}
use Rattle.sf_patches.specs.declared.slot.Slot.{Slot}
use Rattle.sf_patches.specs.declared.slot.Slot.TheVariants.{Counter, State}
use Rattle.sf_patches.specs.declared.halves.Halves.{Halves}
use Rattle.sf_patches.specs.Fits.{StayFine}
use Rattle.sf_patches.specs.Patches.{NoneGrows, NoneRemoves, patched, undoing}

-- the content after the first half
abbrev pub after_growing : Content → Halves → Content
after_growing content halves = patched content halves.growing

-- and after both
abbrev pub after_halves : Content → Halves → Content
after_halves content halves = patched (after_growing content halves) halves.removing

-- what takes them back: what the second half leaves, and then what the first one does
abbrev pub back_halves : Content → Halves → Halves
back_halves content halves = record {
  growing = undoing (after_growing content halves) halves.removing;
  removing = undoing content halves.growing;
}

-- halves fit a content: each exchange can be made, none of the first half removes a feature, and none of the second puts one where none is
pub record FitsHalves (content : Content) (halves : Halves) : Type 0 where
  pub well_formed : IsWellFormed content
  pub fine : StayFine content halves.growing
  pub none_removes : NoneRemoves content halves.growing
  pub then_fine : StayFine (after_growing content halves) halves.removing
  pub none_grows : NoneGrows (after_growing content halves) halves.removing

-- the exchange leaves no feature where it is
abbrev pub IsRemoval : Slot → Type 0
IsRemoval (State place id None) = Unit {0}
IsRemoval (State place id (Some feature)) = ⊥
IsRemoval (Counter place next_id) = ⊥

abbrev pub RemovesOnly : List Slot → Type 0
RemovesOnly slots = AllByRecursion IsRemoval slots
