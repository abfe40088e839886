-- When a patch can be exchanged with a store.
use Rattle.std.specs.Prelude.{◌<◌, List, [], ◌∷◌, length}
use Rattle.sf_layers.specs.Content.{Content}
use Rattle.sf_layers.specs.WellFormed.{IsWellFormed}
use Rattle.sf_patches.specs.declared.slot.Slot.{Slot}
use Rattle.sf_patches.specs.declared.slot.Slot.TheVariants.{Counter, State}
use Rattle.sf_patches.specs.Patches.{with_slot, GrowsFirst}

-- there is a layer at the place of an exchange
abbrev pub IsAt : Content → Slot → Type 0
IsAt content (Counter place next_id) = place < length content
IsAt content (State place id state) = place < length content

-- each exchange is of a layer that is there, and the content is well formed after it
abbrev pub StayFine : Content → List Slot → Type 0
StayFine content [] = Unit {0}
StayFine content (slot ∷ slots) = IsAt content slot × IsWellFormed (with_slot slot content) × StayFine (with_slot slot content) slots

-- a patch fits a content: its exchanges can be made one after another, those that need memory before those that leave none
pub record FitsPatch (content : Content) (slots : List Slot) : Type 0 where
  pub well_formed : IsWellFormed content
  pub fine : StayFine content slots
  pub first : GrowsFirst content slots
