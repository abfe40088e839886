-- Internal: who wants to trust the program need not read this file.
-- Laws of patches.
use Rattle.std.specs.Prelude.{◌≡◌, List}
use Rattle.sf_layers.specs.Content.{Content}
use Rattle.sf_layers.specs.WellFormed.{IsWellFormed}
use Rattle.sf_patches.specs.declared.slot.Slot.{Slot}
use Rattle.sf_patches.specs.Patches.{patched, undoing}
use Rattle.sf_patches.specs.Fits.{FitsPatch}
use Rattle.sf_patches.specs.declared.halves.Halves.{Halves}
use Rattle.sf_patches.specs.Halves.{FitsHalves, after_halves, back_halves}
use Rattle.sf_patches.specs.Merged.{HasAllChanges}

-- a patch that fits is taken back by the one that it leaves, which fits where it leads and leaves the patch
pub record TakesBack (content : Content) (slots : List Slot) : Type 0 where
  pub back : patched (patched content slots) (undoing content slots) ≡ content
  pub fits : FitsPatch (patched content slots) (undoing content slots)
  pub again : undoing (patched content slots) (undoing content slots) ≡ slots

abbrev pub PatchesTakeBack : Type 0
PatchesTakeBack = (content : Content) (slots : List Slot) → FitsPatch content slots → TakesBack content slots

-- halves that fit are taken back by the halves that they leave, which fit where they lead and leave the first ones
pub record TakeBack (content : Content) (halves : Halves) : Type 0 where
  pub back : after_halves (after_halves content halves) (back_halves content halves) ≡ content
  pub fit : FitsHalves (after_halves content halves) (back_halves content halves)
  pub again : back_halves (after_halves content halves) (back_halves content halves) ≡ halves

abbrev pub HalvesTakeBack : Type 0
HalvesTakeBack = (content : Content) (halves : Halves) → FitsHalves content halves → TakeBack content halves

-- a patch that has all in which two well-formed contents differ, read off the second, leads from the first to the second
abbrev pub PatchesOfAllChangesLead : Type 0
PatchesOfAllChangesLead =
    (old new : Content) (slots : List Slot) → FitsPatch old slots → IsWellFormed new → HasAllChanges old new slots → patched old slots ≡ new
