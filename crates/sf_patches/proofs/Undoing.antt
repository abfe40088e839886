-- What takes exchanges back, built from the first one on.
use Rattle.std.proofs.Common.{List, [], ◌∷◌}
use Rattle.sf_layers.specs.Content.{Content}
use Rattle.sf_patches.specs.declared.slot.Slot.{Slot}
use Rattle.sf_patches.specs.Patches.{before, with_slot}

-- the exchanges that take these back, the last one first, and others behind them
abbrev pub undoing_onto : Content → List Slot → List Slot → List Slot
undoing_onto content [] others = others
undoing_onto content (slot ∷ slots) others = undoing_onto (with_slot slot content) slots (before content slot ∷ others)

abbrev pub undone_by : Content → List Slot → List Slot
undone_by content slots = undoing_onto content slots []
