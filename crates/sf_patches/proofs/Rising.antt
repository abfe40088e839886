-- Contents whose features stand by rising identifiers.
use Rattle.std.proofs.Common.{List, [], ◌∷◌}
use Rattle.std.specs.List.{AllByRecursion}
use Rattle.std.specs.List.Sorted.{IsStrictlySortedBy}
use Rattle.std.specs.Map.{keys_of, values_of}
use Rattle.std.specs.Ordering.{nat_cmp}
use Rattle.sf_layers.specs.Content.{Content}
use Rattle.sf_patches.specs.declared.slot.Slot.{Slot}
use Rattle.sf_patches.specs.Patches.{with_slot}

-- features of each layer stand by rising identifiers
abbrev pub AreRising : Content → Type 0
AreRising content = AllByRecursion (λ layer. IsStrictlySortedBy nat_cmp (keys_of layer.features)) (values_of content)

-- and still do after each exchange
abbrev pub KeepRising : Content → List Slot → Type 0
KeepRising content [] = Unit {0}
KeepRising content (slot ∷ slots) = AreRising (with_slot slot content) × KeepRising (with_slot slot content) slots
