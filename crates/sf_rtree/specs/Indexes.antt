-- Internal: who wants to trust the program need not read this file.
-- What an index has: boxes by identifier, rising.
use Rattle.std.specs.Prelude.{ℕ, List, Option, filter, nat_eq}
use Rattle.std.specs.Map.{keys_of, lookup, remove_entry}
use Rattle.std.specs.Ordering.{nat_cmp}
use Rattle.std.specs.BTreeMap.{insert_entry}
use Rattle.sf_geometry.specs.declared.extent.Extent.{Extent}
use Rattle.sf_geometry.specs.Envelope.{extents_meet}

-- a finite map from identifier to box, as its entries in rising order
abbrev pub Boxes : Type 0
Boxes = List (ℕ × Extent)

-- the box of an identifier
abbrev pub box_of : Boxes → ℕ → Option Extent
box_of boxes id = lookup (nat_eq id) boxes

-- the map with a box under an identifier, and without the box of an identifier
abbrev pub with_box : ℕ → Extent → Boxes → Boxes
with_box id extent boxes = insert_entry nat_cmp boxes id extent

abbrev pub without_box : ℕ → Boxes → Boxes
without_box id boxes = remove_entry (nat_eq id) boxes

-- the identifiers of the boxes that share a point with the given one, rising
abbrev pub ids_meeting : Extent → Boxes → List ℕ
ids_meeting extent boxes = keys_of (filter (λ entry. extents_meet entry.1 extent) boxes)
