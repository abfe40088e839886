-- Faults of well-known binary among the refusals of the store.
use Rattle.sf_refusals.specs.declared.refusal.Refusal.{Refusal}
use Rattle.sf_refusals.specs.declared.refusal.Refusal.TheVariants as refusals
use Rattle.sf_wkb.specs.declared.fault.WkbFault.{WkbFault}
use Rattle.sf_wkb.specs.declared.fault.WkbFault.TheVariants.{Memory, OffGrid, OutOfRange, Empty, UnsupportedType, Truncated, Trailing, TooManyVertices}

-- the refusal of a fault
abbrev pub refusal_of : WkbFault → Refusal
refusal_of Memory = refusals.Memory
refusal_of OffGrid = refusals.OffGrid
refusal_of OutOfRange = refusals.OutOfRange
refusal_of Empty = refusals.Empty
refusal_of UnsupportedType = refusals.UnsupportedType
refusal_of Truncated = refusals.Truncated
refusal_of Trailing = refusals.Trailing
refusal_of TooManyVertices = refusals.TooManyVertices
