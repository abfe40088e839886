-- Faults of a well-known text among the refusals of the store.
use Rattle.sf_refusals.specs.declared.refusal.Refusal.{Refusal}
use Rattle.sf_refusals.specs.declared.refusal.Refusal.TheVariants as refusals
use Rattle.sf_wkt.specs.declared.fault.WktFault.{WktFault}
use Rattle.sf_wkt.specs.declared.fault.WktFault.TheVariants.{Memory, Syntax, OffGrid, OutOfRange, Empty, UnsupportedType, TooManyVertices}

-- the refusal of a fault
abbrev pub refusal_of : WktFault → Refusal
refusal_of Memory = refusals.Memory
refusal_of (Syntax place) = refusals.Syntax
refusal_of OffGrid = refusals.OffGrid
refusal_of OutOfRange = refusals.OutOfRange
refusal_of Empty = refusals.Empty
refusal_of UnsupportedType = refusals.UnsupportedType
refusal_of TooManyVertices = refusals.TooManyVertices
