-- The refusals of edits among those of the store.
use Rattle.sf_refusals.specs.declared.refusal.Refusal.{Refusal as StoreRefusal}
use Rattle.sf_refusals.specs.declared.refusal.Refusal.TheVariants as refusals
use Rattle.sf_geometry.specs.declared.refusal.Refusal.{Refusal as GeometryRefusal}
use Rattle.sf_valid_rules.specs.Faults.{refusal_of as fault_refusal_of}
use Rattle.sf_validity.specs.declared.refusal.Refusal.{Refusal as ValidityRefusal}
use Rattle.sf_validity.specs.declared.refusal.Refusal.TheVariants as validities
use Rattle.sf_validity.specs.Refusals.{from_geometry as validity_from_geometry}
use Rattle.sf_steps.specs.declared.refusal.Refusal.{Refusal}
use Rattle.sf_steps.specs.declared.refusal.Refusal.TheVariants.{Memory, Empty, TooManyVertices, Invalid, NoLayer, LayerExists, BadName, NoFeature, NoColumn, ColumnExists, WrongValue, NoVertex, WrongKind, IdsExhausted, ColumnsExhausted, BadPlace}

-- the refusal of an edit, as one of the store
abbrev pub refusal_of : Refusal → StoreRefusal
refusal_of Memory = refusals.Memory
refusal_of Empty = refusals.Empty
refusal_of TooManyVertices = refusals.TooManyVertices
refusal_of (Invalid fault) = fault_refusal_of fault
refusal_of NoLayer = refusals.NoLayer
refusal_of LayerExists = refusals.LayerExists
refusal_of BadName = refusals.BadName
refusal_of NoFeature = refusals.NoFeature
refusal_of NoColumn = refusals.NoColumn
refusal_of ColumnExists = refusals.ColumnExists
refusal_of WrongValue = refusals.WrongValue
refusal_of NoVertex = refusals.NoVertex
refusal_of WrongKind = refusals.WrongKind
refusal_of IdsExhausted = refusals.IdsExhausted
refusal_of ColumnsExhausted = refusals.ColumnsExhausted
refusal_of BadPlace = refusals.BadPlace

-- the refusal of an edit for that of a geometry's validity, or of a change of its vertices
abbrev pub from_validity : ValidityRefusal → Refusal
from_validity validities.Memory = Memory
from_validity validities.Empty = Empty
from_validity validities.TooManyVertices = TooManyVertices
from_validity validities.NoVertex = NoVertex
from_validity (validities.Invalid fault) = Invalid fault

-- and for that of its size, or of a change of its vertices that cannot be made
abbrev pub from_geometry : GeometryRefusal → Refusal
from_geometry refusal = from_validity (validity_from_geometry refusal)
