-- Why a geometry, or a change of one of its vertices, may be refused.
use Rattle.std.specs.Prelude.{◌≡◌, List, Result, Ok, Err}
use Rattle.sf_refusals.specs.declared.refusal.Refusal.{Refusal as StoreRefusal}
use Rattle.sf_refusals.specs.declared.refusal.Refusal.TheVariants as store
use Rattle.sf_geometry.specs.declared.geometry.Geometry.{Geometry}
use Rattle.sf_geometry.specs.declared.refusal.Refusal.{Refusal as GeometryRefusal}
use Rattle.sf_geometry.specs.declared.refusal.Refusal.TheVariants as lower
use Rattle.sf_valid_rules.specs.Faults.{refusal_of as fault_refusal_of}
use Rattle.sf_valid_rules.specs.Rules.{Rule, rules_of}
use Rattle.sf_valid_rules.specs.Validity.{IsFirstOf}
use Rattle.sf_validity.specs.declared.refusal.Refusal.{Refusal}
use Rattle.sf_validity.specs.declared.refusal.Refusal.TheVariants.{Memory, Empty, TooManyVertices, NoVertex, Invalid}

-- the refusal of the store
abbrev pub refusal_of : Refusal → StoreRefusal
refusal_of Memory = store.Memory
refusal_of Empty = store.Empty
refusal_of TooManyVertices = store.TooManyVertices
refusal_of NoVertex = store.NoVertex
refusal_of (Invalid fault) = fault_refusal_of fault

-- a refusal of the geometry, as one of this layer
abbrev pub from_geometry : GeometryRefusal → Refusal
from_geometry lower.Memory = Memory
from_geometry lower.Empty = Empty
from_geometry lower.TooManyVertices = TooManyVertices
from_geometry lower.NoVertex = NoVertex

-- by these rules there is such a refusal: that of the first one that applies, or out of memory
abbrev pub RefusesBy : List Rule → Refusal → Type 0
RefusesBy rules Memory = Unit {0}
RefusesBy rules (Invalid fault) = IsFirstOf rules fault
RefusesBy rules _ = ⊥

-- the geometry may be refused so: for its first fault, or as out of memory
abbrev pub Refuses : Geometry → Refusal → Type 0
Refuses geometry refusal = RefusesBy (rules_of geometry) refusal

-- a change of a vertex may be refused so: as that of the geometry is, never as out of memory in its place, or for
-- what comes of it
abbrev pub RefusesChange : Result Geometry GeometryRefusal → Refusal → Type 0
RefusesChange (Err lower) refusal = refusal ≡ from_geometry lower
RefusesChange (Ok changed) refusal = Refuses changed refusal
