-- Internal: who wants to trust the program need not read this file.
-- The refusals of geometries among those of the store.
use Rattle.sf_refusals.specs.declared.refusal.Refusal.{Refusal as StoreRefusal}
use Rattle.sf_refusals.specs.declared.refusal.Refusal.TheVariants as store
use Rattle.sf_geometry.specs.declared.refusal.Refusal.{Refusal}
use Rattle.sf_geometry.specs.declared.refusal.Refusal.TheVariants.{Memory, Empty, TooManyVertices, NoVertex}

abbrev pub refusal_of : Refusal → StoreRefusal
refusal_of Memory = store.Memory
refusal_of Empty = store.Empty
refusal_of TooManyVertices = store.TooManyVertices
refusal_of NoVertex = store.NoVertex
