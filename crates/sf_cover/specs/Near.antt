-- Internal: who wants to trust the program need not read this file.
-- That a change of a layer leaves no gap: what has to be looked at is where features were that changed, and what is there now.
use Rattle.std.specs.Prelude.{◌≡◌, ◌⊎◌, ℕ, List, [], ◌∷◌, None, Some, IsTrue}
use Rattle.std.specs.List.{Contains}
use Rattle.sf_grid.specs.Plane.{IsPoint, Point as PlanePoint}
use Rattle.sf_geometry.specs.declared.geometry.Geometry.{Geometry}
use Rattle.sf_layers.specs.Content.{LayerContent, geometry_of}
use Rattle.sf_relate.specs.Contact.{is_in}
use Rattle.sf_cover.specs.Covered.{first_gap}

-- a point is in a feature of a layer
pub record IsInFeature (layer : LayerContent) (q : PlanePoint) : Type 0 where
  pub id : ℕ
  pub geometry : Geometry
  pub there : geometry_of layer id ≡ Some geometry
  pub has : IsTrue (is_in geometry q)

-- each point of a geometry, over all points of the plane, is in a feature of a layer
abbrev pub IsCoveredBy : LayerContent → Geometry → Type 0
IsCoveredBy layer whole = (q : PlanePoint) → IsPoint q → IsTrue (is_in whole q) → IsInFeature layer q

-- each of these is the geometry of a feature of a layer
abbrev pub AreOf : LayerContent → List Geometry → Type 0
AreOf layer geometries = (a : Geometry) → Contains geometries a → (id : ℕ) × (geometry_of layer id ≡ Some a)

-- what is found of some features of a layer: no sample of a geometry is in a gap between them
pub record IsFoundCovered (layer : LayerContent) (wholes : List Geometry) : Type 0 where
  pub near : List Geometry
  pub there : AreOf layer near
  pub found : first_gap wholes near ≡ None

-- a feature has the geometry that it had, or what that had of the whole is in features that are there now
abbrev pub IsKeptAt : LayerContent → Geometry → ℕ → Geometry → Type 0
IsKeptAt layer whole id old = (geometry_of layer id ≡ Some old) ⊎ IsFoundCovered layer (whole ∷ old ∷ [])

-- a layer covers a geometry where what is found of some of its features says so
abbrev pub CoverIsFound : Type 0
CoverIsFound = (layer : LayerContent) (whole : Geometry) → IsFoundCovered layer (whole ∷ []) → IsCoveredBy layer whole

-- after a change it covers what it covered before, where that is kept at each feature that there was
abbrev pub CoverIsKeptNear : Type 0
CoverIsKeptNear =
    (old new : LayerContent) (whole : Geometry) → IsCoveredBy old whole
    → ((id : ℕ) (a : Geometry) → geometry_of old id ≡ Some a → IsKeptAt new whole id a)
    → IsCoveredBy new whole
