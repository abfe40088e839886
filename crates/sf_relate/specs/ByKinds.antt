-- Internal: who wants to trust the program need not read this file.
-- Matrices that the kinds and the ends of two geometries tell, where they share no point, where the second one's interior has
-- the first whole, or where they are written alike.
use Rattle.std.specs.Prelude.{◌≡◌, Bool, List, [], ◌∷◌, IsTrue, count_by}
use Rattle.std.specs.List.{list_any}
use Rattle.sf_grid.specs.Plane.{Coordinates, IsPoint, Point as PlanePoint, grid_point}
use Rattle.sf_grid.specs.EvenOdd.{is_odd}
use Rattle.sf_geometry.specs.declared.geometry.Geometry.{Geometry}
use Rattle.sf_geometry.specs.Lists.{ends_of}
use Rattle.sf_geometry.specs.PointSets.{in_exterior, in_interior, is_among}
use Rattle.sf_interiors.specs.Dimensions.{boundary_dim, interior_dim}
use Rattle.sf_plane.specs.declared.dim.Dim.{Dim}
use Rattle.sf_plane.specs.declared.dim.Dim.TheVariants.{Nothing, Two}
use Rattle.sf_plane.specs.Dimension.{HasTriangle}
use Rattle.sf_valid_rules.specs.Validity.{IsValid}
use Rattle.sf_relate.specs.Contact.{SharePoint, is_in}
use Rattle.sf_relate.specs.Matrices.{IsMatrix, both, matrix_of}

-- each lies in the other's exterior
abbrev pub apart_entries : Geometry → Geometry → List Dim
apart_entries a b =
    Nothing ∷ Nothing ∷ interior_dim a
    ∷ Nothing ∷ Nothing ∷ boundary_dim a
    ∷ interior_dim b ∷ boundary_dim b ∷ Two ∷ []

-- the first lies in the second one's interior, and leaves a part of it free
abbrev pub inside_entries : Geometry → Geometry → List Dim
inside_entries a b =
    interior_dim a ∷ Nothing ∷ Nothing
    ∷ boundary_dim a ∷ Nothing ∷ Nothing
    ∷ interior_dim b ∷ boundary_dim b ∷ Two ∷ []

-- both are the same
abbrev pub alike_entries : Geometry → List Dim
alike_entries a =
    interior_dim a ∷ Nothing ∷ Nothing
    ∷ Nothing ∷ boundary_dim a ∷ Nothing
    ∷ Nothing ∷ Nothing ∷ Two ∷ []

-- the entries are those of the matrix, over the plane and as computed
pub record IsDecidedBy (a b : Geometry) (entries : List Dim) : Type 0 where
  pub plane : IsMatrix a b entries
  pub computed : entries ≡ matrix_of a b

-- valid geometries that share no point have the matrix of those that are apart
abbrev pub ApartIsDecided : Type 0
ApartIsDecided = (a b : Geometry) → IsValid a → IsValid b → ¬ (SharePoint a b) → IsDecidedBy a b (apart_entries a b)

-- all points of the first are in the second one's interior, which has a triangle beside it
pub record IsWithin (a b : Geometry) : Type 0 where
  pub inside : (q : PlanePoint) → IsPoint q → IsTrue (is_in a q) → IsTrue (in_interior b q)
  pub beside : HasTriangle (both (in_exterior a) (in_interior b))

-- so is the matrix told of valid ones of which the second is an area
abbrev pub WithinIsDecided : Type 0
WithinIsDecided = (a b : Geometry) → IsValid a → IsValid b → IsWithin a b → interior_dim b ≡ Two → IsDecidedBy a b (inside_entries a b)

-- so is that of a valid one with itself
abbrev pub AlikeIsDecided : Type 0
AlikeIsDecided = (a : Geometry) → IsValid a → IsDecidedBy a a (alike_entries a)

-- no point is in both
abbrev pub ShareNone : Geometry → Geometry → Type 0
ShareNone a b = ¬ (SharePoint a b)

-- how many of the lines end there is odd, and so for one of the points
abbrev pub is_odd_end : List (List Coordinates) → Coordinates → Bool
is_odd_end lines p = is_odd (count_by (λ ps. is_among (ends_of ps) (grid_point p)) lines)

abbrev pub has_odd_end : List (List Coordinates) → List Coordinates → Bool
has_odd_end lines ps = list_any (is_odd_end lines) (ends_of ps)
