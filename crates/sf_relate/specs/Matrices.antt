-- DE-9IM matrices (6.1.15.2): the dimensions of the nine intersections of interior, boundary and exterior, row by row.
use Rattle.std.specs.Prelude.{◌≡◌, ◌&&◌, List, [], ◌∷◌, map}
use Rattle.std.specs.List.{flat_map}
use Rattle.sf_geometry.specs.declared.geometry.Geometry.{Geometry}
use Rattle.sf_geometry.specs.PointSets.{in_boundary, in_exterior, in_interior}
use Rattle.sf_plane.specs.declared.dim.Dim.{Dim}
use Rattle.sf_plane.specs.Dimension.{HasDimension, PointSet}
use Rattle.sf_plane.specs.Unions.{dimension_by_samples}
use Rattle.sf_relate.specs.AllPieces.{all_pieces}

-- the point sets of a geometry
abbrev pub sets_of : Geometry → List PointSet
sets_of a = in_interior a ∷ in_boundary a ∷ in_exterior a ∷ []

-- the points of both sets
abbrev pub both : PointSet → PointSet → PointSet
both s t q = s q && t q

-- the nine intersections: rows are the sets of a, columns those of b
abbrev pub intersections : Geometry → Geometry → List PointSet
intersections a b = flat_map (λ s. map (both s) (sets_of b)) (sets_of a)

-- the dimensions of these sets, one by one
abbrev pub AreDimensions : List PointSet → List Dim → Type 0
AreDimensions [] [] = Unit {0}
AreDimensions (s ∷ ss) (d ∷ ds) = HasDimension s d × AreDimensions ss ds
AreDimensions [] (d ∷ ds) = ⊥
AreDimensions (s ∷ ss) [] = ⊥

-- the entries of the DE-9IM matrix of a and b, over all points of the plane
abbrev pub IsMatrix : Geometry → Geometry → List Dim → Type 0
IsMatrix a b entries = AreDimensions (intersections a b) entries

-- computes the entries (IsMatrix), as MatricesAreOverThePlane below says: from the samples of the pieces of both
abbrev pub matrix_of : Geometry → Geometry → List Dim
matrix_of a b = map (dimension_by_samples (all_pieces a b)) (intersections a b)

-- what is computed is the matrix over the plane, and no other is
pub record MatrixIsOverThePlane (a b : Geometry) : Type 0 where
  pub computed : IsMatrix a b (matrix_of a b)
  pub only : (entries : List Dim) → IsMatrix a b entries → entries ≡ matrix_of a b

abbrev pub MatricesAreOverThePlane : Type 0
MatricesAreOverThePlane = (a b : Geometry) → MatrixIsOverThePlane a b
