-- Internal: who wants to trust the program need not read this file.
-- Gaps: the points of a geometry that lie in none of several others.
use Rattle.std.specs.Prelude.{◌≡◌, ◌↔◌, ◌&&◌, ◌++◌, not, List, Option, None, Some, IsTrue}
use Rattle.std.specs.List.{find, flat_map, list_any}
use Rattle.sf_grid.specs.Plane.{IsPoint, Point as PlanePoint}
use Rattle.sf_strips.specs.declared.piece.Piece.{Piece}
use Rattle.sf_cells.specs.Samples.{Sample, samples}
use Rattle.sf_geometry.specs.declared.geometry.Geometry.{Geometry}
use Rattle.sf_plane.specs.Dimension.{PointSet}
use Rattle.sf_relate.specs.AllPieces.{with_ends}
use Rattle.sf_relate.specs.Contact.{is_in}

-- q is in one of several geometries
abbrev pub is_in_some : List Geometry → PointSet
is_in_some covers q = list_any (λ cover. is_in cover q) covers

-- q is in all of several geometries
abbrev pub is_in_each : List Geometry → PointSet
is_in_each wholes q = not (list_any (λ whole. not (is_in whole q)) wholes)

-- q is in a gap: in all of the first, and in none of the second
abbrev pub in_gap : List Geometry → List Geometry → PointSet
in_gap wholes covers q = is_in_each wholes q && not (is_in_some covers q)

-- no point of the plane is: each that is in all of the first is in one of the second
abbrev pub IsCovered : List Geometry → List Geometry → Type 0
IsCovered wholes covers = (q : PlanePoint) → IsPoint q → IsTrue (is_in_each wholes q) → IsTrue (is_in_some covers q)

-- ---- as it is computed

-- the pieces of geometries, with the ends of their lines
abbrev pub pieces_of_each : List Geometry → List Piece
pieces_of_each geometries = flat_map with_ends geometries

-- the pieces of all
abbrev pub pieces_in : List Geometry → List Geometry → List Piece
pieces_in wholes covers = pieces_of_each (wholes ++ covers)

-- the first sample that is in a gap
abbrev pub first_gap : List Geometry → List Geometry → Option Sample
first_gap wholes covers = find (λ s. in_gap wholes covers s.point) (samples (pieces_in wholes covers))

-- none is just where there is no gap over all points of the plane
abbrev pub CoverIsOverThePlane : Type 0
CoverIsOverThePlane = (wholes covers : List Geometry) → (first_gap wholes covers ≡ None) ↔ IsCovered wholes covers

-- one that is found is a point of the plane in a gap
abbrev pub GapsAreInThePlane : Type 0
GapsAreInThePlane =
    (wholes covers : List Geometry) (s : Sample) → first_gap wholes covers ≡ Some s
    → IsPoint s.point × IsTrue (in_gap wholes covers s.point)
