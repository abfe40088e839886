-- Internal: who wants to trust the program need not read this file.
-- The matrix of a geometry with an area, by those edges of the area that are on points of the geometry or above them.
use Rattle.std.specs.Prelude.{List, ◌++◌, IsTrue, map}
use Rattle.sf_grid.specs.Edge.{Edge}
use Rattle.sf_grid.specs.Plane.{IsPoint, Point as PlanePoint}
use Rattle.sf_strips.specs.declared.piece.Piece.{Piece}
use Rattle.sf_geometry.specs.declared.geometry.Geometry.{Geometry}
use Rattle.sf_geometry.specs.PointSets.{in_boundary, in_exterior, in_interior}
use Rattle.sf_plane.specs.Dimension.{HasSegment, HasTriangle}
use Rattle.sf_pieces.specs.Marked.{Marked, marked, piece_of}
use Rattle.sf_relate.specs.AllPieces.{grouped, with_ends}
use Rattle.sf_relate.specs.Contact.{is_in}
use Rattle.sf_relate.specs.Locating.{edges_place}
use Rattle.sf_relate.specs.Matrices.{both}
use Rattle.sf_relate.specs.Places.{IsPlaceOf}

-- of each point of a these edges tell its place in the area
abbrev pub TellPlaces : Geometry → Geometry → List Edge → Type 0
TellPlaces a area es = (q : PlanePoint) → IsPoint q → IsTrue (is_in a q) → IsPlaceOf area q (edges_place es q)

-- outside of a the area has a part of its interior with area, and a part of its boundary with length
pub record ReachesBeyond (a area : Geometry) : Type 0 where
  pub interior : HasTriangle (both (in_exterior a) (in_interior area))
  pub boundary : HasSegment (both (in_exterior a) (in_boundary area))

-- the pieces of a with its ends, and these edges, which come first
abbrev pub nearby_pieces : Geometry → List Edge → List Piece
nearby_pieces a es = map piece_of es ++ with_ends a

-- in groups: 0 for the pieces of a, 1 for the edges, 2 for the ends of a
abbrev pub nearby_grouped : Geometry → List Edge → List Marked
nearby_grouped a es = marked 1 (map piece_of es) ++ grouped 0 2 a
