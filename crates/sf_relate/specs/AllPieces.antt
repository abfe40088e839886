-- Computes the samples of two geometries: to be trusted by the law MatricesAreOverThePlane of sf_relate, and not by reading.
-- The pieces of two geometries, in groups.
use Rattle.std.specs.Prelude.{ℕ, List, [], ◌∷◌, ◌++◌, map}
use Rattle.std.specs.List.{flat_map}
use Rattle.sf_grid.specs.Plane.{Coordinates}
use Rattle.sf_strips.specs.declared.piece.Piece.{Piece}
use Rattle.sf_strips.specs.declared.piece.Piece.TheVariants as pieces
use Rattle.sf_geometry.specs.declared.geometry.Geometry.{Geometry}
use Rattle.sf_geometry.specs.declared.geometry.Geometry.TheVariants.{Point, MultiPoint}
use Rattle.sf_geometry.specs.Lists.{edges_of as edges_of_list}
use Rattle.sf_geometry.specs.Parts.{edges_of, ends_of}
use Rattle.sf_pieces.specs.Marked.{Marked, marked, piece_of}

-- the pieces of a geometry: a dot for each point of a Point or MultiPoint, else its edges
abbrev pub pieces_of : Geometry → List Piece
pieces_of (Point p) = pieces.Dot p ∷ []
pieces_of (MultiPoint ps) = map pieces.Dot ps
pieces_of geometry = map piece_of (edges_of geometry)

-- the edges of lines or rings in one group
abbrev pub lists_in : ℕ → List (List Coordinates) → List Marked
lists_in group lists = flat_map (λ ps. marked group (map piece_of (edges_of_list ps))) lists

-- dots at the ends of its lines
abbrev pub end_dots_of : Geometry → List Piece
end_dots_of a = map pieces.Dot (ends_of a)

-- the pieces of a geometry, and then the dots at its ends, which add no sample
abbrev pub with_ends : Geometry → List Piece
with_ends a = pieces_of a ++ end_dots_of a

-- all pieces of two geometries; those of the second come first, since many are related to one
abbrev pub all_pieces : Geometry → Geometry → List Piece
all_pieces a b = with_ends b ++ with_ends a

-- the pieces of a geometry in one group, the dots at its ends in another one
abbrev pub grouped : ℕ → ℕ → Geometry → List Marked
grouped pieces ends a = marked pieces (pieces_of a) ++ marked ends (end_dots_of a)

-- all of them in groups: 0 for the pieces of a, 1 for those of b, 2 for the ends of a, 3 for those of b
abbrev pub all_grouped : Geometry → Geometry → List Marked
all_grouped a b = grouped 1 3 b ++ grouped 0 2 a
