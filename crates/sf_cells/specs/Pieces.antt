-- Computes what the samples see of an edge or a dot: to be trusted by the law MatricesAreOverThePlane of sf_relate, and not by reading.
-- A list of pieces: where each piece lies.
use Rattle.std.specs.Prelude.{Bool, false, List, [], ◌∷◌, if◌then◌else◌}
use Rattle.sf_grid.specs.Fraction.{Fraction, whole, fraction_eq}
use Rattle.sf_grid.specs.Plane.{Coordinates, Point, grid_point, same_point}
use Rattle.sf_grid.specs.Edge.{edge_between, on_edge, edge_above, is_vertical, reaches, height_at}
use Rattle.sf_strips.specs.declared.piece.Piece.{Piece}
use Rattle.sf_strips.specs.declared.piece.Piece.TheVariants.{Edge, Dot}
pub use Rattle.sf_strips.specs.Pieces.{HasLength}

-- p is on the piece
abbrev pub is_on : Point → Piece → Bool
is_on p (Edge a b) = on_edge (edge_between a b) p
is_on p (Dot a) = same_point (grid_point a) p

-- the piece is an edge above p
abbrev pub is_above : Point → Piece → Bool
is_above p (Edge a b) = edge_above (edge_between a b) p
is_above p (Dot a) = false

-- the places on the x axis of a piece's ends
abbrev pub ends_of : Piece → List Fraction
ends_of (Edge a b) = whole a.x ∷ whole b.x ∷ []
ends_of (Dot a) = whole a.x ∷ []

-- the heights in the column x of the ends of a vertical edge, or of a dot: where they lie in that column
abbrev pub if_in_column : Fraction → Coordinates → List Fraction → List Fraction
if_in_column x a heights = if fraction_eq (whole a.x) x then heights else []

-- the heights at which a piece meets the column x; of a vertical edge, those of its ends
abbrev pub heights_of : Fraction → Piece → List Fraction
heights_of x (Edge a b) =
    let e = edge_between a b in
    if is_vertical e
    then if_in_column x a (whole a.y ∷ whole b.y ∷ [])
    else (if reaches e x then height_at e x ∷ [] else [])
heights_of x (Dot a) = if_in_column x a (whole a.y ∷ [])
