-- Internal: who wants to trust the program need not read this file.
-- The grid points of the pieces: where edges begin and end, where the ends of vertical edges lie, and the dots.
use Rattle.std.specs.Prelude.{ℕ, zero, suc, ◌+◌, Bool, true, false, ◌&&◌, ◌||◌, int_lt, List, [], ◌∷◌, ◌++◌, Option, Some, None, if◌then◌else◌}
use Rattle.std.specs.List.{Contains}
use Rattle.std.specs.Ordering.{int_eq}
use Rattle.sf_grid.specs.Fraction.{Fraction, fraction_eq, whole}
use Rattle.sf_grid.specs.Plane.{Coordinates}
use Rattle.sf_grid.specs.Edge.{Edge as Line, edge_between, is_vertical, left_end, right_end}
use Rattle.sf_strips.specs.declared.piece.Piece.{Piece}
use Rattle.sf_strips.specs.declared.piece.Piece.TheVariants.{Dot, Edge}
use Rattle.sf_strips.specs.declared.vertex.Role.{Role}
use Rattle.sf_strips.specs.declared.vertex.Role.TheVariants.{Begin, Bottom, Dot as AtDot, End, Top}
use Rattle.sf_strips.specs.declared.vertex.Vertex.{Vertex}
use Rattle.sf_strips.specs.Slanted.{rightward_edge}

-- the ends of a vertical edge
abbrev pub upper_end : Line → Coordinates
upper_end e = if int_lt e.a.y e.b.y then e.b else e.a

abbrev pub lower_end : Line → Coordinates
lower_end e = if int_lt e.a.y e.b.y then e.a else e.b

abbrev pub vertex : Coordinates → Role → ℕ → Vertex
vertex at role i = record { at = at; role = role; piece = i }

-- the vertices of the piece with the number i
abbrev pub vertices_of : ℕ → Piece → List Vertex
vertices_of i (Edge a b) =
    let e = edge_between a b in
    if is_vertical e
    then vertex (upper_end e) Top i ∷ vertex (lower_end e) Bottom i ∷ []
    else vertex (left_end e) (Begin (rightward_edge e)) i ∷ vertex (right_end e) End i ∷ []
vertices_of i (Dot a) = vertex a AtDot i ∷ []

-- the vertices of pieces whose numbers begin with k
abbrev pub all_vertices : ℕ → List Piece → List Vertex
all_vertices k [] = []
all_vertices k (p ∷ ps) = vertices_of k p ++ all_vertices (k + 1) ps

-- u comes before v: it is further left, or in the same column further up
abbrev pub vertex_before : Vertex → Vertex → Bool
vertex_before u v = int_lt u.at.x v.at.x || (int_eq u.at.x v.at.x && int_lt v.at.y u.at.y)

-- the vertex is in the column z
abbrev pub in_column : Fraction → Vertex → Bool
in_column z v = fraction_eq (whole v.at.x) z

-- the piece with the number i
abbrev pub piece_at : List Piece → ℕ → Option Piece
piece_at [] i = None
piece_at (p ∷ ps) zero = Some p
piece_at (p ∷ ps) (suc i) = piece_at ps i

-- the vertex is one of the piece with its number
abbrev pub IsVertexIn : Option Piece → Vertex → Type 0
IsVertexIn None v = ⊥
IsVertexIn (Some p) v = Contains (vertices_of v.piece p) v

abbrev pub IsVertexOf : List Piece → Vertex → Type 0
IsVertexOf pieces v = IsVertexIn (piece_at pieces v.piece) v

-- what is on a level from here on: it wasn't on the gap above
abbrev pub enters : Role → Bool
enters (Begin e) = true
enters End = false
enters Top = true
enters Bottom = false
enters AtDot = true

-- what is on a level and not on the gap below
abbrev pub leaves : Role → Bool
leaves (Begin e) = true
leaves End = false
leaves Top = false
leaves Bottom = true
leaves AtDot = true

-- an edge that isn't vertical begins there
abbrev pub begins : Role → Bool
begins (Begin e) = true
begins End = false
begins Top = false
begins Bottom = false
begins AtDot = false

-- the pieces of the vertices whose roles pass a test
abbrev pub pieces_with : (Role → Bool) → List Vertex → List ℕ
pieces_with test [] = []
pieces_with test (v ∷ vs) = if test v.role then v.piece ∷ pieces_with test vs else pieces_with test vs
