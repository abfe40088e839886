-- The pieces of the edges that come to a column and of those that begin in it are different pieces.
use Rattle.std.proofs.Common.{◌≡◌, refl, ◌∙◌, ℕ, Bool, true, false, not, ◌&&◌, ◌||◌, List, [], ◌∷◌, ◌++◌}
use Rattle.std.specs.Prelude.{if◌then◌else◌}
use Rattle.std.specs.List.{sum_by}
use Rattle.sf_grid.specs.Fraction.{Fraction, fraction_eq, fraction_le, fraction_lt, whole}
use Rattle.sf_grid.specs.Edge.{Edge as Line, edge_between, is_vertical, left_end, right_end}
use Rattle.sf_strips.specs.declared.piece.Piece.{Piece}
use Rattle.sf_strips.specs.declared.piece.Piece.TheVariants.{Dot, Edge}
use Rattle.sf_strips.specs.declared.vertex.Role.TheVariants.{Begin, Bottom, Dot as AtDot, End, Top}
use Rattle.sf_strips.specs.declared.vertex.Vertex.{Vertex}
use Rattle.sf_cells.specs.Cells.{numbers_from}
use Rattle.sf_strips.specs.Fronts.{SameNumbers}
use Rattle.sf_strips.specs.Slanted.{rightward_edge}
use Rattle.sf_strips.specs.Vertices.{begins, in_column, lower_end, pieces_with, upper_end, vertex}
use Rattle.sf_slabs.specs.Sweeps.{AreVertices, comes_to}
use Rattle.sf_slabs.proofs.ColumnIsLaws.{below_not_at, every_piece}
use Rattle.sf_slabs.proofs.LevelPiecesLaws.{first_of_two, none_of_two, one_vertex, only_zero, two_vertices}
use Rattle.sf_slabs.proofs.WeightLaws.{HasOne, IsEither, SameNumbers-either, SameNumbers-vertices}

-- the piece is an edge that isn't vertical and begins in the column z
abbrev pub begins_in : Fraction → Piece → Bool
begins_in z (Edge a b) = let e = edge_between a b in not (is_vertical e) && fraction_eq (whole (left_end e).x) z
begins_in z (Dot a) = false

abbrev weight_in : Fraction → (ℕ → ℕ) → Vertex → ℕ
weight_in z w v = if in_column z v then (if begins v.role then w v.piece else 0) else 0

-- a piece has at most one vertex in the column at which it begins
one_begins_in : (z : Fraction) → HasOne (in_column z) begins (begins_in z)
one_begins_in z w i (Edge a b) = by_test (is_vertical e)
  where
    e : Line
    e = edge_between a b

    by_test : (t : Bool) →
        sum_by (weight_in z w)
        (if t then vertex (upper_end e) Top i ∷ vertex (lower_end e) Bottom i ∷ [] else vertex (left_end e) (Begin (rightward_edge e)) i ∷ vertex (right_end e) End i ∷ [])
        ≡ (if not t && fraction_eq (whole (left_end e).x) z then w i else 0)
    by_test true =
        two_vertices (weight_in z w) (vertex (upper_end e) Top i) (vertex (lower_end e) Bottom i)
        ∙ none_of_two (fraction_eq (whole (upper_end e).x) z) (fraction_eq (whole (lower_end e).x) z)
    by_test false =
        two_vertices (weight_in z w) (vertex (left_end e) (Begin (rightward_edge e)) i) (vertex (right_end e) End i)
        ∙ first_of_two (fraction_eq (whole (left_end e).x) z) (fraction_eq (whole (right_end e).x) z) (w i)
one_begins_in z w i (Dot a) = one_vertex (weight_in z w) (vertex a AtDot i) ∙ only_zero (fraction_eq (whole a.x) z)

-- a piece that begins in the column doesn't come to it
apart : (z : Fraction) (p : Piece) → (comes_to z p && begins_in z p) ≡ false
apart z (Dot a) = refl
apart z (Edge a b) =
    let e = edge_between a b in
    excluded (fraction_lt (whole (left_end e).x) z) (fraction_le z (whole (right_end e).x)) (not (is_vertical e)) (fraction_eq (whole (left_end e).x) z)
    (below_not_at z (whole (left_end e).x))
  where
    excluded : (l g v m : Bool) → (l ≡ true → m ≡ false) → ((l && g) && (v && m)) ≡ false
    excluded true true true m f = f refl
    excluded true true false m f = refl
    excluded true false v m f = refl
    excluded false g v m f = refl

pub coming_or_begun : (pieces : List Piece) (z : Fraction) (coming : List ℕ) (vs : List Vertex) → SameNumbers coming (numbers_from 0 (comes_to z) pieces) →
    AreVertices pieces (in_column z) vs → SameNumbers (coming ++ pieces_with begins vs) (numbers_from 0 (λ p. comes_to z p || begins_in z p) pieces)
coming_or_begun pieces z coming vs c v =
    SameNumbers-either coming (pieces_with begins vs) (λ p. comes_to z p || begins_in z p) (comes_to z) (begins_in z) pieces c
    (SameNumbers-vertices pieces (in_column z) begins (begins_in z) vs v (one_begins_in z))
    (every_piece (λ p. IsEither (comes_to z p || begins_in z p) (comes_to z p) (begins_in z p)) pieces (λ p. (refl, apart z p)))
