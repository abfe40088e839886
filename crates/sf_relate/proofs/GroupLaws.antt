-- What a point counts of the groups of two geometries: the pieces of each and the dots at their ends.
use Rattle.std.proofs.Common.{◌≡◌, ℕ, ◌+◌, ◌==◌, arith, refl, ap, ◌∙◌, Bool, true, false, cond, ◌&&◌, List, [], ◌∷◌, ◌++◌}
use Rattle.std.specs.Prelude.{if◌then◌else◌}
use Rattle.std.specs.List.{count_by}
use Rattle.std.proofs.lemmas.List.Sums.{sum_by-append}
use Rattle.sf_grid.specs.Plane.{Point}
use Rattle.sf_strips.specs.declared.piece.Piece.{Piece}
use Rattle.sf_cells.specs.Pieces.{is_above, is_on}
use Rattle.sf_geometry.specs.declared.geometry.Geometry.{Geometry}
use Rattle.sf_pieces.specs.Marked.{Marked, item_at, marked, pieces_of as pieces_among}
use Rattle.sf_pieces.proofs.CountLaws.{items-count}
use Rattle.sf_polygons.proofs.TestLaws.{count-map, count-never, map-join}
use Rattle.sf_relate.specs.declared.shape.Shape.{Shape}
use Rattle.sf_relate.specs.AllPieces.{all_grouped, all_pieces, end_dots_of, grouped, pieces_of, with_ends}
use Rattle.sf_relate.specs.Places.{first_place, place_at, place_by, second_place, shape_of}

-- ---- pieces without their groups
pub unmarked : (group : ℕ) (ps : List Piece) → pieces_among (marked group ps) ≡ ps
unmarked group [] = refl
unmarked group (p ∷ ps) = ap (λ qs. p ∷ qs) (unmarked group ps)

pub one-are : (m n : ℕ) (a : Geometry) → pieces_among (grouped m n a) ≡ with_ends a
one-are m n a =
    map-join (λ (k : Marked). k.0) (marked m (pieces_of a)) (marked n (end_dots_of a))
    ∙ ap (λ ps. ps ++ pieces_among (marked n (end_dots_of a))) (unmarked m (pieces_of a))
    ∙ ap (λ ps. pieces_of a ++ ps) (unmarked n (end_dots_of a))

pub pieces-are : (a b : Geometry) → pieces_among (all_grouped a b) ≡ all_pieces a b
pieces-are a b =
    map-join (λ (k : Marked). k.0) (grouped 1 3 b) (grouped 0 2 a)
    ∙ ap (λ ps. ps ++ pieces_among (grouped 0 2 a)) (one-are 1 3 b)
    ∙ ap (λ ps. with_ends b ++ ps) (one-are 0 2 a)

-- ---- how many of a group pass a test
abbrev pub passing : (Piece → Bool) → ℕ → List Marked → ℕ
passing test g ms = count_by (λ (m : Marked). (m.1 == g) && test m.0) ms

pub passing-append : (test : Piece → Bool) (g : ℕ) (ms ns : List Marked) → passing test g (ms ++ ns) ≡ passing test g ms + passing test g ns
passing-append test g ms ns = sum_by-append (λ (m : Marked). cond ((m.1 == g) && test m.0) 1 0) ms ns

pub passing-marked : (test : Piece → Bool) (g h : ℕ) (ps : List Piece) → passing test g (marked h ps) ≡ (if h == g then count_by test ps else 0)
passing-marked test g h ps = count-map (λ (m : Marked). (m.1 == g) && test m.0) (λ piece. (piece, h)) ps ∙ by_test (h == g)
  where
    by_test : (c : Bool) → count_by (λ piece. c && test piece) ps ≡ (if c then count_by test ps else 0)
    by_test true = refl
    by_test false = count-never ps

pub passing-one : (test : Piece → Bool) (g m n : ℕ) (a : Geometry) →
    passing test g (grouped m n a) ≡ (if m == g then count_by test (pieces_of a) else 0) + (if n == g then count_by test (end_dots_of a) else 0)
passing-one test g m n a =
    passing-append test g (marked m (pieces_of a)) (marked n (end_dots_of a))
    ∙ ap (λ k. k + passing test g (marked n (end_dots_of a))) (passing-marked test g m (pieces_of a))
    ∙ ap (λ k. (if m == g then count_by test (pieces_of a) else 0) + k) (passing-marked test g n (end_dots_of a))

passing-all : (test : Piece → Bool) (g : ℕ) (a b : Geometry) → passing test g (all_grouped a b)
    ≡ ((if 1 == g then count_by test (pieces_of b) else 0) + (if 3 == g then count_by test (end_dots_of b) else 0))
    + ((if 0 == g then count_by test (pieces_of a) else 0) + (if 2 == g then count_by test (end_dots_of a) else 0))
passing-all test g a b =
    passing-append test g (grouped 1 3 b) (grouped 0 2 a)
    ∙ ap (λ k. k + passing test g (grouped 0 2 a)) (passing-one test g 1 3 b)
    ∙ ap (λ k. ((if 1 == g then count_by test (pieces_of b) else 0) + (if 3 == g then count_by test (end_dots_of b) else 0)) + k) (passing-one test g 0 2 a)

-- ---- the four groups
in-zero : (test : Piece → Bool) (a b : Geometry) → passing test 0 (all_grouped a b) ≡ count_by test (pieces_of a)
in-zero test a b = passing-all test 0 a b ∙ of (count_by test (pieces_of a))
  where
    of : (n : ℕ) → (0 + 0) + (n + 0) ≡ n
    of n = omega arith

in-one : (test : Piece → Bool) (a b : Geometry) → passing test 1 (all_grouped a b) ≡ count_by test (pieces_of b)
in-one test a b = passing-all test 1 a b ∙ of (count_by test (pieces_of b))
  where
    of : (n : ℕ) → (n + 0) + (0 + 0) ≡ n
    of n = omega arith

in-two : (test : Piece → Bool) (a b : Geometry) → passing test 2 (all_grouped a b) ≡ count_by test (end_dots_of a)
in-two test a b = passing-all test 2 a b ∙ of (count_by test (end_dots_of a))
  where
    of : (n : ℕ) → (0 + 0) + (0 + n) ≡ n
    of n = omega arith

in-three : (test : Piece → Bool) (a b : Geometry) → passing test 3 (all_grouped a b) ≡ count_by test (end_dots_of b)
in-three test a b = passing-all test 3 a b ∙ of (count_by test (end_dots_of b))
  where
    of : (n : ℕ) → (0 + n) + (0 + 0) ≡ n
    of n = omega arith

-- ---- the places of a point's item are those by its counts
pub places-of : (shape : Shape) (on on' ends ends' above above' : ℕ) → on ≡ on' → ends ≡ ends' → above ≡ above' → place_by shape on ends above ≡ place_by shape on' ends' above'
places-of shape on on' ends ends' above above' e f g =
    ap (λ n. place_by shape n ends above) e ∙ ap (λ n. place_by shape on' n above) f ∙ ap (λ n. place_by shape on' ends' n) g

pub first-place : (a b : Geometry) (p : Point) → first_place (shape_of a) (item_at (all_grouped a b) p) ≡ place_at a p
first-place a b p =
    let counted = items-count (all_grouped a b) p in
    places-of (shape_of a) _ _ _ _ _ _ (counted.on 0 ∙ in-zero (is_on p) a b) (counted.on 2 ∙ in-two (is_on p) a b) (counted.above 0 ∙ in-zero (is_above p) a b)

pub second-place : (a b : Geometry) (p : Point) → second_place (shape_of b) (item_at (all_grouped a b) p) ≡ place_at b p
second-place a b p =
    let counted = items-count (all_grouped a b) p in
    places-of (shape_of b) _ _ _ _ _ _ (counted.on 1 ∙ in-one (is_on p) a b) (counted.on 3 ∙ in-three (is_on p) a b) (counted.above 1 ∙ in-one (is_above p) a b)
