-- The pieces on a height of a column: those that come to it from the left, those with an end there, and the vertical edges across it.
use Rattle.std.proofs.Common.{◌≡◌, refl, ap, sym, subst, ◌∙◌, ℕ, ◌+◌, ℤ, pos, ◌+ℤ◌, ◌-ℤ◌, ◌*ℤ◌, ◌≤ℤ◌, ◌<ℤ◌, lit<, arith, Bool, true, false, cond, not, ◌&&◌, ◌||◌, [], ◌∷◌, inl, inr, unsigned_abs}
use Rattle.std.specs.Prelude.{if◌then◌else◌, int_le, int_lt}
use Rattle.std.specs.Int.{int_max, int_min}
use Rattle.std.specs.List.{AllByRecursion, sum_by}
use Rattle.std.specs.Ordering.{int_eq}
use Rattle.std.proofs.lemmas.Bool.{and_from, and_parts, both_ways, cases_Bool}
use Rattle.std.proofs.lemmas.Int.{clamps, ints}
use Rattle.std.proofs.lemmas.List.Sums.{sum_by-cons}
use Rattle.sf_grid.specs.Fraction.{Fraction, IsFraction, fraction_eq, fraction_le, fraction_lt, whole}
use Rattle.sf_grid.specs.Plane.{Coordinates, point_at}
use Rattle.sf_grid.specs.Edge.{Edge as Line, edge_between, height_at, height_rightward, is_vertical, left_end, reaches, right_end}
use Rattle.sf_grid.proofs.CallerLemmas.{Same, abs_of_run, dif, eq_from_test, ge_from_test, le_from_test, le_lt, lt_from_test, lt_le, mul, mul_le, mul_lt, num, product_pos, reach, ring, run_pos, runs_right, same_tests, sum, test_from_eq, test_from_le, test_from_lt, var}
use Rattle.sf_strips.specs.declared.piece.Piece.{Piece}
use Rattle.sf_strips.specs.declared.piece.Piece.TheVariants.{Dot, Edge}
use Rattle.sf_strips.specs.declared.vertex.Role.{Role}
use Rattle.sf_strips.specs.declared.vertex.Role.TheVariants.{Begin, Bottom, Dot as AtDot, End, Top}
use Rattle.sf_strips.specs.declared.vertex.Vertex.{Vertex}
use Rattle.sf_cells.specs.Pieces.{heights_of, if_in_column, is_on}
use Rattle.sf_strips.specs.Slanted.{rightward_edge}
use Rattle.sf_strips.specs.Vertices.{begins, enters, leaves, lower_end, upper_end, vertex}
use Rattle.sf_slabs.proofs.AboveLaws.{goes_on-vertical, goes_on_from, height_of}
use Rattle.sf_slabs.proofs.GapLaws.{IsGap, Parted, is_on-gap, one_of, within-whole}
use Rattle.sf_slabs.proofs.LeveledLaws.{vertex_height}
use Rattle.sf_slabs.proofs.NumberLaws.{Same-trans}
use Rattle.sf_slabs.proofs.OnLaws.{on_edge-height, on_edge-vertical, same_point-at}
use Rattle.sf_slabs.proofs.Shapes.{comes_to, in_column}
use Rattle.sf_strips.proofs.CallerLemmas.{goes_on}
use Rattle.sf_slabs.proofs.SlabLaws.{reached_from}
use Rattle.sf_slabs.proofs.TopLaws.{if_true}
use Rattle.sf_slabs.proofs.WeightLaws.{HasOne, IsEither}

-- ---- tests of numbers
pub fraction_eq-flip : (p q : Fraction) → fraction_eq p q ≡ fraction_eq q p
fraction_eq-flip p q = flipped (p.num *ℤ pos q.den) (q.num *ℤ pos p.den)
  where
    flipped : (a b : ℤ) → int_eq a b ≡ int_eq b a
    flipped a b = grind (arith, ints)

-- one number is equal to another, however it is written
pub fraction_eq-first : (p r q : Fraction) → IsFraction p → IsFraction r → Same p r → fraction_eq p q ≡ fraction_eq r q
fraction_eq-first p r q i j e =
    same_tests (fraction_eq p q) (fraction_eq r q)
    (λ h. test_from_eq _ _ (Same-trans r p q i (sym e) (eq_from_test _ _ h)))
    (λ h. test_from_eq _ _ (Same-trans p r q j e (eq_from_test _ _ h)))

-- at most is less or equal, and not both
lt_or_eq : (a b : ℤ) → int_le a b ≡ (int_lt a b || int_eq a b)
lt_or_eq a b = grind (arith, ints)

not_both : (a b : ℤ) → (int_lt a b && int_eq a b) ≡ false
not_both a b = grind (arith, ints)

-- the same, with the equation turned round
lt_or_same : (a b : ℤ) → int_le a b ≡ (int_lt a b || int_eq b a)
lt_or_same a b = grind (arith, ints)

-- once a number
times_one : (n : ℤ) → n *ℤ pos 1 ≡ n
times_one n = omega (arith, ints)

-- ---- heights at the ends
pub height-left : (u v : Coordinates) (z : Fraction) → u.x <ℤ v.x → fraction_eq (whole u.x) z ≡ true → Same (height_rightward u v z) (whole u.y)
height-left u v z l h =
    ap (λ t. (u.y *ℤ pos z.den *ℤ (v.x -ℤ u.x) +ℤ (v.y -ℤ u.y) *ℤ t) *ℤ pos 1) (none_left z.num (u.x *ℤ pos z.den) (eq_from_test _ _ h))
    ∙ ring (u.y ∷ pos z.den ∷ (v.x -ℤ u.x) ∷ (v.y -ℤ u.y) ∷ [])
    (mul (sum (mul (mul (var 0) (var 1)) (var 2)) (mul (var 3) (num (pos 0)))) (num (pos 1)))
    (mul (var 0) (mul (var 2) (var 1)))
    refl
    ∙ ap (λ t. u.y *ℤ (t *ℤ pos z.den)) (sym (abs_of_run u.x v.x l))
  where
    none_left : (n m : ℤ) → m ≡ n *ℤ pos 1 → n -ℤ m ≡ pos 0
    none_left n m e = omega (arith, ints)

-- and at the right end
pub height-right : (u v : Coordinates) (z : Fraction) → u.x <ℤ v.x → fraction_eq (whole v.x) z ≡ true → Same (height_rightward u v z) (whole v.y)
height-right u v z l h =
    ap (λ t. (u.y *ℤ pos z.den *ℤ (v.x -ℤ u.x) +ℤ (v.y -ℤ u.y) *ℤ (t -ℤ u.x *ℤ pos z.den)) *ℤ pos 1) (all_there z.num (v.x *ℤ pos z.den) (eq_from_test _ _ h))
    ∙ ring (u.x ∷ u.y ∷ v.x ∷ v.y ∷ pos z.den ∷ [])
    (mul (sum (mul (mul (var 1) (var 4)) (dif (var 2) (var 0))) (mul (dif (var 3) (var 1)) (dif (mul (var 2) (var 4)) (mul (var 0) (var 4))))) (num (pos 1)))
    (mul (var 3) (mul (dif (var 2) (var 0)) (var 4)))
    refl
    ∙ ap (λ t. v.y *ℤ (t *ℤ pos z.den)) (sym (abs_of_run u.x v.x l))
  where
    all_there : (n m : ℤ) → m ≡ n *ℤ pos 1 → n ≡ m
    all_there n m e = omega (arith, ints)

-- ---- an edge that isn't vertical against the column z
-- the tests that say where it lies: from which side it comes, and whether it ends or goes on
pub record Lies (z q : Fraction) (e : Line) : Type 0 where
  pub reached : reaches e z ≡ (fraction_le (whole (left_end e).x) z && fraction_le z (whole (right_end e).x))
  pub onward : goes_on e z ≡ (fraction_le (whole (left_end e).x) z && fraction_lt z (whole (right_end e).x))
  pub left : fraction_le (whole (left_end e).x) z ≡ (fraction_lt (whole (left_end e).x) z || fraction_eq (whole (left_end e).x) z)
  pub left_apart : (fraction_lt (whole (left_end e).x) z && fraction_eq (whole (left_end e).x) z) ≡ false
  pub right : fraction_le z (whole (right_end e).x) ≡ (fraction_lt z (whole (right_end e).x) || fraction_eq (whole (right_end e).x) z)
  pub runs : fraction_eq (whole (left_end e).x) z ≡ true → fraction_lt z (whole (right_end e).x) ≡ true
  pub ran : fraction_eq (whole (right_end e).x) z ≡ true → fraction_lt (whole (left_end e).x) z ≡ true
  pub at_left : fraction_eq (whole (left_end e).x) z ≡ true → fraction_eq (height_at e z) q ≡ fraction_eq (whole (left_end e).y) q
  pub at_right : fraction_eq (whole (right_end e).x) z ≡ true → fraction_eq (height_at e z) q ≡ fraction_eq (whole (right_end e).y) q

-- the height is a number
number_there : (e : Line) (z : Fraction) → is_vertical e ≡ false → IsFraction z → IsFraction (height_at e z)
number_there e z s i = record { positive = omega (arith, product_pos (unsigned_abs ((right_end e).x -ℤ (left_end e).x)) z.den (run_pos (left_end e).x (right_end e).x (runs_right e s)) i.positive) }

-- the tests of an edge that is not vertical
pub lies_by : (z q : Fraction) (e : Line) → IsFraction z → is_vertical e ≡ false → Lies z q e
lies_by z q e i s =
    let l = left_end e in
    let r = right_end e in
    let run = runs_right e s in
    record {
      reached =
          same_tests _ _
          (λ h.
          let k = reach e z h in
          and_from _ _ (test_from_le _ _ (subst (λ n. (l.x *ℤ pos z.den) ≤ℤ n) (sym (times_one z.num)) k.low))
          (test_from_le _ _ (subst (λ n. n ≤ℤ (r.x *ℤ pos z.den)) (sym (times_one z.num)) k.high)))
          (λ h.
          let parts = and_parts (fraction_le (whole l.x) z) (fraction_le z (whole r.x)) h in
          reached_from e z (record {
            low = subst (λ n. (l.x *ℤ pos z.den) ≤ℤ n) (times_one z.num) (le_from_test _ _ parts.0);
            high = subst (λ n. n ≤ℤ (r.x *ℤ pos z.den)) (times_one z.num) (le_from_test _ _ parts.1);
          }));
      onward =
          ap (λ n. int_le (l.x *ℤ pos z.den) n && int_lt z.num (r.x *ℤ pos z.den)) (sym (times_one z.num))
          ∙ ap (λ n. int_le (l.x *ℤ pos z.den) (z.num *ℤ pos 1) && int_lt n (r.x *ℤ pos z.den)) (sym (times_one z.num));
      left = lt_or_eq (l.x *ℤ pos z.den) (z.num *ℤ pos 1);
      left_apart = not_both (l.x *ℤ pos z.den) (z.num *ℤ pos 1);
      right = lt_or_same (z.num *ℤ pos 1) (r.x *ℤ pos z.den);
      runs = λ h. test_from_lt _ _ (subst (λ n. n <ℤ (r.x *ℤ pos z.den)) (eq_from_test _ _ h) (mul_lt l.x r.x z.den i.positive run));
      ran = λ h. test_from_lt _ _ (subst (λ n. (l.x *ℤ pos z.den) <ℤ n) (eq_from_test _ _ h) (mul_lt l.x r.x z.den i.positive run));
      at_left = λ h. fraction_eq-first (height_at e z) (whole l.y) q (number_there e z s i) (record { positive = lit< tt }) (height-left l r z run h);
      at_right = λ h. fraction_eq-first (height_at e z) (whole r.y) q (number_there e z s i) (record { positive = lit< tt }) (height-right l r z run h);
    }

-- ---- what is at the height q of the column z
-- a piece that comes from the left is at q
abbrev pub comes_at : Fraction → Fraction → Piece → Bool
comes_at z q p = comes_to z p && fraction_eq (height_of z p) q

-- a vertex in the column z at the height q
abbrev pub at_level : Fraction → Fraction → Vertex → Bool
at_level z q v = in_column z v && fraction_eq (vertex_height v) q

-- a grid point there
abbrev pub lies_at : Fraction → Fraction → Coordinates → Bool
lies_at z q a = fraction_eq (whole a.x) z && fraction_eq (whole a.y) q

-- it is there from q on; it is there down to q; it begins there, and ends there, and isn't vertical
abbrev pub enters_at : Fraction → Fraction → Piece → Bool
enters_at z q (Edge a b) = let e = edge_between a b in lies_at z q (if is_vertical e then upper_end e else left_end e)
enters_at z q (Dot a) = lies_at z q a

abbrev pub leaves_at : Fraction → Fraction → Piece → Bool
leaves_at z q (Edge a b) = let e = edge_between a b in lies_at z q (if is_vertical e then lower_end e else left_end e)
leaves_at z q (Dot a) = lies_at z q a

abbrev pub begins_at : Fraction → Fraction → Piece → Bool
begins_at z q (Edge a b) = let e = edge_between a b in not (is_vertical e) && lies_at z q (left_end e)
begins_at z q (Dot a) = false

abbrev pub ends_at : Fraction → Fraction → Piece → Bool
ends_at z q (Edge a b) = let e = edge_between a b in not (is_vertical e) && lies_at z q (right_end e)
ends_at z q (Dot a) = false

-- an edge that is not vertical ends there
abbrev pub ends : Role → Bool
ends (Begin e) = false
ends End = true
ends Top = false
ends Bottom = false
ends AtDot = false

-- a vertical edge from above q down to q or further; from q or higher down below q
abbrev pub over : Fraction → Fraction → Piece → Bool
over z q (Edge a b) =
    is_vertical (edge_between a b) && (fraction_eq (whole a.x) z && (fraction_lt q (whole (int_max a.y b.y)) && fraction_le (whole (int_min a.y b.y)) q))
over z q (Dot a) = false

abbrev pub under : Fraction → Fraction → Piece → Bool
under z q (Edge a b) =
    is_vertical (edge_between a b) && (fraction_eq (whole a.x) z && (fraction_le q (whole (int_max a.y b.y)) && fraction_lt (whole (int_min a.y b.y)) q))
under z q (Dot a) = false

-- the edge goes on past the column
abbrev pub goes_past_at : Fraction → Piece → Bool
goes_past_at z (Edge a b) = fraction_lt z (whole (right_end (edge_between a b)).x)
goes_past_at z (Dot a) = false

-- ---- the vertices of a piece by role
pub two_vertices : (f : Vertex → ℕ) (u v : Vertex) → sum_by f (u ∷ v ∷ []) ≡ f u + f v
two_vertices f u v = omega (arith, sum_by-cons f u (v ∷ []), sum_by-cons f v [])

-- the weight of one vertex
pub one_vertex : (f : Vertex → ℕ) (u : Vertex) → sum_by f (u ∷ []) ≡ f u
one_vertex f u = omega (arith, sum_by-cons f u [])

pub only_zero : (b : Bool) → ◌≡◌ {A = ℕ} (if b then 0 else 0) 0
only_zero true = refl
only_zero false = refl

-- of two vertices, the weight of the one that has the role
pub first_of_two : (b c : Bool) (n : ℕ) → (if b then n else 0) + (if c then 0 else 0) ≡ (if b then n else 0)
first_of_two b true n = omega arith
first_of_two b false n = omega arith

second_of_two : (b c : Bool) (n : ℕ) → (if b then 0 else 0) + (if c then n else 0) ≡ (if c then n else 0)
second_of_two true c n = omega arith
second_of_two false c n = omega arith

pub none_of_two : (b c : Bool) → (if b then 0 else 0) + (if c then 0 else 0) ≡ 0
none_of_two true true = refl
none_of_two true false = refl
none_of_two false true = refl
none_of_two false false = refl

-- the weight of the number of a vertex at the height, by role
abbrev weight_at : Fraction → Fraction → (Role → Bool) → (ℕ → ℕ) → Vertex → ℕ
weight_at z q r w v = if at_level z q v then (if r v.role then w v.piece else 0) else 0

-- a piece has at most one vertex at which it enters, leaves, begins, or ends
pub one_enters : (z q : Fraction) → HasOne (at_level z q) enters (enters_at z q)
one_enters z q w i (Edge a b) = by_test (is_vertical e)
  where
    e : Line
    e = edge_between a b

    by_test : (t : Bool) →
        sum_by (weight_at z q enters w)
        (if t then vertex (upper_end e) Top i ∷ vertex (lower_end e) Bottom i ∷ [] else vertex (left_end e) (Begin (rightward_edge e)) i ∷ vertex (right_end e) End i ∷ [])
        ≡ (if lies_at z q (if t then upper_end e else left_end e) then w i else 0)
    by_test true =
        two_vertices (weight_at z q enters w) (vertex (upper_end e) Top i) (vertex (lower_end e) Bottom i)
        ∙ first_of_two (lies_at z q (upper_end e)) (lies_at z q (lower_end e)) (w i)
    by_test false =
        two_vertices (weight_at z q enters w) (vertex (left_end e) (Begin (rightward_edge e)) i) (vertex (right_end e) End i)
        ∙ first_of_two (lies_at z q (left_end e)) (lies_at z q (right_end e)) (w i)
one_enters z q w i (Dot a) = one_vertex (weight_at z q enters w) (vertex a AtDot i)

pub one_leaves : (z q : Fraction) → HasOne (at_level z q) leaves (leaves_at z q)
one_leaves z q w i (Edge a b) = by_test (is_vertical e)
  where
    e : Line
    e = edge_between a b

    by_test : (t : Bool) →
        sum_by (weight_at z q leaves w)
        (if t then vertex (upper_end e) Top i ∷ vertex (lower_end e) Bottom i ∷ [] else vertex (left_end e) (Begin (rightward_edge e)) i ∷ vertex (right_end e) End i ∷ [])
        ≡ (if lies_at z q (if t then lower_end e else left_end e) then w i else 0)
    by_test true =
        two_vertices (weight_at z q leaves w) (vertex (upper_end e) Top i) (vertex (lower_end e) Bottom i)
        ∙ second_of_two (lies_at z q (upper_end e)) (lies_at z q (lower_end e)) (w i)
    by_test false =
        two_vertices (weight_at z q leaves w) (vertex (left_end e) (Begin (rightward_edge e)) i) (vertex (right_end e) End i)
        ∙ first_of_two (lies_at z q (left_end e)) (lies_at z q (right_end e)) (w i)
one_leaves z q w i (Dot a) = one_vertex (weight_at z q leaves w) (vertex a AtDot i)

pub one_begins : (z q : Fraction) → HasOne (at_level z q) begins (begins_at z q)
one_begins z q w i (Edge a b) = by_test (is_vertical e)
  where
    e : Line
    e = edge_between a b

    by_test : (t : Bool) →
        sum_by (weight_at z q begins w)
        (if t then vertex (upper_end e) Top i ∷ vertex (lower_end e) Bottom i ∷ [] else vertex (left_end e) (Begin (rightward_edge e)) i ∷ vertex (right_end e) End i ∷ [])
        ≡ (if not t && lies_at z q (left_end e) then w i else 0)
    by_test true =
        two_vertices (weight_at z q begins w) (vertex (upper_end e) Top i) (vertex (lower_end e) Bottom i)
        ∙ none_of_two (lies_at z q (upper_end e)) (lies_at z q (lower_end e))
    by_test false =
        two_vertices (weight_at z q begins w) (vertex (left_end e) (Begin (rightward_edge e)) i) (vertex (right_end e) End i)
        ∙ first_of_two (lies_at z q (left_end e)) (lies_at z q (right_end e)) (w i)
one_begins z q w i (Dot a) = one_vertex (weight_at z q begins w) (vertex a AtDot i) ∙ only_zero (lies_at z q a)

pub one_ends : (z q : Fraction) → HasOne (at_level z q) ends (ends_at z q)
one_ends z q w i (Edge a b) = by_test (is_vertical e)
  where
    e : Line
    e = edge_between a b

    by_test : (t : Bool) →
        sum_by (weight_at z q ends w)
        (if t then vertex (upper_end e) Top i ∷ vertex (lower_end e) Bottom i ∷ [] else vertex (left_end e) (Begin (rightward_edge e)) i ∷ vertex (right_end e) End i ∷ [])
        ≡ (if not t && lies_at z q (right_end e) then w i else 0)
    by_test true =
        two_vertices (weight_at z q ends w) (vertex (upper_end e) Top i) (vertex (lower_end e) Bottom i)
        ∙ none_of_two (lies_at z q (upper_end e)) (lies_at z q (lower_end e))
    by_test false =
        two_vertices (weight_at z q ends w) (vertex (left_end e) (Begin (rightward_edge e)) i) (vertex (right_end e) End i)
        ∙ second_of_two (lies_at z q (left_end e)) (lies_at z q (right_end e)) (w i)
one_ends z q w i (Dot a) = one_vertex (weight_at z q ends w) (vertex a AtDot i) ∙ only_zero (lies_at z q a)

-- ---- vertical edges
lower_is : (a b : Coordinates) → (lower_end (edge_between a b)).y ≡ int_min a.y b.y
lower_is a b = by_test (int_lt a.y b.y) refl
  where
    by_test : (t : Bool) → int_lt a.y b.y ≡ t → (cond t a b).y ≡ int_min a.y b.y
    by_test true e = least a.y b.y (lt_from_test a.y b.y e)
      where
        least : (m n : ℤ) → m <ℤ n → m ≡ int_min m n
        least m n h = omega (arith, ints, clamps)
    by_test false e = least a.y b.y (ge_from_test a.y b.y e)
      where
        least : (m n : ℤ) → n ≤ℤ m → n ≡ int_min m n
        least m n h = omega (arith, ints, clamps)

-- the upper end is at the greater height
upper_is : (a b : Coordinates) → (upper_end (edge_between a b)).y ≡ int_max a.y b.y
upper_is a b = by_test (int_lt a.y b.y) refl
  where
    by_test : (t : Bool) → int_lt a.y b.y ≡ t → (cond t b a).y ≡ int_max a.y b.y
    by_test true e = greatest a.y b.y (lt_from_test a.y b.y e)
      where
        greatest : (m n : ℤ) → m <ℤ n → n ≡ int_max m n
        greatest m n h = omega (arith, ints, clamps)
    by_test false e = greatest a.y b.y (ge_from_test a.y b.y e)
      where
        greatest : (m n : ℤ) → n ≤ℤ m → m ≡ int_max m n
        greatest m n h = omega (arith, ints, clamps)

-- both ends are in its column
pub lower_column : (a b : Coordinates) → is_vertical (edge_between a b) ≡ true → (lower_end (edge_between a b)).x ≡ a.x
lower_column a b h = by_test (int_lt a.y b.y)
  where
    by_test : (t : Bool) → (cond t a b).x ≡ a.x
    by_test true = refl
    by_test false = sym (eq_from_test a.x b.x h)

pub upper_column : (a b : Coordinates) → is_vertical (edge_between a b) ≡ true → (upper_end (edge_between a b)).x ≡ a.x
upper_column a b h = by_test (int_lt a.y b.y)
  where
    by_test : (t : Bool) → (cond t b a).x ≡ a.x
    by_test true = sym (eq_from_test a.x b.x h)
    by_test false = refl

-- a vertical edge comes from no side
pub comes_to-vertical : (z : Fraction) (a b : Coordinates) → is_vertical (edge_between a b) ≡ true → comes_to z (Edge a b) ≡ false
comes_to-vertical z a b h =
    ap (λ x. fraction_lt (whole (left_end (edge_between a b)).x) z && fraction_le z (whole x)) (sym (one_place (int_lt b.x a.x)))
    ∙ never ((left_end (edge_between a b)).x *ℤ pos z.den) (z.num *ℤ pos 1)
  where
    one_place : (t : Bool) → (cond t b a).x ≡ (cond t a b).x
    one_place true = sym (eq_from_test a.x b.x h)
    one_place false = eq_from_test a.x b.x h

    never : (m n : ℤ) → (int_lt m n && int_le n m) ≡ false
    never m n = grind (arith, ints)

-- an edge that comes to a column has a height there
pub comes_number : (z : Fraction) (p : Piece) → IsFraction z → comes_to z p ≡ true → IsFraction (height_of z p)
comes_number z (Edge a b) i h =
    elim (cases_Bool (is_vertical (edge_between a b))) [
      | inl upright ↦ absurd (both_ways (comes_to z (Edge a b)) (comes_to-vertical z a b upright) h)
      | inr slants ↦ number_there (edge_between a b) z slants i
    ]
comes_number z (Dot a) i h = record { positive = lit< tt }

-- a point is on it from its lower to its upper end
on-vertical : (z q : Fraction) (a b : Coordinates) → IsFraction z → IsFraction q → is_vertical (edge_between a b) ≡ true →
    is_on (point_at z q) (Edge a b) ≡ (fraction_eq (whole a.x) z && (fraction_le (whole (int_min a.y b.y)) q && fraction_le q (whole (int_max a.y b.y))))
on-vertical z q a b i j h =
    on_edge-vertical (edge_between a b) z q h i j
    ∙ ap (λ t. fraction_eq (whole a.x) z && t) (within-whole (int_min a.y b.y) (int_max a.y b.y) q)

-- so a vertical edge has an end at a place where the column and the height fit
lies_at-upper : (z q : Fraction) (a b : Coordinates) → is_vertical (edge_between a b) ≡ true →
    lies_at z q (upper_end (edge_between a b)) ≡ (fraction_eq (whole a.x) z && fraction_eq (whole (int_max a.y b.y)) q)
lies_at-upper z q a b h =
    ap (λ x. fraction_eq (whole x) z && fraction_eq (whole (upper_end (edge_between a b)).y) q) (upper_column a b h)
    ∙ ap (λ y. fraction_eq (whole a.x) z && fraction_eq (whole y) q) (upper_is a b)

lies_at-lower : (z q : Fraction) (a b : Coordinates) → is_vertical (edge_between a b) ≡ true →
    lies_at z q (lower_end (edge_between a b)) ≡ (fraction_eq (whole a.x) z && fraction_eq (whole (int_min a.y b.y)) q)
lies_at-lower z q a b h =
    ap (λ x. fraction_eq (whole x) z && fraction_eq (whole (lower_end (edge_between a b)).y) q) (lower_column a b h)
    ∙ ap (λ y. fraction_eq (whole a.x) z && fraction_eq (whole y) q) (lower_is a b)

-- ---- what is on a height: it comes there or has an end there, or it is a vertical edge across it
abbrev pub IsSplit : Bool → Bool → Bool → Bool → Type 0
IsSplit on comes stands across = IsEither on (comes || stands) across × IsEither (comes || stands) comes stands

-- tests that change nothing
or_false : (b : Bool) → (b || false) ≡ b
or_false true = refl
or_false false = refl

and_false : (b : Bool) → (b && false) ≡ false
and_false true = refl
and_false false = refl

-- nothing is across
split_plain : (on comes stands across : Bool) → IsEither on comes stands → across ≡ false → IsSplit on comes stands across
split_plain on comes stands across h e = (
  (h.0 ∙ sym (or_false (comes || stands)) ∙ ap (λ t. (comes || stands) || t) (sym e), ap (λ t. (comes || stands) && t) e ∙ and_false (comes || stands)),
  (refl, h.1),
)

-- nothing comes
split_vertical : (on comes stands across c w x y : Bool) → on ≡ (c && w) → comes ≡ false → stands ≡ (c && x) → across ≡ (c && y) → IsEither w x y →
    IsSplit on comes stands across
split_vertical on comes stands across c w x y e f g h k = (
  (
    e ∙ (within c).0 ∙ ap (λ t. t || (c && y)) (sym g) ∙ ap (λ t. (t || stands) || (c && y)) (sym f) ∙ ap (λ t. (comes || stands) || t) (sym h),
    ap (λ t. (t || stands) && across) f ∙ ap (λ t. t && across) g ∙ ap (λ t. (c && x) && t) h ∙ (within c).1,
  ),
  (refl, ap (λ t. t && stands) f),
)
  where
    within : (c : Bool) → IsEither (c && w) (c && x) (c && y)
    within true = k
    within false = (refl, refl)

-- the tests of an edge that is not vertical: it comes to the height, or begins there
slanted_on : (le lt eq ler hq lq : Bool) → le ≡ (lt || eq) → (lt && eq) ≡ false → (eq ≡ true → ler ≡ true) → (eq ≡ true → hq ≡ lq) →
    IsEither ((le && ler) && hq) ((lt && ler) && hq) (eq && lq)
slanted_on le true true ler hq lq e f g h = absurd (both_ways true f refl)
slanted_on le true false ler hq lq e f g h =
    (ap (λ t. (t && ler) && hq) e ∙ sym (or_false (ler && hq)), and_false (ler && hq))
slanted_on le false true ler hq lq e f g h =
    (ap (λ t. (t && ler) && hq) e ∙ ap (λ t. t && hq) (g refl) ∙ h refl, refl)
slanted_on le false false ler hq lq e f g h = (ap (λ t. (t && ler) && hq) e, refl)

-- of an edge that isn't vertical
on-slanted : (z q : Fraction) (a b : Coordinates) → IsFraction z → IsFraction q → is_vertical (edge_between a b) ≡ false →
    IsEither (is_on (point_at z q) (Edge a b)) (comes_at z q (Edge a b)) (lies_at z q (left_end (edge_between a b)))
on-slanted z q a b i j s =
    let e = edge_between a b in
    let k = lies_by z q e i s in
    let split =
    slanted_on (fraction_le (whole (left_end e).x) z) (fraction_lt (whole (left_end e).x) z) (fraction_eq (whole (left_end e).x) z)
    (fraction_le z (whole (right_end e).x)) (fraction_eq (height_at e z) q) (fraction_eq (whole (left_end e).y) q) k.left k.left_apart
    (λ h. k.right ∙ ap (λ t. t || fraction_eq (whole (right_end e).x) z) (k.runs h)) k.at_left in (
      on_edge-height e z q s i j
          ∙ ap (λ t. t && fraction_eq q (height_at e z)) k.reached
          ∙ ap (λ t. (fraction_le (whole (left_end e).x) z && fraction_le z (whole (right_end e).x)) && t) (fraction_eq-flip q (height_at e z))
          ∙ split.0,
      split.1,
    )

-- of a dot
on-dot : (z q : Fraction) (a : Coordinates) → IsFraction z → IsFraction q → IsEither (is_on (point_at z q) (Dot a)) false (lies_at z q a)
on-dot z q a i j = (same_point-at a z q i j, refl)

-- three numbers, the first two in order
at_or_over : (m n k : ℤ) → m ≤ℤ n → IsEither (int_le m k && int_le k n) (int_eq n k) (int_lt k n && int_le m k)
at_or_over m n k h = (grind (arith, ints), grind (arith, ints))

at_or_under : (m n k : ℤ) → m ≤ℤ n → IsEither (int_le m k && int_le k n) (int_eq m k) (int_le k n && int_lt m k)
at_or_under m n k h = (grind (arith, ints), grind (arith, ints))

-- the lower end is not above the upper one
in_order : (a b : ℤ) → int_min a b ≤ℤ int_max a b
in_order a b = omega (arith, ints, clamps)

-- on a height are: what comes, what enters, and what was on the gap above
pub on_from : (z q : Fraction) (p : Piece) → IsFraction z → IsFraction q → IsSplit (is_on (point_at z q) p) (comes_at z q p) (enters_at z q p) (over z q p)
on_from z q (Edge a b) i j =
    let e = edge_between a b in
    elim (cases_Bool (is_vertical e)) [
      | inl upright ↦
          split_vertical _ _ _ _ (fraction_eq (whole a.x) z) _ _ _ (on-vertical z q a b i j upright)
          (ap (λ t. t && fraction_eq (height_at e z) q) (comes_to-vertical z a b upright))
          (ap (λ t. lies_at z q (if t then upper_end e else left_end e)) upright ∙ lies_at-upper z q a b upright)
          (ap (λ t. t && (fraction_eq (whole a.x) z && (fraction_lt q (whole (int_max a.y b.y)) && fraction_le (whole (int_min a.y b.y)) q))) upright)
          (at_or_over (int_min a.y b.y *ℤ pos q.den) (int_max a.y b.y *ℤ pos q.den) (q.num *ℤ pos 1) (mul_le (int_min a.y b.y) (int_max a.y b.y) q.den (in_order a.y b.y)))
      | inr slants ↦
          split_plain (is_on (point_at z q) (Edge a b)) (comes_at z q (Edge a b)) (enters_at z q (Edge a b)) (over z q (Edge a b))
          (subst (λ t. IsEither (is_on (point_at z q) (Edge a b)) (comes_at z q (Edge a b)) (lies_at z q (if t then upper_end e else left_end e))) (sym slants) (on-slanted z q a b i j slants))
          (ap (λ t. t && (fraction_eq (whole a.x) z && (fraction_lt q (whole (int_max a.y b.y)) && fraction_le (whole (int_min a.y b.y)) q))) slants)
    ]
on_from z q (Dot a) i j = split_plain (is_on (point_at z q) (Dot a)) false (lies_at z q a) false (on-dot z q a i j) refl

-- on a height are: what comes, what leaves, and what stays on the gap below
pub on_until : (z q : Fraction) (p : Piece) → IsFraction z → IsFraction q → IsSplit (is_on (point_at z q) p) (comes_at z q p) (leaves_at z q p) (under z q p)
on_until z q (Edge a b) i j =
    let e = edge_between a b in
    elim (cases_Bool (is_vertical e)) [
      | inl upright ↦
          split_vertical _ _ _ _ (fraction_eq (whole a.x) z) _ _ _ (on-vertical z q a b i j upright)
          (ap (λ t. t && fraction_eq (height_at e z) q) (comes_to-vertical z a b upright))
          (ap (λ t. lies_at z q (if t then lower_end e else left_end e)) upright ∙ lies_at-lower z q a b upright)
          (ap (λ t. t && (fraction_eq (whole a.x) z && (fraction_le q (whole (int_max a.y b.y)) && fraction_lt (whole (int_min a.y b.y)) q))) upright)
          (at_or_under (int_min a.y b.y *ℤ pos q.den) (int_max a.y b.y *ℤ pos q.den) (q.num *ℤ pos 1) (mul_le (int_min a.y b.y) (int_max a.y b.y) q.den (in_order a.y b.y)))
      | inr slants ↦
          split_plain (is_on (point_at z q) (Edge a b)) (comes_at z q (Edge a b)) (leaves_at z q (Edge a b)) (under z q (Edge a b))
          (subst (λ t. IsEither (is_on (point_at z q) (Edge a b)) (comes_at z q (Edge a b)) (lies_at z q (if t then lower_end e else left_end e))) (sym slants) (on-slanted z q a b i j slants))
          (ap (λ t. t && (fraction_eq (whole a.x) z && (fraction_le q (whole (int_max a.y b.y)) && fraction_lt (whole (int_min a.y b.y)) q))) slants)
    ]
on_until z q (Dot a) i j = split_plain (is_on (point_at z q) (Dot a)) false (lies_at z q a) false (on-dot z q a i j) refl

-- ---- what goes on from a height: it comes there and goes past, or it begins there
kept : (ltr eqr ler hq : Bool) → ler ≡ (ltr || eqr) → (ltr && hq) ≡ ((ler && hq) && ltr)
kept true eqr ler true e = sym (ap (λ t. (t && true) && true) e)
kept true eqr ler false e = sym (ap (λ t. (t && false) && true) e)
kept false eqr ler hq e = sym (and_false (ler && hq))

-- an edge goes on where it came and does not end, or where it begins
slanted_onward : (le lt eq ler ltr eqr hq lq : Bool) → le ≡ (lt || eq) → (lt && eq) ≡ false → ler ≡ (ltr || eqr) → (eq ≡ true → ltr ≡ true) → (eq ≡ true → hq ≡ lq) →
    IsEither ((le && ltr) && hq) (((lt && ler) && hq) && ltr) (eq && lq)
slanted_onward le true true ler ltr eqr hq lq e f r g h = absurd (both_ways true f refl)
slanted_onward le true false ler ltr eqr hq lq e f r g h =
    (ap (λ t. (t && ltr) && hq) e ∙ kept ltr eqr ler hq r ∙ sym (or_false ((ler && hq) && ltr)), and_false ((ler && hq) && ltr))
slanted_onward le false true ler ltr eqr hq lq e f r g h = (ap (λ t. (t && ltr) && hq) e ∙ ap (λ t. t && hq) (g refl) ∙ h refl, refl)
slanted_onward le false false ler ltr eqr hq lq e f r g h = (ap (λ t. (t && ltr) && hq) e, refl)

-- no test passes
either_none : (d a b : Bool) → d ≡ false → a ≡ false → b ≡ false → IsEither d a b
either_none d a b e f g = (e ∙ sym (ap (λ t. t || b) f ∙ g), ap (λ t. t && b) f)

-- what goes on from a height
pub onward_from : (z q : Fraction) (p : Piece) → IsFraction z →
    IsEither (goes_on_from z q p) (comes_at z q p && goes_past_at z p) (begins_at z q p)
onward_from z q (Edge a b) i =
    let e = edge_between a b in
    elim (cases_Bool (is_vertical e)) [
      | inl upright ↦
          either_none (goes_on_from z q (Edge a b)) (comes_at z q (Edge a b) && goes_past_at z (Edge a b)) (begins_at z q (Edge a b))
          (ap (λ t. t && fraction_eq (height_at e z) q) (goes_on-vertical e z upright))
          (ap (λ t. (t && fraction_eq (height_at e z) q) && goes_past_at z (Edge a b)) (comes_to-vertical z a b upright))
          (ap (λ t. not t && lies_at z q (left_end e)) upright)
      | inr slants ↦
          let k = lies_by z q e i slants in
          let split =
          slanted_onward (fraction_le (whole (left_end e).x) z) (fraction_lt (whole (left_end e).x) z) (fraction_eq (whole (left_end e).x) z)
          (fraction_le z (whole (right_end e).x)) (fraction_lt z (whole (right_end e).x)) (fraction_eq (whole (right_end e).x) z)
          (fraction_eq (height_at e z) q) (fraction_eq (whole (left_end e).y) q) k.left k.left_apart k.right k.runs k.at_left in (
            ap (λ t. t && fraction_eq (height_at e z) q) k.onward
                ∙ split.0
                ∙ ap (λ t. (comes_at z q (Edge a b) && goes_past_at z (Edge a b)) || (not t && lies_at z q (left_end e))) (sym slants),
            ap (λ t. (comes_at z q (Edge a b) && goes_past_at z (Edge a b)) && (not t && lies_at z q (left_end e))) slants ∙ split.1,
          )
    ]
onward_from z q (Dot a) i = (refl, refl)

-- an edge that comes to the height and doesn't end there goes past
pub past_from : (z q : Fraction) (p : Piece) → IsFraction z → comes_at z q p ≡ true → ends_at z q p ≡ false → goes_past_at z p ≡ true
past_from z q (Edge a b) i h k =
    let e = edge_between a b in
    elim (cases_Bool (is_vertical e)) [
      | inl upright ↦
          absurd (both_ways (comes_at z q (Edge a b)) (ap (λ t. t && fraction_eq (height_at e z) q) (comes_to-vertical z a b upright)) h)
      | inr slants ↦
          let l = lies_by z q e i slants in
          let parts = and_parts (comes_to z (Edge a b)) (fraction_eq (height_at e z) q) h in
          let sides = and_parts (fraction_lt (whole (left_end e).x) z) (fraction_le z (whole (right_end e).x)) parts.0 in
          goes (fraction_lt z (whole (right_end e).x)) (fraction_eq (whole (right_end e).x) z) (fraction_eq (whole (right_end e).y) q)
          (sym l.right ∙ sides.1)
          (λ t. sym (l.at_right t) ∙ parts.1)
          (ap (λ t. not t && lies_at z q (right_end e)) (sym slants) ∙ k)
    ]
  where
    goes : (lt eq level : Bool) → (lt || eq) ≡ true → (eq ≡ true → level ≡ true) → (eq && level) ≡ false → lt ≡ true
    goes true eq level e f g = refl
    goes false true level e f g = absurd (both_ways level g (f refl))
    goes false false level e f g = e
past_from z q (Dot a) i h k = h

-- ---- the vertical edges on a gap are those across the heights at its ends
pub record Against (q r m h : Fraction) : Type 0 where
  pub low_high : fraction_le h m ≡ fraction_lt h q
  pub low_low : fraction_le h m ≡ fraction_le h r
  pub high_high : fraction_le m h ≡ fraction_le q h
  pub high_low : fraction_le m h ≡ fraction_lt r h

-- orders one after another
pub lt_before_le : (a b c : Fraction) → IsFraction a → IsFraction b → IsFraction c → fraction_lt a b ≡ true → fraction_le b c ≡ true → fraction_lt a c ≡ true
lt_before_le a b c i j k h l = test_from_lt _ _ (lt_le a b c i j k (lt_from_test _ _ h) (le_from_test _ _ l))

pub le_before_lt : (a b c : Fraction) → IsFraction a → IsFraction b → IsFraction c → fraction_le a b ≡ true → fraction_lt b c ≡ true → fraction_lt a c ≡ true
le_before_lt a b c i j k h l = test_from_lt _ _ (le_lt a b c i j k (le_from_test _ _ h) (lt_from_test _ _ l))

-- what one order says of the other
pub not_le : (a b : Fraction) → fraction_lt a b ≡ true → fraction_le b a ≡ false
not_le a b h = opposite (a.num *ℤ pos b.den) (b.num *ℤ pos a.den) h
  where
    opposite : (m n : ℤ) → int_lt m n ≡ true → int_le n m ≡ false
    opposite m n e = grind (arith, ints)

pub not_lt : (a b : Fraction) → fraction_le a b ≡ true → fraction_lt b a ≡ false
not_lt a b h = opposite (a.num *ℤ pos b.den) (b.num *ℤ pos a.den) h
  where
    opposite : (m n : ℤ) → int_le m n ≡ true → int_lt n m ≡ false
    opposite m n e = grind (arith, ints)

pub weakly_less : (a b : Fraction) → fraction_lt a b ≡ true → fraction_le a b ≡ true
weakly_less a b h = weaker (a.num *ℤ pos b.den) (b.num *ℤ pos a.den) h
  where
    weaker : (m n : ℤ) → int_lt m n ≡ true → int_le m n ≡ true
    weaker m n e = grind (arith, ints)

-- a number from the top of the gap on
above_all : (q r m h : Fraction) → IsGap q r m → IsFraction h → fraction_le q h ≡ true → Against q r m h
above_all q r m h g i l =
    let over_place = lt_before_le m q h g.place g.high i g.below l in
    let over_low = lt_before_le r m h g.low g.place i g.above (weakly_less m h over_place) in
    record {
      low_high = not_le m h over_place ∙ sym (not_lt q h l);
      low_low = not_le m h over_place ∙ sym (not_le r h over_low);
      high_high = weakly_less m h over_place ∙ sym l;
      high_low = weakly_less m h over_place ∙ sym over_low;
    }

-- a number from its bottom down
below_all : (q r m h : Fraction) → IsGap q r m → IsFraction h → fraction_le h r ≡ true → Against q r m h
below_all q r m h g i l =
    let under_place = le_before_lt h r m i g.low g.place l g.above in
    let under_high = le_before_lt h m q i g.place g.high (weakly_less h m under_place) g.below in
    record {
      low_high = weakly_less h m under_place ∙ sym under_high;
      low_low = weakly_less h m under_place ∙ sym l;
      high_high = not_le h m under_place ∙ sym (not_le h q under_high);
      high_low = not_le h m under_place ∙ sym (not_lt h r l);
    }

-- any number that is not inside the gap
against : (q r m h : Fraction) → IsGap q r m → IsFraction h → Parted q r h → Against q r m h
against q r m h g i p = elim p [ inl from_top ↦ above_all q r m h g i from_top | inr from_below ↦ below_all q r m h g i from_below ]

-- tests that agree in the column
if_column : (c s t : Bool) → (c ≡ true → s ≡ t) → (c && s) ≡ (c && t)
if_column true s t h = h refl
if_column false s t h = refl

-- both tests, in either order
swapped : (s t : Bool) → (s && t) ≡ (t && s)
swapped true true = refl
swapped true false = refl
swapped false true = refl
swapped false false = refl

-- both ends of a vertical edge of the column are parted
ends_parted : (z q r : Fraction) (a b : Coordinates) → is_vertical (edge_between a b) ≡ true → fraction_eq (whole a.x) z ≡ true →
    AllByRecursion (Parted q r) (heights_of z (Edge a b)) → Parted q r (whole (int_min a.y b.y)) × Parted q r (whole (int_max a.y b.y))
ends_parted z q r a b upright t h =
    let e = edge_between a b in
    let both =
    if_true (AllByRecursion (Parted q r)) (fraction_eq (whole a.x) z) (whole a.y ∷ whole b.y ∷ []) [] t
    (if_true (AllByRecursion (Parted q r)) (is_vertical e) (if_in_column z a (whole a.y ∷ whole b.y ∷ [])) (if reaches e z then height_at e z ∷ [] else []) upright h) in
    one_of (λ y. Parted q r (whole y)) a.y b.y both.0 both.1.0

-- the gap below a height
pub on_gap-under : (z q r m : Fraction) (p : Piece) → IsFraction z → IsGap q r m → AllByRecursion (Parted q r) (heights_of z p) → is_on (point_at z m) p ≡ under z q p
on_gap-under z q r m (Edge a b) i g h =
    let e = edge_between a b in
    elim (cases_Bool (is_vertical e)) [
      | inl upright ↦
          on-vertical z m a b i g.place upright
          ∙ if_column (fraction_eq (whole a.x) z) _ _ (λ t.
          let ends = ends_parted z q r a b upright t h in
          ap (λ s. s && fraction_le m (whole (int_max a.y b.y))) (against q r m (whole (int_min a.y b.y)) g (record { positive = lit< tt }) ends.0).low_high
          ∙ ap (λ s. fraction_lt (whole (int_min a.y b.y)) q && s) (against q r m (whole (int_max a.y b.y)) g (record { positive = lit< tt }) ends.1).high_high
          ∙ swapped (fraction_lt (whole (int_min a.y b.y)) q) (fraction_le q (whole (int_max a.y b.y))))
          ∙ sym (ap (λ s. s && (fraction_eq (whole a.x) z && (fraction_le q (whole (int_max a.y b.y)) && fraction_lt (whole (int_min a.y b.y)) q))) upright)
      | inr slants ↦
          is_on-gap z q r m (Edge a b) i g h
          ∙ ap (λ s. s && (is_on (point_at z q) (Edge a b) && is_on (point_at z r) (Edge a b))) slants
          ∙ sym (ap (λ s. s && (fraction_eq (whole a.x) z && (fraction_le q (whole (int_max a.y b.y)) && fraction_lt (whole (int_min a.y b.y)) q))) slants)
    ]
on_gap-under z q r m (Dot a) i g h = is_on-gap z q r m (Dot a) i g h

-- and above a height
pub on_gap-over : (z q r m : Fraction) (p : Piece) → IsFraction z → IsGap q r m → AllByRecursion (Parted q r) (heights_of z p) → is_on (point_at z m) p ≡ over z r p
on_gap-over z q r m (Edge a b) i g h =
    let e = edge_between a b in
    elim (cases_Bool (is_vertical e)) [
      | inl upright ↦
          on-vertical z m a b i g.place upright
          ∙ if_column (fraction_eq (whole a.x) z) _ _ (λ t.
          let ends = ends_parted z q r a b upright t h in
          ap (λ s. s && fraction_le m (whole (int_max a.y b.y))) (against q r m (whole (int_min a.y b.y)) g (record { positive = lit< tt }) ends.0).low_low
          ∙ ap (λ s. fraction_le (whole (int_min a.y b.y)) r && s) (against q r m (whole (int_max a.y b.y)) g (record { positive = lit< tt }) ends.1).high_low
          ∙ swapped (fraction_le (whole (int_min a.y b.y)) r) (fraction_lt r (whole (int_max a.y b.y))))
          ∙ sym (ap (λ s. s && (fraction_eq (whole a.x) z && (fraction_lt r (whole (int_max a.y b.y)) && fraction_le (whole (int_min a.y b.y)) r))) upright)
      | inr slants ↦
          is_on-gap z q r m (Edge a b) i g h
          ∙ ap (λ s. s && (is_on (point_at z q) (Edge a b) && is_on (point_at z r) (Edge a b))) slants
          ∙ sym (ap (λ s. s && (fraction_eq (whole a.x) z && (fraction_lt r (whole (int_max a.y b.y)) && fraction_le (whole (int_min a.y b.y)) r))) slants)
    ]
on_gap-over z q r m (Dot a) i g h = is_on-gap z q r m (Dot a) i g h

-- no vertical edge is across the highest height, and none across the lowest
pub none_over : (z q : Fraction) (p : Piece) → AllByRecursion (λ h. fraction_lt q h ≡ false) (heights_of z p) → over z q p ≡ false
none_over z q (Edge a b) h = by_cases (is_vertical e) (fraction_eq (whole a.x) z) (fraction_lt q (whole (int_max a.y b.y))) (fraction_le (whole (int_min a.y b.y)) q) (λ u t.
    let both =
    if_true (AllByRecursion (λ h. fraction_lt q h ≡ false)) (fraction_eq (whole a.x) z) (whole a.y ∷ whole b.y ∷ []) [] t
    (if_true (AllByRecursion (λ h. fraction_lt q h ≡ false)) (is_vertical e) (if_in_column z a (whole a.y ∷ whole b.y ∷ [])) (if reaches e z then height_at e z ∷ [] else []) u h) in
    (one_of (λ y. fraction_lt q (whole y) ≡ false) a.y b.y both.0 both.1.0).1)
  where
    e : Line
    e = edge_between a b

    by_cases : (u t high low : Bool) → (u ≡ true → t ≡ true → high ≡ false) → (u && (t && (high && low))) ≡ false
    by_cases true true high low g = ap (λ s. s && low) (g refl refl)
    by_cases true false high low g = refl
    by_cases false t high low g = refl
none_over z q (Dot a) h = refl

-- and none below the lowest
pub none_under : (z q : Fraction) (p : Piece) → AllByRecursion (λ h. fraction_lt h q ≡ false) (heights_of z p) → under z q p ≡ false
none_under z q (Edge a b) h = by_cases (is_vertical e) (fraction_eq (whole a.x) z) (fraction_le q (whole (int_max a.y b.y))) (fraction_lt (whole (int_min a.y b.y)) q) (λ u t.
    let both =
    if_true (AllByRecursion (λ h. fraction_lt h q ≡ false)) (fraction_eq (whole a.x) z) (whole a.y ∷ whole b.y ∷ []) [] t
    (if_true (AllByRecursion (λ h. fraction_lt h q ≡ false)) (is_vertical e) (if_in_column z a (whole a.y ∷ whole b.y ∷ [])) (if reaches e z then height_at e z ∷ [] else []) u h) in
    (one_of (λ y. fraction_lt (whole y) q ≡ false) a.y b.y both.0 both.1.0).0)
  where
    e : Line
    e = edge_between a b

    by_cases : (u t high low : Bool) → (u ≡ true → t ≡ true → low ≡ false) → (u && (t && (high && low))) ≡ false
    by_cases true true high low g = ap (λ s. high && s) (g refl refl) ∙ and_false high
    by_cases true false high low g = refl
    by_cases false t high low g = refl
none_under z q (Dot a) h = refl
