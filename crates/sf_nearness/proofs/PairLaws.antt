-- The least of the squares of all pairs of segments is the least square of the segments, and of valid geometries that share no point.
use Rattle.std.proofs.Common.{◌≡◌, ◌≢◌, refl, ap, sym, ◌∙◌, subst, ℤ, pos, ◌*ℤ◌, ◌≤ℤ◌, ◌<ℤ◌, ◌<◌, arith, Bool, true, false, ◌&&◌, List, [], ◌∷◌, ◌++◌, map, length, ◌⊎◌, inl, inr}
use Rattle.std.specs.Prelude.{IsTrue, int_le}
use Rattle.std.specs.List.{AllByRecursion, list_any}
use Rattle.std.specs.Ordering.{int_eq}
use Rattle.std.proofs.lemmas.Bool.{both_ways, cases_Bool, or_cases, or_left, or_right}
use Rattle.std.proofs.lemmas.Int.{ints}
use Rattle.std.proofs.lemmas.List.Folds.{list_any-append}
use Rattle.sf_grid.specs.Fraction.{Fraction, IsFraction, fraction_eq, fraction_le, whole}
use Rattle.sf_grid.specs.Plane.{Coordinates, IsPoint, IsSamePoint, Point, grid_point}
use Rattle.sf_grid.specs.Edge.{Edge, IsOnEdge, edge_between, on_edge}
use Rattle.sf_grid.specs.Sharing.{IsSharing}
use Rattle.sf_grid.specs.declared.meet.Meet.TheVariants.{Apart}
use Rattle.sf_grid.proofs.CrossingLaws.{on_edge-same_point}
use Rattle.sf_grid.proofs.NumberTests.{le_from_test, test_from_eq, test_from_le}
use Rattle.sf_grid.proofs.Ring.{ring, var, num, sum, dif, mul}
use Rattle.sf_geometry.specs.declared.geometry.Geometry.{Geometry}
use Rattle.sf_known.specs.Patterns.{has_contact}
use Rattle.sf_valid_rules.specs.Validity.{IsValid}
use Rattle.sf_relate.specs.Contact.{SharePoint}
use Rattle.sf_relate.specs.Matrices.{matrix_of}
use Rattle.sf_relate.proofs.SharedLaws.{contact_is_shared}
use Rattle.sf_distance.specs.Nearest.{along, lesser, square_of, square_of_ends, square_to_edge}
use Rattle.sf_distance.specs.Squares.{IsLeastSquare, IsReached, square_between}
use Rattle.sf_distance.proofs.DotLaws.{dot_is_point, ends_differ, ends_same, least_to_dot}
use Rattle.sf_distance.proofs.LeastLaws.{ends_are_nearest, feet_are_nearest, flipped, le_flipped}
use Rattle.sf_distance.proofs.PointLaws.{gt_from_test, if_cases}
use Rattle.sf_edge_distance.proofs.SearchLaws.{between_is_number, reached_le, self, through}
use Rattle.sf_nearness.specs.Laws.{ComputedIsLeast, LeastIsOne}
use Rattle.sf_nearness.specs.Least.{least_of, least_square_of, squares_of_pairs}
use Rattle.sf_nearness.specs.Segments.{segments_of}
use Rattle.sf_nearness.specs.Sets.{IsOf}
use Rattle.sf_nearness.proofs.LeavingLaws.{end_on, start_on}
use Rattle.sf_nearness.proofs.ListedLaws.{has-point}
use Rattle.sf_nearness.proofs.NearLaws.{distance_is_of_segments, shared-least}
use Rattle.sf_nearness.proofs.SegmentLaws.{segments-in, some-segment}

-- ---- the lesser of two
less-most : (x y : ℤ) → x <ℤ y → x ≤ℤ y
less-most x y l = omega (arith, ints)

lesser-first : (a b : Fraction) → IsTrue (fraction_le (lesser a b) a)
lesser-first a b =
    if_cases (λ (t : Fraction). IsTrue (fraction_le t a)) (fraction_le a b) a b (λ t. self a)
    (λ t. test_from_le (b.num *ℤ pos a.den) (a.num *ℤ pos b.den) (less-most (b.num *ℤ pos a.den) (a.num *ℤ pos b.den) (gt_from_test (a.num *ℤ pos b.den) (b.num *ℤ pos a.den) t)))

lesser-second : (a b : Fraction) → IsTrue (fraction_le (lesser a b) b)
lesser-second a b = if_cases (λ (t : Fraction). IsTrue (fraction_le t b)) (fraction_le a b) a b (λ t. t) (λ t. self b)

pub lesser-is : (P : Fraction → Type 0) (a b : Fraction) → P a → P b → P (lesser a b)
lesser-is P a b h k = if_cases P (fraction_le a b) a b (λ t. h) (λ t. k)

pub by-first : (a b s : Fraction) → IsFraction a → IsTrue (fraction_le a s) → IsTrue (fraction_le (lesser a b) s)
by-first a b s n h = through (lesser a b) a s n (lesser-first a b) h

pub by-second : (a b s : Fraction) → IsFraction b → IsTrue (fraction_le b s) → IsTrue (fraction_le (lesser a b) s)
by-second a b s n h = through (lesser a b) b s n (lesser-second a b) h

-- ---- a grid point and an edge whose ends may be one point
dot-along : (a x : Coordinates) → along (edge_between a a) x ≡ pos 0
dot-along a x =
    ring (a.x ∷ a.y ∷ x.x ∷ x.y ∷ []) (sum (mul (dif (var 0) (var 0)) (dif (var 2) (var 0))) (mul (dif (var 1) (var 1)) (dif (var 3) (var 1)))) (num (pos 0)) refl

squares-back : (a b : Coordinates) → square_of a b ≡ square_of b a
squares-back a b =
    ring (a.x ∷ a.y ∷ b.x ∷ b.y ∷ []) (sum (mul (dif (var 2) (var 0)) (dif (var 2) (var 0))) (mul (dif (var 3) (var 1)) (dif (var 3) (var 1)))) (sum (mul (dif (var 0) (var 2)) (dif (var 0) (var 2))) (mul (dif (var 1) (var 3)) (dif (var 1) (var 3)))) refl

dot-square : (a x : Coordinates) → square_to_edge (edge_between a a) x ≡ whole (square_of x a)
dot-square a x =
    if_cases (λ (s : Fraction). s ≡ whole (square_of x a)) (int_le (along (edge_between a a) x) (pos 0)) (whole (square_of a x)) _
    (λ t. ap whole (squares-back a x))
    (λ t. absurd (both_ways (int_le (along (edge_between a a) x) (pos 0)) t (subst (λ (z : ℤ). int_le z (pos 0) ≡ true) (sym (dot-along a x)) refl)))

one-or-two : (a b : Coordinates) → (a ≡ b) ⊎ (a ≢ b)
one-or-two a b =
    elim (cases_Bool (int_eq a.x b.x && int_eq a.y b.y)) [
      | inl t ↦ inl (ends_same a b t)
      | inr t ↦ inr (ends_differ a b t)
    ]

to-dotted : (x a b : Coordinates) → a ≡ b → IsLeastSquare (λ p. IsSamePoint p (grid_point x)) (IsOnEdge (edge_between a b)) (square_to_edge (edge_between a b) x)
to-dotted x a b same =
    subst (λ (c : Coordinates). IsLeastSquare (λ p. IsSamePoint p (grid_point x)) (IsOnEdge (edge_between a c)) (square_to_edge (edge_between a c) x)) same
    (subst (λ (s : Fraction). IsLeastSquare (λ p. IsSamePoint p (grid_point x)) (IsOnEdge (edge_between a a)) s) (sym (dot-square a x)) (least_to_dot x a a refl))

to-any : (x : Coordinates) (e : Edge) → IsLeastSquare (λ p. IsSamePoint p (grid_point x)) (IsOnEdge e) (square_to_edge e x)
to-any x e =
    elim (one-or-two e.a e.b) [
      | inl same ↦ to-dotted x e.a e.b same
      | inr d ↦ feet_are_nearest e x d
    ]

-- ---- two edges, whose ends may be one point
from-first : (e f : Edge) (x : Coordinates) → IsOnEdge e (grid_point x) → IsReached (IsOnEdge e) (IsOnEdge f) (square_to_edge f x)
from-first e f x h =
    let r = (to-any x f).reached in
    record {
      first = r.first;
      second = r.second;
      first_is_point = r.first_is_point;
      second_is_point = r.second_is_point;
      in_first = on_edge-same_point e r.first (grid_point x) r.first_is_point (record { positive = omega arith }) r.in_first h;
      in_second = r.in_second;
      reached = r.reached;
    }

from-second : (e f : Edge) (x : Coordinates) → IsOnEdge f (grid_point x) → IsReached (IsOnEdge e) (IsOnEdge f) (square_to_edge e x)
from-second e f x h =
    let r = from-first f e x h in
    record {
      first = r.second;
      second = r.first;
      first_is_point = r.second_is_point;
      second_is_point = r.first_is_point;
      in_first = r.in_second;
      in_second = r.in_first;
      reached = flipped r.first r.second (square_to_edge e x) r.reached;
    }

pub first-number : (e f : Edge) → IsFraction (lesser (square_to_edge f e.a) (square_to_edge f e.b))
first-number e f = lesser-is IsFraction (square_to_edge f e.a) (square_to_edge f e.b) (to-any e.a f).is_number (to-any e.b f).is_number

ends-reached : (e f : Edge) → IsReached (IsOnEdge e) (IsOnEdge f) (square_of_ends e f)
ends-reached e f =
    let R : Fraction → Type 0 = IsReached (IsOnEdge e) (IsOnEdge f) in
    lesser-is R _ _ (lesser-is R _ _ (from-first e f e.a (start_on e)) (from-first e f e.b (end_on e))) (lesser-is R _ _ (from-second e f f.a (start_on f)) (from-second e f f.b (end_on f)))

on-start : (e : Edge) (p : Point) → e.a ≡ e.b → IsOnEdge e p → IsSamePoint p (grid_point e.a)
on-start e p same h = dot_is_point e.a p (subst (λ (c : Coordinates). IsOnEdge (edge_between e.a c) p) (sym same) h)

ends-least : (e f : Edge) (p q : Point) → IsSharing e f Apart → IsPoint p → IsPoint q → IsOnEdge e p → IsOnEdge f q → IsTrue (fraction_le (square_of_ends e f) (square_between p q))
ends-least e f p q none i j h k =
    elim (one-or-two e.a e.b) [
      | inl same ↦
          by-first (lesser (square_to_edge f e.a) (square_to_edge f e.b)) (lesser (square_to_edge e f.a) (square_to_edge e f.b)) (square_between p q) (first-number e f)
          (by-first (square_to_edge f e.a) (square_to_edge f e.b) (square_between p q) (to-any e.a f).is_number ((to-any e.a f).least p q i j (on-start e p same h) k))
      | inr d ↦
          elim (one-or-two f.a f.b) [
            | inl same ↦
                by-second (lesser (square_to_edge f e.a) (square_to_edge f e.b)) (lesser (square_to_edge e f.a) (square_to_edge e f.b)) (square_between p q) (first-number f e)
                (by-first (square_to_edge e f.a) (square_to_edge e f.b) (square_between p q) (to-any f.a e).is_number
                (le_flipped q p (square_to_edge e f.a) ((to-any f.a e).least q p j i (on-start f q same k) h)))
            | inr g ↦ (ends_are_nearest e f d g none).least p q i j h k
          ]
    ]

-- ---- lists of squares
abbrev pub IsOn : List Edge → Point → Type 0
IsOn es q = IsTrue (list_any (λ e. on_edge e q) es)

abbrev Within : (Point → Type 0) → (Point → Type 0) → Type 0
Within A B = (q : Point) → A q → B q

all-append : (P : Fraction → Type 0) (ss ts : List Fraction) → AllByRecursion P ss → AllByRecursion P ts → AllByRecursion P (ss ++ ts)
all-append P [] ts h k = k
all-append P (s ∷ ss) ts h k = (h.0, all-append P ss ts h.1 k)

pub least-is : (P : Fraction → Type 0) (ss : List Fraction) → 0 < length ss → AllByRecursion P ss → P (least_of ss)
least-is P [] some h = absurd (omega (arith, some))
least-is P (s ∷ []) some h = h.0
least-is P (s ∷ t ∷ rest) some h = lesser-is P s (least_of (t ∷ rest)) h.0 (least-is P (t ∷ rest) (omega arith) h.1)

pub least-le : (z : Fraction) (ss : List Fraction) → AllByRecursion IsFraction ss → list_any (λ s. fraction_le s z) ss ≡ true → IsTrue (fraction_le (least_of ss) z)
least-le z [] n h = absurd (both_ways false refl h)
least-le z (s ∷ []) n h =
    elim (or_cases (fraction_le s z) false h) [
      | inl t ↦ t
      | inr t ↦ absurd (both_ways false refl t)
    ]
least-le z (s ∷ t ∷ rest) n h =
    elim (or_cases (fraction_le s z) (list_any (λ s. fraction_le s z) (t ∷ rest)) h) [
      | inl k ↦ by-first s (least_of (t ∷ rest)) z n.0 k
      | inr k ↦ by-second s (least_of (t ∷ rest)) z (least-is IsFraction (t ∷ rest) (omega arith) n.1) (least-le z (t ∷ rest) n.1 k)
    ]

-- ---- all pairs
row-all : (P : Fraction → Type 0) (B : Point → Type 0) (e : Edge) (fs : List Edge) → ((f : Edge) → Within (IsOnEdge f) B → P (square_of_ends e f)) → Within (IsOn fs) B
    → AllByRecursion P (map (square_of_ends e) fs)
row-all P B e [] each on = tt
row-all P B e (f ∷ fs) each on = (
  each f (λ q h. on q (or_left (on_edge f q) (list_any (λ e. on_edge e q) fs) h)),
  row-all P B e fs each (λ q h. on q (or_right (on_edge f q) (list_any (λ e. on_edge e q) fs) h)),
)

pub pairs-all : (P : Fraction → Type 0) (A B : Point → Type 0) (es fs : List Edge) → ((e f : Edge) → Within (IsOnEdge e) A → Within (IsOnEdge f) B → P (square_of_ends e f))
    → Within (IsOn es) A → Within (IsOn fs) B → AllByRecursion P (squares_of_pairs es fs)
pairs-all P A B [] fs each on over = tt
pairs-all P A B (e ∷ es) fs each on over =
    all-append P (map (square_of_ends e) fs) (squares_of_pairs es fs)
    (row-all P B e fs (λ f h. each e f (λ q i. on q (or_left (on_edge e q) (list_any (λ e. on_edge e q) es) i)) h) over)
    (pairs-all P A B es fs each (λ q i. on q (or_right (on_edge e q) (list_any (λ e. on_edge e q) es) i)) over)

row-any : (z : Fraction) (q : Point) (e : Edge) (fs : List Edge) → ((f : Edge) → Within (IsOnEdge f) (IsOn fs) → IsOnEdge f q → IsTrue (fraction_le (square_of_ends e f) z)) → IsOn fs q
    → list_any (λ s. fraction_le s z) (map (square_of_ends e) fs) ≡ true
row-any z q e [] each h = absurd (both_ways false refl h)
row-any z q e (f ∷ fs) each h =
    elim (or_cases (on_edge f q) (list_any (λ e. on_edge e q) fs) h) [
      | inl k ↦ or_left (fraction_le (square_of_ends e f) z) _ (each f (λ r i. or_left (on_edge f r) (list_any (λ e. on_edge e r) fs) i) k)
      | inr k ↦
          or_right (fraction_le (square_of_ends e f) z) (list_any (λ s. fraction_le s z) (map (square_of_ends e) fs))
          (row-any z q e fs (λ g over. each g (λ r i. or_right (on_edge f r) (list_any (λ e. on_edge e r) fs) (over r i))) k)
    ]

pairs-any : (z : Fraction) (p q : Point) (es fs : List Edge)
    → ((e f : Edge) → Within (IsOnEdge e) (IsOn es) → Within (IsOnEdge f) (IsOn fs) → IsOnEdge e p → IsOnEdge f q → IsTrue (fraction_le (square_of_ends e f) z))
    → IsOn es p → IsOn fs q → list_any (λ s. fraction_le s z) (squares_of_pairs es fs) ≡ true
pairs-any z p q [] fs each h k = absurd (both_ways false refl h)
pairs-any z p q (e ∷ es) fs each h k =
    let test : Fraction → Bool = λ s. fraction_le s z in
    list_any-append test (map (square_of_ends e) fs) (squares_of_pairs es fs)
    ∙ elim (or_cases (on_edge e p) (list_any (λ e. on_edge e p) es) h) [
      | inl t ↦
          or_left (list_any test (map (square_of_ends e) fs)) (list_any test (squares_of_pairs es fs))
          (row-any z q e fs (λ f over on. each e f (λ r i. or_left (on_edge e r) (list_any (λ e. on_edge e r) es) i) over t on) k)
      | inr t ↦
          or_right (list_any test (map (square_of_ends e) fs)) (list_any test (squares_of_pairs es fs))
          (pairs-any z p q es fs (λ g f into over. each g f (λ r i. or_right (on_edge e r) (list_any (λ e. on_edge e r) es) (into r i)) over) t k)
    ]

pub some-pair : (es fs : List Edge) → 0 < length es → 0 < length fs → 0 < length (squares_of_pairs es fs)
some-pair [] fs h k = absurd (omega (arith, h))
some-pair (e ∷ es) [] h k = absurd (omega (arith, k))
some-pair (e ∷ es) (f ∷ fs) h k = omega arith

pub ends-number : (e f : Edge) → IsFraction (square_of_ends e f)
ends-number e f = lesser-is IsFraction _ _ (first-number e f) (first-number f e)

pairs-least : (es fs : List Edge) → 0 < length es → 0 < length fs → ((p : Point) → IsPoint p → IsOn es p → IsOn fs p → ⊥) → IsLeastSquare (IsOn es) (IsOn fs) (least_of (squares_of_pairs es fs))
pairs-least es fs some others none =
    let numbers : AllByRecursion IsFraction (squares_of_pairs es fs) = pairs-all IsFraction (IsOn es) (IsOn fs) es fs (λ e f on over. ends-number e f) (λ q h. h) (λ q h. h) in
    let reached : AllByRecursion (IsReached (IsOn es) (IsOn fs)) (squares_of_pairs es fs) =
    pairs-all (IsReached (IsOn es) (IsOn fs)) (IsOn es) (IsOn fs) es fs (λ e f on over. wider e f on over (ends-reached e f)) (λ q h. h) (λ q h. h) in
    record {
      is_number = least-is IsFraction (squares_of_pairs es fs) (some-pair es fs some others) numbers;
      reached = least-is (IsReached (IsOn es) (IsOn fs)) (squares_of_pairs es fs) (some-pair es fs some others) reached;
      least =
          λ p q i j h k.
          least-le (square_between p q) (squares_of_pairs es fs) numbers
          (pairs-any (square_between p q) p q es fs (λ e f on over h' k'. ends-least e f p q (λ r o both. none r o (on r both.0) (over r both.1)) i j h' k') h k);
    }
  where
    wider : (e f : Edge) → Within (IsOnEdge e) (IsOn es) → Within (IsOnEdge f) (IsOn fs) → IsReached (IsOnEdge e) (IsOnEdge f) (square_of_ends e f) → IsReached (IsOn es) (IsOn fs) (square_of_ends e f)
    wider e f on over r =
        record {
          first = r.first;
          second = r.second;
          first_is_point = r.first_is_point;
          second_is_point = r.second_is_point;
          in_first = on r.first r.in_first;
          in_second = over r.second r.in_second;
          reached = r.reached;
        }

-- ---- what is computed is a number, of any geometries
any-least : (ss : List Fraction) → AllByRecursion IsFraction ss → IsFraction (least_of ss)
any-least [] n = record { positive = omega arith }
any-least (s ∷ ss) n = least-is IsFraction (s ∷ ss) (omega arith) n

pub least_is_number : (a b : Geometry) → IsFraction (least_square_of a b)
least_is_number a b =
    let es : List Edge = segments_of a in
    let fs : List Edge = segments_of b in
    if_cases IsFraction (has_contact (matrix_of a b)) (whole (pos 0)) (least_of (squares_of_pairs (segments_of a) (segments_of b)))
    (λ t. record { positive = omega arith })
    (λ t. any-least (squares_of_pairs es fs) (pairs-all IsFraction (IsOn es) (IsOn fs) es fs (λ e f on over. ends-number e f) (λ q h. h) (λ q h. h)))

-- ---- valid geometries
some-of : (a : Geometry) → IsValid a → 0 < length (segments_of a)
some-of a v = let s = has-point a v in some-segment a s.q v s.is_point s.in_first

pub computed_is_least : ComputedIsLeast
computed_is_least a b va vb =
    if_cases (λ (s : Fraction). IsLeastSquare (IsOf a) (IsOf b) s) (has_contact (matrix_of a b)) (whole (pos 0)) (least_of (squares_of_pairs (segments_of a) (segments_of b)))
    (λ t. shared-least a b ((contact_is_shared a b).shared.0 t))
    (λ t.
    let none : SharePoint a b → ⊥ = λ s. both_ways (has_contact (matrix_of a b)) t ((contact_is_shared a b).shared.1 s) in
    distance_is_of_segments a b (least_of (squares_of_pairs (segments_of a) (segments_of b))) va vb none
    (pairs-least (segments_of a) (segments_of b) (some-of a va) (some-of b vb)
    (λ p i h k. none (record { q = p; is_point = i; in_first = segments-in a p h; in_second = segments-in b p k }))))

-- ---- there is one
both-most : (x y : ℤ) → x ≤ℤ y → y ≤ℤ x → x ≡ y
both-most x y h k = omega (arith, ints)

at-most : (First Second : Point → Type 0) (s t : Fraction) → IsLeastSquare First Second s → IsLeastSquare First Second t → IsTrue (fraction_le s t)
at-most First Second s t l m =
    let r = m.reached in
    through s (square_between r.first r.second) t (between_is_number r.first r.second r.first_is_point r.second_is_point)
    (l.least r.first r.second r.first_is_point r.second_is_point r.in_first r.in_second) (reached_le First Second t r)

pub least_is_one : LeastIsOne
least_is_one a b s t l m =
    test_from_eq (s.num *ℤ pos t.den) (t.num *ℤ pos s.den)
    (both-most (s.num *ℤ pos t.den) (t.num *ℤ pos s.den) (le_from_test _ _ (at-most (IsOf a) (IsOf b) s t l m)) (le_from_test _ _ (at-most (IsOf a) (IsOf b) t s m l)))

-- so what is the least square is the number that is computed
pub is-computed : (a b : Geometry) (s : Fraction) → IsValid a → IsValid b → IsLeastSquare (IsOf a) (IsOf b) s → IsTrue (fraction_eq s (least_square_of a b))
is-computed a b s va vb l = least_is_one a b s (least_square_of a b) l (computed_is_least a b va vb)
