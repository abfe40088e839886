-- Two geometries are as near as they are the other way round.
use Rattle.std.proofs.Common.{◌≡◌, ◌∙◌, refl, ap, sym, subst, ◌<◌, arith, Bool, true, false, ◌||◌, List, [], ◌∷◌, map, length, inl, inr, pos}
use Rattle.std.specs.Prelude.{IsTrue, if◌then◌else◌}
use Rattle.std.specs.List.{AllByRecursion, list_any}
use Rattle.std.proofs.lemmas.Bool.{both_ways, or_cases, or_left, or_right}
use Rattle.std.proofs.lemmas.List.Folds.{list_any-append}
use Rattle.sf_grid.specs.Fraction.{Fraction, IsFraction, fraction_le, whole}
use Rattle.sf_grid.specs.Edge.{Edge}
use Rattle.sf_geometry.specs.declared.geometry.Geometry.{Geometry}
use Rattle.sf_known.specs.Patterns.{has_contact}
use Rattle.sf_relate.specs.Matrices.{matrix_of}
use Rattle.sf_distance.specs.Nearest.{lesser, square_of_ends, square_to_edge}
use Rattle.sf_distance.proofs.PointLaws.{if_cases}
use Rattle.sf_nearness.specs.Least.{least_of, least_square_of, squares_of_pairs}
use Rattle.sf_nearness.specs.Segments.{segments_of}
use Rattle.sf_nearness.proofs.PairLaws.{IsOn, by-first, by-second, ends-number, first-number, least-le, lesser-is, pairs-all}

-- ---- the squares of two edges
lesser-turned : (x y z : Fraction) → IsFraction x → IsFraction y → IsTrue (fraction_le (lesser x y) z) → IsTrue (fraction_le (lesser y x) z)
lesser-turned x y z n m = lesser-is (λ (s : Fraction). IsTrue (fraction_le s z) → IsTrue (fraction_le (lesser y x) z)) x y (λ h. by-second y x z n h) (λ h. by-first y x z m h)

ends-turned : (e f : Edge) (z : Fraction) → fraction_le (square_of_ends e f) z ≡ true → fraction_le (square_of_ends f e) z ≡ true
ends-turned e f z =
    lesser-turned (lesser (square_to_edge f e.a) (square_to_edge f e.b)) (lesser (square_to_edge e f.a) (square_to_edge e f.b)) z (first-number e f) (first-number f e)

-- ---- lists
any-weaker : {X : Type 0} (p q : X → Bool) → ((x : X) → p x ≡ true → q x ≡ true) → (xs : List X) → list_any p xs ≡ true → list_any q xs ≡ true
any-weaker p q w [] h = absurd (both_ways false refl h)
any-weaker p q w (x ∷ xs) h =
    elim (or_cases (p x) (list_any p xs) h) [
      | inl t ↦ or_left (q x) (list_any q xs) (w x t)
      | inr t ↦ or_right (q x) (list_any q xs) (any-weaker p q w xs t)
    ]

-- of some x and some y it is so, where it is of some y and some x
any-turned : {X Y : Type 0} (p : X → Y → Bool) (q : Y → X → Bool) → ((x : X) (y : Y) → p x y ≡ true → q y x ≡ true) → (xs : List X) (ys : List Y)
    → list_any (λ x. list_any (p x) ys) xs ≡ true → list_any (λ y. list_any (q y) xs) ys ≡ true
any-turned p q w [] ys h = absurd (both_ways false refl h)
any-turned p q w (x ∷ xs) ys h =
    elim (or_cases (list_any (p x) ys) (list_any (λ x. list_any (p x) ys) xs) h) [
      | inl t ↦ any-weaker (p x) (λ y. list_any (q y) (x ∷ xs)) (λ y k. or_left (q y x) (list_any (q y) xs) (w x y k)) ys t
      | inr t ↦
          any-weaker (λ y. list_any (q y) xs) (λ y. list_any (q y) (x ∷ xs)) (λ y k. or_right (q y x) (list_any (q y) xs) k) ys
          (any-turned p q w xs ys t)
    ]

-- ---- the squares of all pairs
row-any : (t : Fraction → Bool) (e : Edge) (fs : List Edge) → list_any t (map (square_of_ends e) fs) ≡ list_any (λ f. t (square_of_ends e f)) fs
row-any t e [] = refl
row-any t e (f ∷ fs) = ap (λ b. t (square_of_ends e f) || b) (row-any t e fs)

pairs-are : (t : Fraction → Bool) (es fs : List Edge) → list_any t (squares_of_pairs es fs) ≡ list_any (λ e. list_any (λ f. t (square_of_ends e f)) fs) es
pairs-are t [] fs = refl
pairs-are t (e ∷ es) fs =
    list_any-append t (map (square_of_ends e) fs) (squares_of_pairs es fs)
    ∙ ap (λ b. b || list_any t (squares_of_pairs es fs)) (row-any t e fs)
    ∙ ap (λ b. list_any (λ f. t (square_of_ends e f)) fs || b) (pairs-are t es fs)

none-right : (es : List Edge) → squares_of_pairs es [] ≡ []
none-right [] = refl
none-right (e ∷ es) = none-right es

numbers : (es fs : List Edge) → AllByRecursion IsFraction (squares_of_pairs es fs)
numbers es fs = pairs-all IsFraction (IsOn es) (IsOn fs) es fs (λ e f on over. ends-number e f) (λ q h. h) (λ q h. h)

-- where the least is below a bound, some square is
some-below : (z : Fraction) (ss : List Fraction) → 0 < length ss → fraction_le (least_of ss) z ≡ true → list_any (λ s. fraction_le s z) ss ≡ true
some-below z [] some h = absurd (omega (arith, some))
some-below z (s ∷ []) some h = or_left (fraction_le s z) false h
some-below z (s ∷ t ∷ rest) some h =
    if_cases (λ (x : Fraction). fraction_le x z ≡ true → list_any (λ s. fraction_le s z) (s ∷ t ∷ rest) ≡ true) (fraction_le s (least_of (t ∷ rest))) s (least_of (t ∷ rest))
    (λ q k. or_left (fraction_le s z) (list_any (λ s. fraction_le s z) (t ∷ rest)) k)
    (λ q k. or_right (fraction_le s z) (list_any (λ s. fraction_le s z) (t ∷ rest)) (some-below z (t ∷ rest) (omega arith) k))
    h

pairs-turned : (z : Fraction) (es fs : List Edge) → fraction_le (least_of (squares_of_pairs es fs)) z ≡ true → fraction_le (least_of (squares_of_pairs fs es)) z ≡ true
pairs-turned z [] fs h = subst (λ (ss : List Fraction). fraction_le (least_of ss) z ≡ true) (sym (none-right fs)) h
pairs-turned z (e ∷ es) [] h = subst (λ (ss : List Fraction). fraction_le (least_of ss) z ≡ true) (none-right (e ∷ es)) h
pairs-turned z (e ∷ es) (f ∷ fs) h =
    let test : Fraction → Bool = λ s. fraction_le s z in
    least-le z (squares_of_pairs (f ∷ fs) (e ∷ es)) (numbers (f ∷ fs) (e ∷ es))
    (pairs-are test (f ∷ fs) (e ∷ es)
    ∙ any-turned (λ x y. test (square_of_ends x y)) (λ y x. test (square_of_ends y x)) (λ x y k. ends-turned x y z k) (e ∷ es) (f ∷ fs)
    (sym (pairs-are test (e ∷ es) (f ∷ fs)) ∙ some-below z (squares_of_pairs (e ∷ es) (f ∷ fs)) (omega arith) h))

-- ---- two geometries
turned : (z : Fraction) (c d : Bool) (es fs : List Edge) → c ≡ d → fraction_le (if c then whole (pos 0) else least_of (squares_of_pairs es fs)) z ≡ true
    → fraction_le (if d then whole (pos 0) else least_of (squares_of_pairs fs es)) z ≡ true
turned z true true es fs same h = h
turned z false false es fs same h = pairs-turned z es fs h
turned z true false es fs same h = absurd (both_ways false refl (sym same))
turned z false true es fs same h = absurd (both_ways false refl same)

-- whether they share a point doesn't hang on their order
pub within-turns : (a b : Geometry) (z : Fraction) → has_contact (matrix_of a b) ≡ has_contact (matrix_of b a)
    → fraction_le (least_square_of a b) z ≡ true → fraction_le (least_square_of b a) z ≡ true
within-turns a b z same = turned z (has_contact (matrix_of a b)) (has_contact (matrix_of b a)) (segments_of a) (segments_of b) same
