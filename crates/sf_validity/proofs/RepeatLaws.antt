-- Points that stand twice: in a list, in one that is ordered otherwise, and in one that rises.
use Rattle.std.proofs.Common.{◌≡◌, refl, ap, sym, ◌∙◌, ℕ, suc, ◌+◌, ◌<◌, ◌≤◌, arith, ℤ, Bool, true, false, cond, ◌&&◌, ◌||◌, List, [], ◌∷◌, length, nat_lt, get_or}
use Rattle.std.specs.Prelude.{int_lt}
use Rattle.std.specs.Cmp.{IsStrictWeakOrder}
use Rattle.std.specs.Ordering.{int_eq}
use Rattle.std.specs.List.{AllByRecursion, count_by, list_any}
use Rattle.std.specs.List.Sorted.{IsPermutation, IsSortedBy}
use Rattle.std.proofs.lemmas.Bool.{false≢true}
use Rattle.std.proofs.lemmas.Int.{ints}
use Rattle.std.proofs.lemmas.List.Sorted.{sorted_far, sum_by-IsPermutation}
use Rattle.std.proofs.lemmas.List.Sums.{sum_by-cons}
use Rattle.sf_grid.specs.Plane.{Coordinates}
use Rattle.sf_grid.specs.Sharing.{comes_before}
use Rattle.sf_geometry.specs.Lists.{is_same, tight}
use Rattle.sf_geometry.proofs.ListLaws.{same-is, tight_length-other, tight_length-same}
use Rattle.sf_valid_rules.specs.Conditions.{any_two}
use Rattle.sf_validity.proofs.ValidLaws.{tight-short}

-- ---- the order of points
one_way : (a b c d : ℤ) → (int_lt a c || (int_eq a c && int_lt b d)) ≡ true → (int_lt c a || (int_eq c a && int_lt d b)) ≡ false
one_way a b c d h = grind (arith, ints)

chained : (a b c d e f : ℤ) → (int_lt a c || (int_eq a c && int_lt b d)) ≡ false → (int_lt c e || (int_eq c e && int_lt d f)) ≡ false
    → (int_lt a e || (int_eq a e && int_lt b f)) ≡ false
chained a b c d e f h k = grind (arith, ints)

pub points_ranked : IsStrictWeakOrder comes_before
points_ranked =
    record {
      one_way = λ p q h. one_way p.x p.y q.x q.y h;
      chain = λ p q r h k. chained p.x p.y q.x q.y r.x r.y h k;
    }

same_self : (p : Coordinates) → is_same p p ≡ true
same_self p = by p.x p.y
  where
    by : (x y : ℤ) → (int_eq x x && int_eq y y) ≡ true
    by x y = grind (arith, ints)

-- of points that aren't one, and don't fall, the second comes later
later : (p q : Coordinates) → is_same p q ≡ false → comes_before q p ≡ false → comes_before p q ≡ true
later p q h k = by p.x p.y q.x q.y h k
  where
    by : (a b c d : ℤ) → (int_eq a c && int_eq b d) ≡ false → (int_lt c a || (int_eq c a && int_lt d b)) ≡ false → (int_lt a c || (int_eq a c && int_lt b d)) ≡ true
    by a b c d h k = grind (arith, ints)

-- ---- lists that don't fall
abbrev Rises : List Coordinates → Type 0
Rises [] = Unit {0}
Rises (p ∷ ps) = AllByRecursion (λ q. comes_before q p ≡ false) ps × Rises ps

each-later : (p : Coordinates) (qs : List Coordinates) (d : Coordinates) → ((j : ℕ) → j < length qs → comes_before (get_or qs j d) p ≡ false)
    → AllByRecursion (λ q. comes_before q p ≡ false) qs
each-later p [] d h = tt
each-later p (q ∷ qs) d h = (h 0 (omega arith), each-later p qs d (λ j l. h (suc j) (omega (arith, l))))

rises-from : (ps : List Coordinates) (d : Coordinates) → ((i j : ℕ) → i ≤ j → j < length ps → comes_before (get_or ps j d) (get_or ps i d) ≡ false) → Rises ps
rises-from [] d h = tt
rises-from (p ∷ ps) d h = (
  each-later p ps d (λ j l. h 0 (suc j) (omega arith) (omega (arith, l))),
  rises-from ps d (λ i j le l. h (suc i) (suc j) (omega (arith, le)) (omega (arith, l))),
)

none-same : (p q : Coordinates) (rs : List Coordinates) → comes_before p q ≡ true → AllByRecursion (λ r. comes_before r q ≡ false) rs → list_any (is_same p) rs ≡ false
none-same p q [] h k = refl
none-same p q (r ∷ rs) h k = ap (λ b. b || list_any (is_same p) rs) (other (is_same p r) refl) ∙ none-same p q rs h k.1
  where
    other : (b : Bool) → is_same p r ≡ b → b ≡ false
    other false e = refl
    other true e = absurd (false≢true (sym (k.0) ∙ ap (λ s. comes_before s q) (sym (same-is p r e)) ∙ h))

-- in such a list a point stands twice just where its tight list is shorter
rising-repeats : (ps : List Coordinates) → Rises ps → any_two is_same ps ≡ nat_lt (length (tight ps)) (length ps)
rising-repeats [] h = refl
rising-repeats (p ∷ []) h = refl
rising-repeats (p ∷ q ∷ qs) h = by (is_same p q) refl (rising-repeats (q ∷ qs) h.1)
  where
    shorter : length (tight (q ∷ qs)) ≤ length (q ∷ qs)
    shorter = tight-short (q ∷ qs)

    by : (b : Bool) → is_same p q ≡ b → any_two is_same (q ∷ qs) ≡ nat_lt (length (tight (q ∷ qs))) (length (q ∷ qs))
        → any_two is_same (p ∷ q ∷ qs) ≡ nat_lt (length (tight (p ∷ q ∷ qs))) (length (p ∷ q ∷ qs))
    by true e rest =
        ap (λ b. (b || list_any (is_same p) qs) || any_two is_same (q ∷ qs)) e
        ∙ sym (less (length (tight (p ∷ q ∷ qs))) (length (tight (q ∷ qs))) (tight_length-same p q qs e) shorter)
      where
        less : (m n : ℕ) → m ≡ n → n ≤ suc (length qs) → nat_lt m (suc (suc (length qs))) ≡ true
        less m n e l = grind (arith, e, l)
    by false e rest =
        ap (λ b. (b || list_any (is_same p) qs) || any_two is_same (q ∷ qs)) e
        ∙ ap (λ b. b || any_two is_same (q ∷ qs)) (none-same p q qs (later p q e h.0.0) h.1.0)
        ∙ rest
        ∙ longer (length (tight (p ∷ q ∷ qs))) (length (tight (q ∷ qs))) (tight_length-other p q qs e)
      where
        longer : (m n : ℕ) → m ≡ n + 1 → nat_lt n (suc (length qs)) ≡ nat_lt m (suc (suc (length qs)))
        longer m n e = grind (arith, e)

-- ---- a list in another order
-- a point stands twice just where some point is counted twice
record Twice (ps : List Coordinates) : Type 0 where
  pub point : Coordinates
  pub counted : 2 ≤ count_by (is_same point) ps

count-some : (p : Coordinates) (qs : List Coordinates) → list_any (is_same p) qs ≡ true → 1 ≤ count_by (is_same p) qs
count-some p [] h = absurd (false≢true h)
count-some p (q ∷ qs) h = by (is_same p q) refl h (count-some p qs)
  where
    by : (b : Bool) → is_same p q ≡ b → (b || list_any (is_same p) qs) ≡ true → (list_any (is_same p) qs ≡ true → 1 ≤ count_by (is_same p) qs) → 1 ≤ count_by (is_same p) (q ∷ qs)
    by true e h rest = let sum = sum_by-cons (λ r. cond (is_same p r) 1 0) q qs ∙ ap (λ b. cond b 1 0 + count_by (is_same p) qs) e in omega (arith, sum)
    by false e h rest = let sum = sum_by-cons (λ r. cond (is_same p r) 1 0) q qs ∙ ap (λ b. cond b 1 0 + count_by (is_same p) qs) e in omega (arith, sum, rest h)

twice-from : (ps : List Coordinates) → any_two is_same ps ≡ true → Twice ps
twice-from [] h = absurd (false≢true h)
twice-from (p ∷ ps) h = by (list_any (is_same p) ps) refl h (twice-from ps)
  where
    by : (b : Bool) → list_any (is_same p) ps ≡ b → (b || any_two is_same ps) ≡ true → (any_two is_same ps ≡ true → Twice ps) → Twice (p ∷ ps)
    by true e h rest =
        let sum = sum_by-cons (λ r. cond (is_same p r) 1 0) p ps ∙ ap (λ b. cond b 1 0 + count_by (is_same p) ps) (same_self p) in
        record { point = p; counted = omega (arith, sum, count-some p ps e) }
    by false e h rest =
        let found = rest h in
        let sum = sum_by-cons (λ r. cond (is_same found.point r) 1 0) p ps in
        record { point = found.point; counted = omega (arith, sum, found.counted) }

some-counted : (v : Coordinates) (p : Coordinates) (ps : List Coordinates) → is_same v p ≡ true → 1 ≤ count_by (is_same v) ps → list_any (is_same p) ps ≡ true
some-counted v p [] e h = absurd (omega (arith, h))
some-counted v p (q ∷ ps) e h = by (is_same v q) refl (some-counted v p ps e)
  where
    by : (b : Bool) → is_same v q ≡ b → (1 ≤ count_by (is_same v) ps → list_any (is_same p) ps ≡ true) → (is_same p q || list_any (is_same p) ps) ≡ true
    by true f rest = ap (λ b. b || list_any (is_same p) ps) (ap (λ r. is_same r q) (sym (same-is v p e)) ∙ f)
    by false f rest =
        let sum = sum_by-cons (λ r. cond (is_same v r) 1 0) q ps ∙ ap (λ b. cond b 1 0 + count_by (is_same v) ps) f in
        second (is_same p q) (rest (omega (arith, sum, h)))
      where
        second : (b : Bool) → list_any (is_same p) ps ≡ true → (b || list_any (is_same p) ps) ≡ true
        second true k = refl
        second false k = k

any-twice : (ps : List Coordinates) (v : Coordinates) → 2 ≤ count_by (is_same v) ps → any_two is_same ps ≡ true
any-twice [] v h = absurd (omega (arith, h))
any-twice (p ∷ ps) v h = by (is_same v p) refl (any-twice ps v)
  where
    by : (b : Bool) → is_same v p ≡ b → (2 ≤ count_by (is_same v) ps → any_two is_same ps ≡ true) → (list_any (is_same p) ps || any_two is_same ps) ≡ true
    by true e rest =
        let sum = sum_by-cons (λ r. cond (is_same v r) 1 0) p ps ∙ ap (λ b. cond b 1 0 + count_by (is_same v) ps) e in
        ap (λ b. b || any_two is_same ps) (some-counted v p ps e (omega (arith, sum, h)))
    by false e rest =
        let sum = sum_by-cons (λ r. cond (is_same v r) 1 0) p ps ∙ ap (λ b. cond b 1 0 + count_by (is_same v) ps) e in
        second (list_any (is_same p) ps) (rest (omega (arith, sum, h)))
      where
        second : (b : Bool) → any_two is_same ps ≡ true → (b || any_two is_same ps) ≡ true
        second true k = refl
        second false k = k

permuted : (ps qs : List Coordinates) → ((v : Coordinates) → count_by (is_same v) qs ≡ count_by (is_same v) ps) → any_two is_same ps ≡ any_two is_same qs
permuted ps qs counts = by (any_two is_same ps) (any_two is_same qs) refl refl
  where
    by : (a b : Bool) → any_two is_same ps ≡ a → any_two is_same qs ≡ b → a ≡ b
    by true true e f = refl
    by false false e f = refl
    by true false e f = let found = twice-from ps e in absurd (false≢true (sym f ∙ any-twice qs found.point (omega (arith, found.counted, counts found.point))))
    by false true e f = let found = twice-from qs f in absurd (false≢true (sym e ∙ any-twice ps found.point (omega (arith, found.counted, counts found.point))))

pub repeats-sorted : (ps qs : List Coordinates) → IsPermutation ps qs → IsSortedBy comes_before qs → nat_lt (length (tight qs)) (length qs) ≡ any_two is_same ps
repeats-sorted ps qs permutation up =
    sym (rising-repeats qs (rises qs up))
    ∙ sym (permuted ps qs (λ v. sum_by-IsPermutation (λ r. cond (is_same v r) 1 0) ps qs permutation))
  where
    rises : (qs : List Coordinates) → IsSortedBy comes_before qs → Rises qs
    rises [] up = tt
    rises (q ∷ qs) up = rises-from (q ∷ qs) q (λ i j le l. sorted_far comes_before points_ranked (q ∷ qs) up i j q le l)
