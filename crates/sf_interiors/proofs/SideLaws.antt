-- Edges above a point as counted by their left ends' columns and by their right ends': how the two differ for one edge.
use Rattle.std.proofs.Common.{◌≡◌, arith, refl, ap, sym, ◌∙◌, ℤ, pos, ◌*ℤ◌, ◌-ℤ◌, ◌<ℤ◌, ◌≤ℤ◌, Bool, true, false, ◌&&◌, ◌||◌, not, [], ◌∷◌}
use Rattle.std.specs.Prelude.{int_le, int_lt}
use Rattle.std.specs.Ordering.{int_eq}
use Rattle.std.proofs.lemmas.Int.{by_lt_z, ints}
use Rattle.sf_grid.specs.Plane.{Coordinates, IsPoint, Point}
use Rattle.sf_grid.specs.Edge.{Edge as Line, below_rightward, cross, edge_above, is_vertical}
use Rattle.sf_grid.proofs.CallerLemmas.{dif, eq_from_test, le_from_test, lt_from_test, mul, mul_le, mul_lt, mul_nonneg-nonneg, mul_pos-pos, num, ring, same_tests, test_from_eq, test_from_lt, var}

-- one of both is true
abbrev pub differ : Bool → Bool → Bool
differ true b = not b
differ false b = b

-- p is strictly below the edge from the left end u to the right end v; the right end's column counts, the left end's doesn't
abbrev pub below_leftward : Coordinates → Coordinates → Point → Bool
below_leftward u v p = int_lt (u.x *ℤ pos p.d) p.x && int_le p.x (v.x *ℤ pos p.d) && int_lt (cross u v p) (pos 0)

abbrev pub edge_above_left : Line → Point → Bool
edge_above_left e p = below_leftward e.a e.b p || below_leftward e.b e.a p

-- v is straight above p
abbrev pub is_over : Coordinates → Point → Bool
is_over v p = int_eq (v.x *ℤ pos p.d) p.x && int_lt p.y (v.y *ℤ pos p.d)

-- a vertical edge in the column of p, with one end above p and the other one not
abbrev pub straddles : Line → Point → Bool
straddles e p = is_vertical e && differ (is_over e.a p) (is_over e.b p)

differ-none : (b : Bool) → differ b false ≡ b
differ-none true = refl
differ-none false = refl

pub differ-self : (b : Bool) → differ b b ≡ false
differ-self true = refl
differ-self false = refl

-- where x lies among s and t
ways : (s t x : ℤ) (c f g : Bool) → s <ℤ t → (s ≡ x → c ≡ f) → (t ≡ x → c ≡ g) →
    differ (int_le s x && int_lt x t && c) (int_lt s x && int_le x t && c) ≡ differ (int_eq s x && f) (int_eq t x && g)
ways s t x c f g l h k = by_tests (int_lt s x) refl (int_eq s x) refl (int_lt x t) refl (int_eq t x) refl
  where
    -- the four tests as given, and the other two as they follow
    with_tests : (a b e d m n : Bool) → int_le s x ≡ a → int_lt x t ≡ b → int_lt s x ≡ e → int_le x t ≡ d → int_eq s x ≡ m → int_eq t x ≡ n →
        differ (a && b && c) (e && d && c) ≡ differ (m && f) (n && g) →
        differ (int_le s x && int_lt x t && c) (int_lt s x && int_le x t && c) ≡ differ (int_eq s x && f) (int_eq t x && g)
    with_tests a b e d m n ha hb he hd hm hn r =
        ap (λ z. differ (z && int_lt x t && c) (int_lt s x && int_le x t && c)) ha
        ∙ ap (λ z. differ (a && z && c) (int_lt s x && int_le x t && c)) hb
        ∙ ap (λ z. differ (a && b && c) (z && int_le x t && c)) he
        ∙ ap (λ z. differ (a && b && c) (e && z && c)) hd
        ∙ r
        ∙ ap (λ z. differ (z && f) (n && g)) (sym hm)
        ∙ ap (λ z. differ (int_eq s x && f) (z && g)) (sym hn)

    by_tests : (e : Bool) → int_lt s x ≡ e → (m : Bool) → int_eq s x ≡ m → (b : Bool) → int_lt x t ≡ b → (n : Bool) → int_eq t x ≡ n →
        differ (int_le s x && int_lt x t && c) (int_lt s x && int_le x t && c) ≡ differ (int_eq s x && f) (int_eq t x && g)
    by_tests true he true hm b hb n hn = absurd (grind (arith, ints))
    by_tests true he false hm true hb true hn = absurd (grind (arith, ints))
    by_tests true he false hm true hb false hn =
        with_tests true true true true false false (grind (arith, ints)) hb he (grind (arith, ints)) hm hn (differ-self c)
    by_tests true he false hm false hb true hn =
        with_tests true false true true false true (grind (arith, ints)) hb he (grind (arith, ints)) hm hn (k (eq_from_test t x hn))
    by_tests true he false hm false hb false hn =
        with_tests true false true false false false (grind (arith, ints)) hb he (grind (arith, ints)) hm hn refl
    by_tests false he true hm b hb true hn = absurd (grind (arith, ints))
    by_tests false he true hm false hb false hn = absurd (grind (arith, ints))
    by_tests false he true hm true hb false hn =
        with_tests true true false true true false (grind (arith, ints)) hb he (grind (arith, ints)) hm hn (ap (λ z. differ z false) (h (eq_from_test s x hm)))
    by_tests false he false hm b hb true hn = absurd (grind (arith, ints))
    by_tests false he false hm false hb false hn = absurd (grind (arith, ints))
    by_tests false he false hm true hb false hn =
        with_tests false true false true false false (grind (arith, ints)) hb he (grind (arith, ints)) hm hn refl

-- ---- in the column of an end, below the edge is below the end
same_sign : (k y z w : ℤ) → pos 0 <ℤ k → w ≡ k *ℤ (y -ℤ z) → int_lt w (pos 0) ≡ int_lt y z
same_sign k y z w g f =
    same_tests _ _
    (λ h. test_from_lt y z (by_lt_z y z (λ l. l) (λ l. absurd (over (k *ℤ (y -ℤ z)) (mul_nonneg-nonneg k (y -ℤ z) (omega (arith, ints)) (omega (arith, ints))) (lt_from_test w (pos 0) h) f))))
    (λ h. test_from_lt w (pos 0) (under (k *ℤ (y -ℤ z)) (k *ℤ (z -ℤ y)) turned (mul_pos-pos k (z -ℤ y) g (positive y z (lt_from_test y z h))) f))
  where
    over : (m : ℤ) → pos 0 ≤ℤ m → w <ℤ pos 0 → w ≡ m → ⊥
    over m i j e = omega (arith, ints)

    under : (m n : ℤ) → n ≡ pos 0 -ℤ m → pos 0 <ℤ n → w ≡ m → w <ℤ pos 0
    under m n e i j = omega (arith, ints)

    positive : (m n : ℤ) → m <ℤ n → pos 0 <ℤ (n -ℤ m)
    positive m n h = omega (arith, ints)

    turned : k *ℤ (z -ℤ y) ≡ pos 0 -ℤ k *ℤ (y -ℤ z)
    turned = ring (k ∷ y ∷ z ∷ []) (mul (var 0) (dif (var 2) (var 1))) (dif (num (pos 0)) (mul (var 0) (dif (var 1) (var 2)))) refl

wide : (m n : ℤ) → m <ℤ n → pos 0 <ℤ (n -ℤ m)
wide m n h = omega (arith, ints)

below-start : (u v : Coordinates) (p : Point) → u.x <ℤ v.x → u.x *ℤ pos p.d ≡ p.x → int_lt (cross u v p) (pos 0) ≡ int_lt p.y (u.y *ℤ pos p.d)
below-start u v p l e =
    same_sign (v.x -ℤ u.x) p.y (u.y *ℤ pos p.d) (cross u v p) (wide u.x v.x l)
    (ap (λ x. (v.x -ℤ u.x) *ℤ (p.y -ℤ u.y *ℤ pos p.d) -ℤ (v.y -ℤ u.y) *ℤ (x -ℤ u.x *ℤ pos p.d)) (sym e)
    ∙ ring (u.x ∷ u.y ∷ v.x ∷ v.y ∷ p.y ∷ pos p.d ∷ [])
    (dif (mul (dif (var 2) (var 0)) (dif (var 4) (mul (var 1) (var 5)))) (mul (dif (var 3) (var 1)) (dif (mul (var 0) (var 5)) (mul (var 0) (var 5)))))
    (mul (dif (var 2) (var 0)) (dif (var 4) (mul (var 1) (var 5)))) refl)

below-end : (u v : Coordinates) (p : Point) → u.x <ℤ v.x → v.x *ℤ pos p.d ≡ p.x → int_lt (cross u v p) (pos 0) ≡ int_lt p.y (v.y *ℤ pos p.d)
below-end u v p l e =
    same_sign (v.x -ℤ u.x) p.y (v.y *ℤ pos p.d) (cross u v p) (wide u.x v.x l)
    (ap (λ x. (v.x -ℤ u.x) *ℤ (p.y -ℤ u.y *ℤ pos p.d) -ℤ (v.y -ℤ u.y) *ℤ (x -ℤ u.x *ℤ pos p.d)) (sym e)
    ∙ ring (u.x ∷ u.y ∷ v.x ∷ v.y ∷ p.y ∷ pos p.d ∷ [])
    (dif (mul (dif (var 2) (var 0)) (dif (var 4) (mul (var 1) (var 5)))) (mul (dif (var 3) (var 1)) (dif (mul (var 2) (var 5)) (mul (var 0) (var 5)))))
    (mul (dif (var 2) (var 0)) (dif (var 4) (mul (var 3) (var 5)))) refl)

-- ---- one edge
rightward : (u v : Coordinates) (p : Point) → IsPoint p → u.x <ℤ v.x → differ (below_rightward u v p) (below_leftward u v p) ≡ differ (is_over u p) (is_over v p)
rightward u v p i l =
    ways (u.x *ℤ pos p.d) (v.x *ℤ pos p.d) p.x (int_lt (cross u v p) (pos 0)) (int_lt p.y (u.y *ℤ pos p.d)) (int_lt p.y (v.y *ℤ pos p.d))
    (mul_lt u.x v.x p.d i.positive l) (below-start u v p l) (below-end u v p l)

-- never below an edge whose right end isn't right of its left end
pub no-rightward : (u v : Coordinates) (p : Point) → v.x ≤ℤ u.x → below_rightward u v p ≡ false
no-rightward u v p l = by_tests (int_le (u.x *ℤ pos p.d) p.x) refl (int_lt p.x (v.x *ℤ pos p.d)) refl (mul_le v.x u.x p.d l)
  where
    by_tests : (a : Bool) → int_le (u.x *ℤ pos p.d) p.x ≡ a → (b : Bool) → int_lt p.x (v.x *ℤ pos p.d) ≡ b → (v.x *ℤ pos p.d) ≤ℤ (u.x *ℤ pos p.d) →
        (a && b && int_lt (cross u v p) (pos 0)) ≡ false
    by_tests true h true k m = absurd (clash (u.x *ℤ pos p.d) (v.x *ℤ pos p.d) p.x (le_from_test _ _ h) (lt_from_test _ _ k) m)
      where
        clash : (s t x : ℤ) → s ≤ℤ x → x <ℤ t → t ≤ℤ s → ⊥
        clash s t x f g n = omega (arith, ints)
    by_tests true h false k m = refl
    by_tests false h b k m = refl

pub no-leftward : (u v : Coordinates) (p : Point) → v.x ≤ℤ u.x → below_leftward u v p ≡ false
no-leftward u v p l = by_tests (int_lt (u.x *ℤ pos p.d) p.x) refl (int_le p.x (v.x *ℤ pos p.d)) refl (mul_le v.x u.x p.d l)
  where
    by_tests : (a : Bool) → int_lt (u.x *ℤ pos p.d) p.x ≡ a → (b : Bool) → int_le p.x (v.x *ℤ pos p.d) ≡ b → (v.x *ℤ pos p.d) ≤ℤ (u.x *ℤ pos p.d) →
        (a && b && int_lt (cross u v p) (pos 0)) ≡ false
    by_tests true h true k m = absurd (clash (u.x *ℤ pos p.d) (v.x *ℤ pos p.d) p.x (lt_from_test _ _ h) (le_from_test _ _ k) m)
      where
        clash : (s t x : ℤ) → s <ℤ x → x ≤ℤ t → t ≤ℤ s → ⊥
        clash s t x f g n = omega (arith, ints)
    by_tests true h false k m = refl
    by_tests false h b k m = refl

differ-swap : (a b : Bool) → differ a b ≡ differ b a
differ-swap true true = refl
differ-swap true false = refl
differ-swap false true = refl
differ-swap false false = refl

or-none : (b : Bool) → (b || false) ≡ b
or-none true = refl
or-none false = refl

upright-false : (m n : ℤ) → m <ℤ n → int_eq m n ≡ false
upright-false m n l = grind (arith, ints)

upright-false-back : (m n : ℤ) → n <ℤ m → int_eq m n ≡ false
upright-false-back m n l = grind (arith, ints)

pub each-edge : (e : Line) (p : Point) → IsPoint p → differ (edge_above e p) (edge_above_left e p) ≡ differ (differ (is_over e.a p) (is_over e.b p)) (straddles e p)
each-edge e p i =
    by_lt_z e.a.x e.b.x
    (λ l.
    ap (λ b. differ (below_rightward e.a e.b p || b) (edge_above_left e p)) (no-rightward e.b e.a p (weak e.a.x e.b.x l))
    ∙ ap (λ b. differ (below_rightward e.a e.b p || false) (below_leftward e.a e.b p || b)) (no-leftward e.b e.a p (weak e.a.x e.b.x l))
    ∙ ap (λ b. differ b (below_leftward e.a e.b p || false)) (or-none (below_rightward e.a e.b p))
    ∙ ap (λ b. differ (below_rightward e.a e.b p) b) (or-none (below_leftward e.a e.b p))
    ∙ rightward e.a e.b p i l
    ∙ sym (differ-none (differ (is_over e.a p) (is_over e.b p)))
    ∙ ap (λ b. differ (differ (is_over e.a p) (is_over e.b p)) (b && differ (is_over e.a p) (is_over e.b p))) (sym (upright-false e.a.x e.b.x l)))
    (λ m.
    by_lt_z e.b.x e.a.x
    (λ l.
    ap (λ b. differ (b || below_rightward e.b e.a p) (edge_above_left e p)) (no-rightward e.a e.b p m)
    ∙ ap (λ b. differ (below_rightward e.b e.a p) (b || below_leftward e.b e.a p)) (no-leftward e.a e.b p m)
    ∙ rightward e.b e.a p i l
    ∙ differ-swap (is_over e.b p) (is_over e.a p)
    ∙ sym (differ-none (differ (is_over e.a p) (is_over e.b p)))
    ∙ ap (λ b. differ (differ (is_over e.a p) (is_over e.b p)) (b && differ (is_over e.a p) (is_over e.b p))) (sym (upright-false-back e.a.x e.b.x l)))
    (λ n.
    ap (λ b. differ (b || below_rightward e.b e.a p) (edge_above_left e p)) (no-rightward e.a e.b p m)
    ∙ ap (λ b. differ b (edge_above_left e p)) (no-rightward e.b e.a p n)
    ∙ ap (λ b. b || below_leftward e.b e.a p) (no-leftward e.a e.b p m)
    ∙ no-leftward e.b e.a p n
    ∙ sym (differ-self (differ (is_over e.a p) (is_over e.b p)))
    ∙ ap (λ b. differ (differ (is_over e.a p) (is_over e.b p)) (b && differ (is_over e.a p) (is_over e.b p))) (sym (test_from_eq e.a.x e.b.x (equal e.a.x e.b.x m n)))))
  where
    weak : (m n : ℤ) → m <ℤ n → m ≤ℤ n
    weak m n l = omega (arith, ints)

    equal : (m n : ℤ) → n ≤ℤ m → m ≤ℤ n → m ≡ n
    equal m n f g = omega (arith, ints)
