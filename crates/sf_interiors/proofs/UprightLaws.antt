-- Up a column in which edges have no point between: the same edges are above.
use Rattle.std.proofs.Common.{◌≡◌, ℕ, ◌<◌, arith, refl, ap, sym, ◌∙◌, ℤ, pos, ◌+ℤ◌, ◌-ℤ◌, ◌*ℤ◌, ◌<ℤ◌, ◌≤ℤ◌, Bool, true, false, ◌&&◌, ◌||◌, not, List, [], ◌∷◌}
use Rattle.std.specs.Prelude.{int_le, int_lt}
use Rattle.std.specs.List.{AllByRecursion}
use Rattle.std.proofs.lemmas.Int.{by_lt_z, ints}
use Rattle.sf_grid.specs.Plane.{Coordinates, IsPoint, Point}
use Rattle.sf_grid.specs.Edge.{Edge as Line, IsOnEdge, below_rightward, cross, edge_above, edge_between}
use Rattle.sf_grid.specs.EvenOdd.{is_odd}
use Rattle.sf_grid.proofs.CallerLemmas.{abs_of_run, dif, int_le-scaled, le_from_test, lt_from_test, mul, mul_le, mul_lt, mul_nonneg, mul_nonneg-nonneg, on_edge-swap, ring, same_tests, sum, test_from_lt, var}
use Rattle.sf_slabs.proofs.CallerLemmas.{each-map}
use Rattle.sf_valid_rules.proofs.MemberLaws.{count-same}
use Rattle.sf_interiors.proofs.SideLaws.{no-rightward}
use Rattle.sf_interiors.specs.Paths.{parity}
use Rattle.sf_interiors.proofs.SlantLaws.{above_of, above_of-on, above_of-point, run_of}

-- the way from p to q goes up, or is none
pub record IsUp (p q : Point) : Type 0 where
  pub is_first : IsPoint p
  pub is_second : IsPoint q
  pub column : p.x *ℤ pos q.d ≡ q.x *ℤ pos p.d
  pub rises : (p.y *ℤ pos q.d) ≤ℤ (q.y *ℤ pos p.d)

-- the edge has no point on it
abbrev pub IsClearUp : Point → Point → Line → Type 0
IsClearUp p q e =
    (r : Point) → IsPoint r → r.x *ℤ pos p.d ≡ p.x *ℤ pos r.d → (p.y *ℤ pos r.d) ≤ℤ (r.y *ℤ pos p.d) → (r.y *ℤ pos q.d) ≤ℤ (q.y *ℤ pos r.d) → IsOnEdge e r → ⊥

-- ---- the tests of columns agree
swapped : (z m n : ℤ) → z *ℤ m *ℤ n ≡ z *ℤ n *ℤ m
swapped z m n = ring (z ∷ m ∷ n ∷ []) (mul (mul (var 0) (var 1)) (var 2)) (mul (mul (var 0) (var 2)) (var 1)) refl

same_left : (z : ℤ) (p q : Point) → IsUp p q → int_le (z *ℤ pos p.d) p.x ≡ int_le (z *ℤ pos q.d) q.x
same_left z p q u =
    int_le-scaled (z *ℤ pos p.d) p.x (z *ℤ pos q.d) q.x q.d p.d u.is_second.positive u.is_first.positive (swapped z (pos p.d) (pos q.d)) u.column

not-left : (z : ℤ) (p : Point) → int_lt p.x (z *ℤ pos p.d) ≡ not (int_le (z *ℤ pos p.d) p.x)
not-left z p = grind (arith, ints)

same_right : (z : ℤ) (p q : Point) → IsUp p q → int_lt p.x (z *ℤ pos p.d) ≡ int_lt q.x (z *ℤ pos q.d)
same_right z p q u = not-left z p ∙ ap not (same_left z p q u) ∙ sym (not-left z q)

-- ---- the sides of the line
-- how much higher q is
side_grows : (u v : Coordinates) (p q : Point) → IsUp p q → cross u v q *ℤ pos p.d ≡ cross u v p *ℤ pos q.d +ℤ (v.x -ℤ u.x) *ℤ (q.y *ℤ pos p.d -ℤ p.y *ℤ pos q.d)
side_grows u v p q h =
    ring (u.x ∷ u.y ∷ v.x ∷ v.y ∷ q.x ∷ q.y ∷ pos q.d ∷ pos p.d ∷ [])
    (mul (dif (mul (dif (var 2) (var 0)) (dif (var 5) (mul (var 1) (var 6)))) (mul (dif (var 3) (var 1)) (dif (var 4) (mul (var 0) (var 6))))) (var 7))
    (dif (mul (dif (var 2) (var 0)) (dif (mul (var 5) (var 7)) (mul (mul (var 1) (var 6)) (var 7)))) (mul (dif (var 3) (var 1)) (dif (mul (var 4) (var 7)) (mul (mul (var 0) (var 6)) (var 7)))))
    refl
    ∙ ap (λ z. (v.x -ℤ u.x) *ℤ (q.y *ℤ pos p.d -ℤ u.y *ℤ pos q.d *ℤ pos p.d) -ℤ (v.y -ℤ u.y) *ℤ (z -ℤ u.x *ℤ pos q.d *ℤ pos p.d)) (sym h.column)
    ∙ ring (u.x ∷ u.y ∷ v.x ∷ v.y ∷ p.x ∷ p.y ∷ pos p.d ∷ q.y ∷ pos q.d ∷ [])
    (dif (mul (dif (var 2) (var 0)) (dif (mul (var 7) (var 6)) (mul (mul (var 1) (var 8)) (var 6)))) (mul (dif (var 3) (var 1)) (dif (mul (var 4) (var 8)) (mul (mul (var 0) (var 8)) (var 6)))))
    (sum
    (mul (dif (mul (dif (var 2) (var 0)) (dif (var 5) (mul (var 1) (var 6)))) (mul (dif (var 3) (var 1)) (dif (var 4) (mul (var 0) (var 6))))) (var 8))
    (mul (dif (var 2) (var 0)) (dif (mul (var 7) (var 6)) (mul (var 5) (var 8)))))
    refl

-- the edge's point in the column of p, and p
above_first : (u v : Coordinates) (p : Point) → u.x <ℤ v.x → (above_of u v p).y *ℤ pos p.d ≡ p.y *ℤ pos (above_of u v p).d -ℤ cross u v p *ℤ pos p.d
above_first u v p l = by_run (pos (run_of u v)) (abs_of_run u.x v.x l)
  where
    by_run : (r : ℤ) → r ≡ v.x -ℤ u.x →
        (u.y *ℤ pos p.d *ℤ r +ℤ (v.y -ℤ u.y) *ℤ (p.x -ℤ u.x *ℤ pos p.d)) *ℤ pos p.d ≡ p.y *ℤ (pos p.d *ℤ r) -ℤ cross u v p *ℤ pos p.d
    by_run r e =
        ap (λ z. (u.y *ℤ pos p.d *ℤ z +ℤ (v.y -ℤ u.y) *ℤ (p.x -ℤ u.x *ℤ pos p.d)) *ℤ pos p.d) e
        ∙ ring (u.x ∷ u.y ∷ v.x ∷ v.y ∷ p.x ∷ p.y ∷ pos p.d ∷ [])
        (mul (sum (mul (mul (var 1) (var 6)) (dif (var 2) (var 0))) (mul (dif (var 3) (var 1)) (dif (var 4) (mul (var 0) (var 6))))) (var 6))
        (dif (mul (var 5) (mul (var 6) (dif (var 2) (var 0))))
        (mul (dif (mul (dif (var 2) (var 0)) (dif (var 5) (mul (var 1) (var 6)))) (mul (dif (var 3) (var 1)) (dif (var 4) (mul (var 0) (var 6))))) (var 6)))
        refl
        ∙ ap (λ z. p.y *ℤ (pos p.d *ℤ z) -ℤ cross u v p *ℤ pos p.d) (sym e)

-- and q
above_second : (u v : Coordinates) (p q : Point) → u.x <ℤ v.x → IsUp p q → (above_of u v p).y *ℤ pos q.d ≡ q.y *ℤ pos (above_of u v p).d -ℤ cross u v q *ℤ pos p.d
above_second u v p q l h = by_run (pos (run_of u v)) (abs_of_run u.x v.x l)
  where
    by_run : (r : ℤ) → r ≡ v.x -ℤ u.x →
        (u.y *ℤ pos p.d *ℤ r +ℤ (v.y -ℤ u.y) *ℤ (p.x -ℤ u.x *ℤ pos p.d)) *ℤ pos q.d ≡ q.y *ℤ (pos p.d *ℤ r) -ℤ cross u v q *ℤ pos p.d
    by_run r e =
        ap (λ z. (u.y *ℤ pos p.d *ℤ z +ℤ (v.y -ℤ u.y) *ℤ (p.x -ℤ u.x *ℤ pos p.d)) *ℤ pos q.d) e
        ∙ ring (u.x ∷ u.y ∷ v.x ∷ v.y ∷ p.x ∷ pos p.d ∷ pos q.d ∷ [])
        (mul (sum (mul (mul (var 1) (var 5)) (dif (var 2) (var 0))) (mul (dif (var 3) (var 1)) (dif (var 4) (mul (var 0) (var 5))))) (var 6))
        (sum (mul (mul (mul (var 1) (var 5)) (dif (var 2) (var 0))) (var 6)) (mul (dif (var 3) (var 1)) (dif (mul (var 4) (var 6)) (mul (mul (var 0) (var 5)) (var 6)))))
        refl
        ∙ ap (λ z. u.y *ℤ pos p.d *ℤ (v.x -ℤ u.x) *ℤ pos q.d +ℤ (v.y -ℤ u.y) *ℤ (z -ℤ u.x *ℤ pos p.d *ℤ pos q.d)) h.column
        ∙ ring (u.x ∷ u.y ∷ v.x ∷ v.y ∷ q.x ∷ q.y ∷ pos q.d ∷ pos p.d ∷ [])
        (sum (mul (mul (mul (var 1) (var 7)) (dif (var 2) (var 0))) (var 6)) (mul (dif (var 3) (var 1)) (dif (mul (var 4) (var 7)) (mul (mul (var 0) (var 7)) (var 6)))))
        (dif (mul (var 5) (mul (var 7) (dif (var 2) (var 0))))
        (mul (dif (mul (dif (var 2) (var 0)) (dif (var 5) (mul (var 1) (var 6)))) (mul (dif (var 3) (var 1)) (dif (var 4) (mul (var 0) (var 6))))) (var 7)))
        refl
        ∙ ap (λ z. q.y *ℤ (pos p.d *ℤ z) -ℤ cross u v q *ℤ pos p.d) (sym e)

-- p and q are on one side of the edge
same_side : (u v : Coordinates) (p q : Point) → u.x <ℤ v.x → IsUp p q → IsClearUp p q (edge_between u v) → (u.x *ℤ pos p.d) ≤ℤ p.x → p.x ≤ℤ (v.x *ℤ pos p.d) →
    int_lt (cross u v p) (pos 0) ≡ int_lt (cross u v q) (pos 0)
same_side u v p q l h clear low high =
    same_tests (int_lt (cross u v p) (pos 0)) (int_lt (cross u v q) (pos 0))
    (λ t.
    let down = lt_from_test (cross u v p) (pos 0) t in
    test_from_lt (cross u v q) (pos 0)
    (by_lt_z (cross u v q) (pos 0) (λ k. k)
    (λ k.
    absurd (clear (above_of u v p) (above_of-point u v p l h.is_first)
    (ring (p.x ∷ pos (run_of u v) ∷ pos p.d ∷ []) (mul (mul (var 0) (var 1)) (var 2)) (mul (var 0) (mul (var 2) (var 1))) refl)
    (lower ((above_of u v p).y *ℤ pos p.d) (p.y *ℤ pos (above_of u v p).d) (cross u v p) (pos p.d) (above_first u v p l) (product_negative (cross u v p) p.d down))
    (higher ((above_of u v p).y *ℤ pos q.d) (q.y *ℤ pos (above_of u v p).d) (cross u v q *ℤ pos p.d) (above_second u v p q l h) (mul_nonneg (cross u v q) p.d k))
    (above_of-on u v p l h.is_first low high)))))
    (λ t.
    let down = lt_from_test (cross u v q) (pos 0) t in
    test_from_lt (cross u v p) (pos 0)
    (by_lt_z (cross u v p) (pos 0) (λ k. k)
    (λ k.
    absurd (clash (cross u v q) (cross u v p *ℤ pos q.d) ((v.x -ℤ u.x) *ℤ (q.y *ℤ pos p.d -ℤ p.y *ℤ pos q.d)) p.d h.is_first.positive (side_grows u v p q h) down (mul_nonneg (cross u v p) q.d k)
    (mul_nonneg-nonneg (v.x -ℤ u.x) (q.y *ℤ pos p.d -ℤ p.y *ℤ pos q.d) (wide u.x v.x l) (rise (p.y *ℤ pos q.d) (q.y *ℤ pos p.d) h.rises))))))
  where
    product_negative : (c : ℤ) (d : ℕ) → c <ℤ pos 0 → (c *ℤ pos d) ≤ℤ pos 0
    product_negative c d k = let m = mul_le c (pos 0) d (weak c k) in let z = zero d in omega (arith, ints)
      where
        weak : (a : ℤ) → a <ℤ pos 0 → a ≤ℤ pos 0
        weak a j = omega (arith, ints)

        zero : (n : ℕ) → pos 0 *ℤ pos n ≡ pos 0
        zero n = omega (arith, ints)

    lower : (a b c d : ℤ) → a ≡ b -ℤ c *ℤ d → (c *ℤ d) ≤ℤ pos 0 → b ≤ℤ a
    lower a b c d e k = omega (arith, ints)

    higher : (a b c : ℤ) → a ≡ b -ℤ c → pos 0 ≤ℤ c → a ≤ℤ b
    higher a b c e k = omega (arith, ints)

    wide : (a b : ℤ) → a <ℤ b → pos 0 ≤ℤ (b -ℤ a)
    wide a b k = omega (arith, ints)

    rise : (a b : ℤ) → a ≤ℤ b → pos 0 ≤ℤ (b -ℤ a)
    rise a b k = omega (arith, ints)

    clash : (c a b : ℤ) (d : ℕ) → 0 < d → c *ℤ pos d ≡ a +ℤ b → c <ℤ pos 0 → pos 0 ≤ℤ a → pos 0 ≤ℤ b → ⊥
    clash c a b d o e k m n = let f = mul_lt c (pos 0) d o k in let z = zero d in absurd (omega (arith, ints))
      where
        zero : (n : ℕ) → pos 0 *ℤ pos n ≡ pos 0
        zero n = omega (arith, ints)

weak : (a b : ℤ) → a <ℤ b → a ≤ℤ b
weak a b h = omega (arith, ints)

rightward : (u v : Coordinates) (p q : Point) → u.x <ℤ v.x → IsUp p q → IsClearUp p q (edge_between u v) → below_rightward u v p ≡ below_rightward u v q
rightward u v p q l h clear =
    by_tests (int_le (u.x *ℤ pos p.d) p.x) refl (int_lt p.x (v.x *ℤ pos p.d)) refl
    ∙ ap (λ t. t && int_lt p.x (v.x *ℤ pos p.d) && int_lt (cross u v q) (pos 0)) (same_left u.x p q h)
    ∙ ap (λ t. int_le (u.x *ℤ pos q.d) q.x && t && int_lt (cross u v q) (pos 0)) (same_right v.x p q h)
  where
    by_tests : (a : Bool) → int_le (u.x *ℤ pos p.d) p.x ≡ a → (b : Bool) → int_lt p.x (v.x *ℤ pos p.d) ≡ b →
        (int_le (u.x *ℤ pos p.d) p.x && int_lt p.x (v.x *ℤ pos p.d) && int_lt (cross u v p) (pos 0)) ≡ (int_le (u.x *ℤ pos p.d) p.x && int_lt p.x (v.x *ℤ pos p.d) && int_lt (cross u v q) (pos 0))
    by_tests true f true g =
        ap (λ t. int_le (u.x *ℤ pos p.d) p.x && int_lt p.x (v.x *ℤ pos p.d) && t)
        (same_side u v p q l h clear (le_from_test (u.x *ℤ pos p.d) p.x f) (weak p.x (v.x *ℤ pos p.d) (lt_from_test p.x (v.x *ℤ pos p.d) g)))
    by_tests true f false g = none f g
      where
        none : (int_le (u.x *ℤ pos p.d) p.x ≡ true) → (int_lt p.x (v.x *ℤ pos p.d) ≡ false) →
            (int_le (u.x *ℤ pos p.d) p.x && int_lt p.x (v.x *ℤ pos p.d) && int_lt (cross u v p) (pos 0)) ≡ (int_le (u.x *ℤ pos p.d) p.x && int_lt p.x (v.x *ℤ pos p.d) && int_lt (cross u v q) (pos 0))
        none i j =
            ap (λ t. t && int_lt p.x (v.x *ℤ pos p.d) && int_lt (cross u v p) (pos 0)) i ∙ ap (λ t. t && int_lt (cross u v p) (pos 0)) j
            ∙ sym (ap (λ t. t && int_lt p.x (v.x *ℤ pos p.d) && int_lt (cross u v q) (pos 0)) i ∙ ap (λ t. t && int_lt (cross u v q) (pos 0)) j)
    by_tests false f b g =
        ap (λ t. t && int_lt p.x (v.x *ℤ pos p.d) && int_lt (cross u v p) (pos 0)) f
        ∙ sym (ap (λ t. t && int_lt p.x (v.x *ℤ pos p.d) && int_lt (cross u v q) (pos 0)) f)

same_above : (e : Line) (p q : Point) → IsUp p q → IsClearUp p q e → edge_above e p ≡ edge_above e q
same_above e p q h clear =
    by_lt_z e.a.x e.b.x
    (λ l. both (rightward e.a e.b p q l h clear) (no-rightward e.b e.a p (weak e.a.x e.b.x l) ∙ sym (no-rightward e.b e.a q (weak e.a.x e.b.x l))))
    (λ m.
    both (no-rightward e.a e.b p m ∙ sym (no-rightward e.a e.b q m))
    (by_lt_z e.b.x e.a.x
    (λ l. rightward e.b e.a p q l h (λ r i c low high on. clear r i c low high (on_edge-swap e.a e.b r ∙ on)))
    (λ n. no-rightward e.b e.a p n ∙ sym (no-rightward e.b e.a q n))))
  where
    both : below_rightward e.a e.b p ≡ below_rightward e.a e.b q → below_rightward e.b e.a p ≡ below_rightward e.b e.a q → edge_above e p ≡ edge_above e q
    both f g = ap (λ t. t || below_rightward e.b e.a p) f ∙ ap (λ t. below_rightward e.a e.b q || t) g

pub up : (p q : Point) (es : List Line) → IsUp p q → AllByRecursion (IsClearUp p q) es → parity es p ≡ parity es q
up p q es h clear =
    ap is_odd
    (count-same (λ e. edge_above e p) (λ e. edge_above e q) es
    (each-map (IsClearUp p q) (λ e. edge_above e p ≡ edge_above e q) es (λ e c. same_above e p q h c) clear))
