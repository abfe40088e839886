-- Points a little off a point, and one edge. An edge that the point isn't on isn't on them; a step to the right keeps
-- whether it is above by its left end's column, and after a step to the left it is above as by its right end's.
use Rattle.std.proofs.Common.{◌≡◌, ◌≢◌, ℕ, ◌*◌, ◌<◌, arith, refl, ap, sym, ◌∙◌, ℤ, pos, ◌+ℤ◌, ◌-ℤ◌, ◌*ℤ◌, ◌<ℤ◌, ◌≤ℤ◌, Bool, true, false, ◌&&◌, ◌||◌, unsigned_abs, [], ◌∷◌}
use Rattle.std.specs.Prelude.{int_le, int_lt}
use Rattle.std.specs.Int.{int_max, int_min}
use Rattle.std.proofs.lemmas.Bool.{and_from, and_parts, both_ways, false_from_ne_true}
use Rattle.std.proofs.lemmas.Int.{ints}
use Rattle.sf_grid.specs.Plane.{Coordinates, IsPoint, Point}
use Rattle.sf_grid.specs.Edge.{Edge as Line, IsOnEdge, below_rightward, cross, edge_above, edge_between, on_edge, within}
use Rattle.sf_grid.proofs.CallerLemmas.{dif, le_from_test, lies, lt_from_mul, lt_from_test, mul, on_edge-swap, on_edge_from, ring, sum, test_from_le, var}
use Rattle.sf_grid.proofs.LineLaws.{on_edge_rightward}
use Rattle.sf_grid.proofs.Products.{mul_assoc}
use Rattle.sf_plane.proofs.FormLaws.{nudged}
use Rattle.sf_interiors.proofs.SideLaws.{below_leftward, edge_above_left}
use Rattle.sf_interiors.proofs.StepLaws.{ge_again, ge_back, le_again, le_back, le_left, le_right, lt_left, lt_right, sign_kept, zero_again, zero_back}

-- how much the side of the line from u to v grows by the step
abbrev pub swerve : ℤ → ℤ → Coordinates → Coordinates → ℤ
swerve i j u v = (v.x -ℤ u.x) *ℤ j -ℤ (v.y -ℤ u.y) *ℤ i

-- k is above all that the step adds to what is asked of the edge
pub record IsFine (i j : ℤ) (k : ℕ) (e : Line) : Type 0 where
  pub across : unsigned_abs i < k
  pub up : unsigned_abs j < k
  pub onward : unsigned_abs (swerve i j e.a e.b) < k
  pub back : unsigned_abs (swerve i j e.b e.a) < k

pub cross-nudged : (u v : Coordinates) (p : Point) (i j : ℤ) (k : ℕ) → cross u v (nudged k i j p) ≡ cross u v p *ℤ pos k +ℤ swerve i j u v
cross-nudged u v p i j k =
    ring (u.x ∷ u.y ∷ v.x ∷ v.y ∷ p.x ∷ p.y ∷ pos p.d ∷ pos k ∷ i ∷ j ∷ [])
    (dif
    (mul (dif (var 2) (var 0)) (dif (sum (mul (var 5) (var 7)) (var 9)) (mul (var 1) (mul (var 6) (var 7)))))
    (mul (dif (var 3) (var 1)) (dif (sum (mul (var 4) (var 7)) (var 8)) (mul (var 0) (mul (var 6) (var 7))))))
    (sum
    (mul (dif (mul (dif (var 2) (var 0)) (dif (var 5) (mul (var 1) (var 6)))) (mul (dif (var 3) (var 1)) (dif (var 4) (mul (var 0) (var 6))))) (var 7))
    (dif (mul (dif (var 2) (var 0)) (var 9)) (mul (dif (var 3) (var 1)) (var 8))))
    refl

-- ---- on the edge
within-back : (low high x i : ℤ) (d k : ℕ) → unsigned_abs i < k → within low high (record { num = x *ℤ pos k +ℤ i; den = d * k }) ≡ true → within low high (record { num = x; den = d }) ≡ true
within-back low high x i d k h t =
    let parts = and_parts (int_le (low *ℤ pos (d * k)) (x *ℤ pos k +ℤ i)) (int_le (x *ℤ pos k +ℤ i) (high *ℤ pos (d * k))) t in
    and_from _ _
    (test_from_le (low *ℤ pos d) x (le_back (low *ℤ pos d) x i k h (first (low *ℤ pos (d * k)) (low *ℤ pos d *ℤ pos k) (sym (mul_assoc low (pos d) (pos k))) (le_from_test (low *ℤ pos (d * k)) (x *ℤ pos k +ℤ i) parts.0))))
    (test_from_le x (high *ℤ pos d) (ge_back (high *ℤ pos d) x i k h (second (high *ℤ pos (d * k)) (high *ℤ pos d *ℤ pos k) (sym (mul_assoc high (pos d) (pos k))) (le_from_test (x *ℤ pos k +ℤ i) (high *ℤ pos (d * k)) parts.1))))
  where
    first : (a b : ℤ) → a ≡ b → a ≤ℤ (x *ℤ pos k +ℤ i) → b ≤ℤ (x *ℤ pos k +ℤ i)
    first a b e l = omega (arith, ints)

    second : (a b : ℤ) → a ≡ b → (x *ℤ pos k +ℤ i) ≤ℤ a → (x *ℤ pos k +ℤ i) ≤ℤ b
    second a b e l = omega (arith, ints)

within-again : (low high x i : ℤ) (d k l : ℕ) → unsigned_abs i < k → unsigned_abs i < l →
    within low high (record { num = x *ℤ pos k +ℤ i; den = d * k }) ≡ true → within low high (record { num = x *ℤ pos l +ℤ i; den = d * l }) ≡ true
within-again low high x i d k l h g t =
    let parts = and_parts (int_le (low *ℤ pos (d * k)) (x *ℤ pos k +ℤ i)) (int_le (x *ℤ pos k +ℤ i) (high *ℤ pos (d * k))) t in
    and_from _ _
    (test_from_le (low *ℤ pos (d * l)) (x *ℤ pos l +ℤ i)
    (first (low *ℤ pos (d * l)) (low *ℤ pos d *ℤ pos l) (x *ℤ pos l +ℤ i) (mul_assoc low (pos d) (pos l))
    (le_again (low *ℤ pos d) x i k l h g (first (low *ℤ pos d *ℤ pos k) (low *ℤ pos (d * k)) (x *ℤ pos k +ℤ i) (sym (mul_assoc low (pos d) (pos k))) (le_from_test (low *ℤ pos (d * k)) (x *ℤ pos k +ℤ i) parts.0)))))
    (test_from_le (x *ℤ pos l +ℤ i) (high *ℤ pos (d * l))
    (second (high *ℤ pos (d * l)) (high *ℤ pos d *ℤ pos l) (x *ℤ pos l +ℤ i) (mul_assoc high (pos d) (pos l))
    (ge_again (high *ℤ pos d) x i k l h g (second (high *ℤ pos d *ℤ pos k) (high *ℤ pos (d * k)) (x *ℤ pos k +ℤ i) (sym (mul_assoc high (pos d) (pos k))) (le_from_test (x *ℤ pos k +ℤ i) (high *ℤ pos (d * k)) parts.1)))))
  where
    first : (a b z : ℤ) → b ≡ a → b ≤ℤ z → a ≤ℤ z
    first a b z e m = omega (arith, ints)

    second : (a b z : ℤ) → b ≡ a → z ≤ℤ b → z ≤ℤ a
    second a b z e m = omega (arith, ints)

pub on-back : (e : Line) (p : Point) (i j : ℤ) (k : ℕ) → IsFine i j k e → IsOnEdge e (nudged k i j p) → IsOnEdge e p
on-back e p i j k f h =
    let l = lies e (nudged k i j p) h in
    on_edge_from e p
    (record {
      line = zero_back (cross e.a e.b p) (swerve i j e.a e.b) k f.onward (sym (cross-nudged e.a e.b p i j k) ∙ l.line);
      x = within-back (int_min e.a.x e.b.x) (int_max e.a.x e.b.x) p.x i p.d k f.across l.x;
      y = within-back (int_min e.a.y e.b.y) (int_max e.a.y e.b.y) p.y j p.d k f.up l.y;
    })

pub off-nudged : (e : Line) (p : Point) (i j : ℤ) (k : ℕ) → IsFine i j k e → on_edge e p ≡ false → on_edge e (nudged k i j p) ≡ false
off-nudged e p i j k f h = false_from_ne_true (on_edge e (nudged k i j p)) (λ t. both_ways (on_edge e p) h (on-back e p i j k f t))

-- an edge that is on one of the points that a step leads to is on all of them
pub on-again : (e : Line) (p : Point) (i j : ℤ) (k l : ℕ) → IsFine i j k e → IsFine i j l e → IsOnEdge e (nudged k i j p) → IsOnEdge e (nudged l i j p)
on-again e p i j k l f g h =
    let o = lies e (nudged k i j p) h in
    on_edge_from e (nudged l i j p)
    (record {
      line = cross-nudged e.a e.b p i j l ∙ zero_again (cross e.a e.b p) (swerve i j e.a e.b) k l f.onward (sym (cross-nudged e.a e.b p i j k) ∙ o.line);
      x = within-again (int_min e.a.x e.b.x) (int_max e.a.x e.b.x) p.x i p.d k l f.across g.across o.x;
      y = within-again (int_min e.a.y e.b.y) (int_max e.a.y e.b.y) p.y j p.d k l f.up g.up o.y;
    })

-- ---- below the edge
-- off the edge, in its columns the point isn't on its line
clear-right : (u v : Coordinates) (p : Point) → IsPoint p → on_edge (edge_between u v) p ≡ false → (u.x *ℤ pos p.d) ≤ℤ p.x → p.x <ℤ (v.x *ℤ pos p.d) → cross u v p ≢ pos 0
clear-right u v p o h l m e =
    both_ways (on_edge (edge_between u v) p) h
    (on_edge_rightward u v p o (lt_from_mul u.x v.x p.d (chain (u.x *ℤ pos p.d) (v.x *ℤ pos p.d) l m)) e l (weak (v.x *ℤ pos p.d) m))
  where
    chain : (a b : ℤ) → a ≤ℤ p.x → p.x <ℤ b → a <ℤ b
    chain a b f g = omega (arith, ints)

    weak : (b : ℤ) → p.x <ℤ b → p.x ≤ℤ b
    weak b g = omega (arith, ints)

clear-left : (u v : Coordinates) (p : Point) → IsPoint p → on_edge (edge_between u v) p ≡ false → (u.x *ℤ pos p.d) <ℤ p.x → p.x ≤ℤ (v.x *ℤ pos p.d) → cross u v p ≢ pos 0
clear-left u v p o h l m e =
    both_ways (on_edge (edge_between u v) p) h
    (on_edge_rightward u v p o (lt_from_mul u.x v.x p.d (chain (u.x *ℤ pos p.d) (v.x *ℤ pos p.d) l m)) e (weak (u.x *ℤ pos p.d) l) m)
  where
    chain : (a b : ℤ) → a <ℤ p.x → p.x ≤ℤ b → a <ℤ b
    chain a b f g = omega (arith, ints)

    weak : (a : ℤ) → a <ℤ p.x → a ≤ℤ p.x
    weak a g = omega (arith, ints)

below-right : (u v : Coordinates) (p : Point) (i j : ℤ) (k : ℕ) → IsPoint p → pos 0 ≤ℤ i → unsigned_abs i < k → unsigned_abs (swerve i j u v) < k →
    on_edge (edge_between u v) p ≡ false → below_rightward u v (nudged k i j p) ≡ below_rightward u v p
below-right u v p i j k o n h g off =
    let q = nudged k i j p in
    let from : int_le (u.x *ℤ pos (p.d * k)) (p.x *ℤ pos k +ℤ i) ≡ int_le (u.x *ℤ pos p.d) p.x =
    ap (λ z. int_le z (p.x *ℤ pos k +ℤ i)) (sym (mul_assoc u.x (pos p.d) (pos k))) ∙ le_right (u.x *ℤ pos p.d) p.x i k h n in
    let to : int_lt (p.x *ℤ pos k +ℤ i) (v.x *ℤ pos (p.d * k)) ≡ int_lt p.x (v.x *ℤ pos p.d) =
    ap (λ z. int_lt (p.x *ℤ pos k +ℤ i) z) (sym (mul_assoc v.x (pos p.d) (pos k))) ∙ lt_right (v.x *ℤ pos p.d) p.x i k h n in
    ap (λ b. b && int_lt q.x (v.x *ℤ pos q.d) && int_lt (cross u v q) (pos 0)) from
    ∙ ap (λ b. int_le (u.x *ℤ pos p.d) p.x && b && int_lt (cross u v q) (pos 0)) to
    ∙ by_tests (int_le (u.x *ℤ pos p.d) p.x) refl (int_lt p.x (v.x *ℤ pos p.d)) refl
  where
    by_tests : (a : Bool) → int_le (u.x *ℤ pos p.d) p.x ≡ a → (b : Bool) → int_lt p.x (v.x *ℤ pos p.d) ≡ b →
        (a && b && int_lt (cross u v (nudged k i j p)) (pos 0)) ≡ (a && b && int_lt (cross u v p) (pos 0))
    by_tests true l true m =
        ap (λ z. int_lt z (pos 0)) (cross-nudged u v p i j k)
        ∙ sign_kept (cross u v p) (swerve i j u v) k g (clear-right u v p o off (le_from_test (u.x *ℤ pos p.d) p.x l) (lt_from_test p.x (v.x *ℤ pos p.d) m))
    by_tests true l false m = refl
    by_tests false l b m = refl

below-left : (u v : Coordinates) (p : Point) (i j : ℤ) (k : ℕ) → IsPoint p → i <ℤ pos 0 → unsigned_abs i < k → unsigned_abs (swerve i j u v) < k →
    on_edge (edge_between u v) p ≡ false → below_rightward u v (nudged k i j p) ≡ below_leftward u v p
below-left u v p i j k o n h g off =
    let q = nudged k i j p in
    let from : int_le (u.x *ℤ pos (p.d * k)) (p.x *ℤ pos k +ℤ i) ≡ int_lt (u.x *ℤ pos p.d) p.x =
    ap (λ z. int_le z (p.x *ℤ pos k +ℤ i)) (sym (mul_assoc u.x (pos p.d) (pos k))) ∙ le_left (u.x *ℤ pos p.d) p.x i k h n in
    let to : int_lt (p.x *ℤ pos k +ℤ i) (v.x *ℤ pos (p.d * k)) ≡ int_le p.x (v.x *ℤ pos p.d) =
    ap (λ z. int_lt (p.x *ℤ pos k +ℤ i) z) (sym (mul_assoc v.x (pos p.d) (pos k))) ∙ lt_left (v.x *ℤ pos p.d) p.x i k h n in
    ap (λ b. b && int_lt q.x (v.x *ℤ pos q.d) && int_lt (cross u v q) (pos 0)) from
    ∙ ap (λ b. int_lt (u.x *ℤ pos p.d) p.x && b && int_lt (cross u v q) (pos 0)) to
    ∙ by_tests (int_lt (u.x *ℤ pos p.d) p.x) refl (int_le p.x (v.x *ℤ pos p.d)) refl
  where
    by_tests : (a : Bool) → int_lt (u.x *ℤ pos p.d) p.x ≡ a → (b : Bool) → int_le p.x (v.x *ℤ pos p.d) ≡ b →
        (a && b && int_lt (cross u v (nudged k i j p)) (pos 0)) ≡ (a && b && int_lt (cross u v p) (pos 0))
    by_tests true l true m =
        ap (λ z. int_lt z (pos 0)) (cross-nudged u v p i j k)
        ∙ sign_kept (cross u v p) (swerve i j u v) k g (clear-left u v p o off (lt_from_test (u.x *ℤ pos p.d) p.x l) (le_from_test p.x (v.x *ℤ pos p.d) m))
    by_tests true l false m = refl
    by_tests false l b m = refl

pub above-right : (e : Line) (p : Point) (i j : ℤ) (k : ℕ) → IsPoint p → IsFine i j k e → pos 0 ≤ℤ i → on_edge e p ≡ false → edge_above e (nudged k i j p) ≡ edge_above e p
above-right e p i j k o f n off =
    ap (λ b. b || below_rightward e.b e.a (nudged k i j p)) (below-right e.a e.b p i j k o n f.across f.onward off)
    ∙ ap (λ b. below_rightward e.a e.b p || b) (below-right e.b e.a p i j k o n f.across f.back (on_edge-swap e.b e.a p ∙ off))

pub above-left : (e : Line) (p : Point) (i j : ℤ) (k : ℕ) → IsPoint p → IsFine i j k e → i <ℤ pos 0 → on_edge e p ≡ false → edge_above e (nudged k i j p) ≡ edge_above_left e p
above-left e p i j k o f n off =
    ap (λ b. b || below_rightward e.b e.a (nudged k i j p)) (below-left e.a e.b p i j k o n f.across f.onward off)
    ∙ ap (λ b. below_leftward e.a e.b p || b) (below-left e.b e.a p i j k o n f.across f.back (on_edge-swap e.b e.a p ∙ off))
