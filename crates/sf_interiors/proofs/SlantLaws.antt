-- Along a line that isn't vertical and that edges don't meet: of a closed chain as many edges are above its one end as
-- above the other, but for an even number.
use Rattle.std.proofs.Common.{◌≡◌, ℕ, ◌*◌, arith, lit<, refl, ap, sym, ◌∙◌, ℤ, pos, ◌+ℤ◌, ◌-ℤ◌, ◌*ℤ◌, ◌<ℤ◌, ◌≤ℤ◌, Bool, true, false, ◌&&◌, ◌||◌, not, unsigned_abs, List, [], ◌∷◌}
use Rattle.std.specs.Prelude.{int_le, int_lt}
use Rattle.std.specs.List.{AllByRecursion}
use Rattle.std.proofs.lemmas.Bool.{both_ways}
use Rattle.std.proofs.lemmas.Int.{by_lt_z, ints}
use Rattle.sf_grid.specs.Plane.{Coordinates, IsPoint, Point, grid_point}
use Rattle.sf_grid.specs.Edge.{Edge as Line, IsOnEdge, below_rightward, cross, edge_above, edge_between}
use Rattle.sf_grid.proofs.CallerLemmas.{abs_of_run, dif, le_from_mul, le_from_test, lt_from_test, mul, mul_le, mul_pos-pos, num, on_edge-swap, pos_from_mul, product_pos, ring, run_pos, same_tests, sum, test_from_le, test_from_lt, var}
use Rattle.sf_grid.proofs.LineLaws.{on_edge_rightward}
use Rattle.sf_plane.proofs.CombineLaws.{start_on_edge}
use Rattle.sf_plane.proofs.FormLaws.{Form, value}
use Rattle.sf_plane.specs.Boxes.{IsChain, IsClosedChain}
use Rattle.sf_interiors.proofs.ChainLaws.{differ-chain, exchange, odd-count}
use Rattle.sf_interiors.proofs.SideLaws.{differ, differ-self, no-rightward}
use Rattle.sf_interiors.specs.Paths.{parity}
use Rattle.sf_interiors.proofs.ClearLaws.{InColumns, IsClear, is_over, one_side}

-- ---- the point of an edge in the column of a point
abbrev pub run_of : Coordinates → Coordinates → ℕ
run_of u v = unsigned_abs (v.x -ℤ u.x)

abbrev pub above_of : Coordinates → Coordinates → Point → Point
above_of u v p =
    record {
      x = p.x *ℤ pos (run_of u v);
      y = u.y *ℤ pos p.d *ℤ pos (run_of u v) +ℤ (v.y -ℤ u.y) *ℤ (p.x -ℤ u.x *ℤ pos p.d);
      d = p.d * run_of u v;
    }

pub above_of-point : (u v : Coordinates) (p : Point) → u.x <ℤ v.x → IsPoint p → IsPoint (above_of u v p)
above_of-point u v p l i = record { positive = product_pos p.d (run_of u v) i.positive (run_pos u.x v.x l) }

same_le : (a b c d : ℤ) → a ≡ c → b ≡ d → c ≤ℤ d → a ≤ℤ b
same_le a b c d e f h = omega (arith, ints)

-- it is on the edge
pub above_of-on : (u v : Coordinates) (p : Point) → u.x <ℤ v.x → IsPoint p → (u.x *ℤ pos p.d) ≤ℤ p.x → p.x ≤ℤ (v.x *ℤ pos p.d) →
    IsOnEdge (edge_between u v) (above_of u v p)
above_of-on u v p l i low high =
    on_edge_rightward u v (above_of u v p) (above_of-point u v p l i) l
    (in_line (pos (run_of u v)) (abs_of_run u.x v.x l))
    (same_le (u.x *ℤ pos (p.d * run_of u v)) (p.x *ℤ pos (run_of u v)) (u.x *ℤ pos p.d *ℤ pos (run_of u v)) (p.x *ℤ pos (run_of u v)) (gathered u.x) refl
    (mul_le (u.x *ℤ pos p.d) p.x (run_of u v) low))
    (same_le (p.x *ℤ pos (run_of u v)) (v.x *ℤ pos (p.d * run_of u v)) (p.x *ℤ pos (run_of u v)) (v.x *ℤ pos p.d *ℤ pos (run_of u v)) refl (gathered v.x)
    (mul_le p.x (v.x *ℤ pos p.d) (run_of u v) high))
  where
    gathered : (z : ℤ) → z *ℤ pos (p.d * run_of u v) ≡ z *ℤ pos p.d *ℤ pos (run_of u v)
    gathered z = ring (z ∷ pos p.d ∷ pos (run_of u v) ∷ []) (mul (var 0) (mul (var 1) (var 2))) (mul (mul (var 0) (var 1)) (var 2)) refl

    in_line : (r : ℤ) → r ≡ v.x -ℤ u.x →
        (v.x -ℤ u.x) *ℤ ((u.y *ℤ pos p.d *ℤ r +ℤ (v.y -ℤ u.y) *ℤ (p.x -ℤ u.x *ℤ pos p.d)) -ℤ u.y *ℤ (pos p.d *ℤ r))
        -ℤ (v.y -ℤ u.y) *ℤ (p.x *ℤ r -ℤ u.x *ℤ (pos p.d *ℤ r)) ≡ pos 0
    in_line r e =
        ap (λ z. (v.x -ℤ u.x) *ℤ ((u.y *ℤ pos p.d *ℤ z +ℤ (v.y -ℤ u.y) *ℤ (p.x -ℤ u.x *ℤ pos p.d)) -ℤ u.y *ℤ (pos p.d *ℤ z))
        -ℤ (v.y -ℤ u.y) *ℤ (p.x *ℤ z -ℤ u.x *ℤ (pos p.d *ℤ z))) e
        ∙ ring (u.x ∷ u.y ∷ v.x ∷ v.y ∷ p.x ∷ pos p.d ∷ [])
        (dif
        (mul (dif (var 2) (var 0))
        (dif (sum (mul (mul (var 1) (var 5)) (dif (var 2) (var 0))) (mul (dif (var 3) (var 1)) (dif (var 4) (mul (var 0) (var 5)))))
        (mul (var 1) (mul (var 5) (dif (var 2) (var 0))))))
        (mul (dif (var 3) (var 1)) (dif (mul (var 4) (dif (var 2) (var 0))) (mul (var 0) (mul (var 5) (dif (var 2) (var 0)))))))
        (num (pos 0)) refl

-- and in the same columns
pub above_of-columns : (u v : Coordinates) (p q w : Point) → InColumns p q w → InColumns p q (above_of u v w)
above_of-columns u v p q w i =
    record {
      from =
          same_le (p.x *ℤ pos (w.d * run_of u v)) (w.x *ℤ pos (run_of u v) *ℤ pos p.d) (p.x *ℤ pos w.d *ℤ pos (run_of u v)) (w.x *ℤ pos p.d *ℤ pos (run_of u v))
          (ring (p.x ∷ pos w.d ∷ pos (run_of u v) ∷ []) (mul (var 0) (mul (var 1) (var 2))) (mul (mul (var 0) (var 1)) (var 2)) refl)
          (ring (w.x ∷ pos (run_of u v) ∷ pos p.d ∷ []) (mul (mul (var 0) (var 1)) (var 2)) (mul (mul (var 0) (var 2)) (var 1)) refl)
          (mul_le (p.x *ℤ pos w.d) (w.x *ℤ pos p.d) (run_of u v) i.from);
      to =
          same_le (w.x *ℤ pos (run_of u v) *ℤ pos q.d) (q.x *ℤ pos (w.d * run_of u v)) (w.x *ℤ pos q.d *ℤ pos (run_of u v)) (q.x *ℤ pos w.d *ℤ pos (run_of u v))
          (ring (w.x ∷ pos (run_of u v) ∷ pos q.d ∷ []) (mul (mul (var 0) (var 1)) (var 2)) (mul (mul (var 0) (var 2)) (var 1)) refl)
          (ring (q.x ∷ pos w.d ∷ pos (run_of u v) ∷ []) (mul (var 0) (mul (var 1) (var 2))) (mul (mul (var 0) (var 1)) (var 2)) refl)
          (mul_le (w.x *ℤ pos q.d) (q.x *ℤ pos w.d) (run_of u v) i.to);
    }

-- over the line where the edge is above the point of the line
value-above_of : (s : Form) (u v : Coordinates) (p : Point) → u.x <ℤ v.x → value s p ≡ pos 0 → value s (above_of u v p) ≡ s.y *ℤ (pos 0 -ℤ cross u v p)
value-above_of s u v p l zero =
    by_run (pos (run_of u v)) (abs_of_run u.x v.x l)
  where
    rest : (a b : ℤ) → pos 0 *ℤ a +ℤ b ≡ b
    rest a b = omega (arith, ints)

    by_run : (r : ℤ) → r ≡ v.x -ℤ u.x →
        s.x *ℤ (p.x *ℤ r) +ℤ s.y *ℤ (u.y *ℤ pos p.d *ℤ r +ℤ (v.y -ℤ u.y) *ℤ (p.x -ℤ u.x *ℤ pos p.d)) +ℤ s.d *ℤ (pos p.d *ℤ r) ≡ s.y *ℤ (pos 0 -ℤ cross u v p)
    by_run r e =
        ap (λ z. s.x *ℤ (p.x *ℤ z) +ℤ s.y *ℤ (u.y *ℤ pos p.d *ℤ z +ℤ (v.y -ℤ u.y) *ℤ (p.x -ℤ u.x *ℤ pos p.d)) +ℤ s.d *ℤ (pos p.d *ℤ z)) e
        ∙ ring (u.x ∷ u.y ∷ v.x ∷ v.y ∷ p.x ∷ p.y ∷ pos p.d ∷ s.x ∷ s.y ∷ s.d ∷ [])
        (sum (sum
        (mul (var 7) (mul (var 4) (dif (var 2) (var 0))))
        (mul (var 8) (sum (mul (mul (var 1) (var 6)) (dif (var 2) (var 0))) (mul (dif (var 3) (var 1)) (dif (var 4) (mul (var 0) (var 6)))))))
        (mul (var 9) (mul (var 6) (dif (var 2) (var 0)))))
        (sum
        (mul (sum (sum (mul (var 7) (var 4)) (mul (var 8) (var 5))) (mul (var 9) (var 6))) (dif (var 2) (var 0)))
        (mul (var 8) (dif (num (pos 0)) (dif (mul (dif (var 2) (var 0)) (dif (var 5) (mul (var 1) (var 6)))) (mul (dif (var 3) (var 1)) (dif (var 4) (mul (var 0) (var 6))))))))
        refl
        ∙ ap (λ z. z *ℤ (v.x -ℤ u.x) +ℤ s.y *ℤ (pos 0 -ℤ cross u v p)) zero
        ∙ rest (v.x -ℤ u.x) (s.y *ℤ (pos 0 -ℤ cross u v p))

above_of-over : (s : Form) (u v : Coordinates) (p : Point) → u.x <ℤ v.x → pos 0 <ℤ s.y → value s p ≡ pos 0 → int_lt (cross u v p) (pos 0) ≡ is_over s (above_of u v p)
above_of-over s u v p l up zero =
    let e = value-above_of s u v p l zero in
    same_tests (int_lt (cross u v p) (pos 0)) (is_over s (above_of u v p))
    (λ t. test_from_lt (pos 0) (value s (above_of u v p)) (moved (value s (above_of u v p)) (s.y *ℤ (pos 0 -ℤ cross u v p)) e (mul_pos-pos s.y (pos 0 -ℤ cross u v p) up (turned (cross u v p) (lt_from_test (cross u v p) (pos 0) t)))))
    (λ t. test_from_lt (cross u v p) (pos 0) (back (cross u v p) (pos_from_mul s.y (pos 0 -ℤ cross u v p) up (moved_back (value s (above_of u v p)) (s.y *ℤ (pos 0 -ℤ cross u v p)) e (lt_from_test (pos 0) (value s (above_of u v p)) t)))))
  where
    moved : (a b : ℤ) → a ≡ b → pos 0 <ℤ b → pos 0 <ℤ a
    moved a b f h = omega (arith, ints)

    moved_back : (a b : ℤ) → a ≡ b → pos 0 <ℤ a → pos 0 <ℤ b
    moved_back a b f h = omega (arith, ints)

    turned : (c : ℤ) → c <ℤ pos 0 → pos 0 <ℤ (pos 0 -ℤ c)
    turned c h = omega (arith, ints)

    back : (c : ℤ) → pos 0 <ℤ (pos 0 -ℤ c) → c <ℤ pos 0
    back c h = omega (arith, ints)

-- ---- which ends count
-- the end's column is that of the point or left of it
abbrev pub is_left : Point → Coordinates → Bool
is_left p a = int_le (a.x *ℤ pos p.d) p.x

-- an end right of p, not right of q, and over the line
abbrev pub counts_end : Form → Point → Point → Coordinates → Bool
counts_end s p q a = not (is_left p a) && is_left q a && is_over s (grid_point a)

-- the line from p to q: it isn't vertical, and p is not right of q
pub record IsAcross (s : Form) (p q : Point) : Type 0 where
  pub rises : pos 0 <ℤ s.y
  pub is_first : IsPoint p
  pub is_second : IsPoint q
  pub first : value s p ≡ pos 0
  pub second : value s q ≡ pos 0
  pub forth : (p.x *ℤ pos q.d) ≤ℤ (q.x *ℤ pos p.d)

combine : (lup lvp luq lvq cp cq uu uv : Bool) → (lvp ≡ true → lup ≡ true) → (lvq ≡ true → luq ≡ true) → (lup ≡ true → luq ≡ true) → (lvp ≡ true → lvq ≡ true) →
    (lup ≡ true → lvp ≡ false → lvq ≡ false → luq ≡ true → cp ≡ cq) → (lup ≡ true → lvp ≡ false → lvq ≡ true → cp ≡ uv) → (lup ≡ false → luq ≡ true → lvq ≡ false → cq ≡ uu) →
    (lup ≡ false → luq ≡ true → lvp ≡ false → lvq ≡ true → uu ≡ uv) →
    differ (lup && not lvp && cp) (luq && not lvq && cq) ≡ differ (not lup && luq && uu) (not lvp && lvq && uv)
combine true true true true cp cq uu uv a b c d one two three four = refl
combine true true true false cp cq uu uv a b c d one two three four = absurd (both_ways false refl (d refl))
combine true true false lvq cp cq uu uv a b c d one two three four = absurd (both_ways false refl (c refl))
combine true false true true cp cq uu uv a b c d one two three four = none cp ∙ two refl refl refl
  where
    none : (x : Bool) → differ x false ≡ x
    none true = refl
    none false = refl
combine true false true false cp cq uu uv a b c d one two three four = ap (λ x. differ x cq) (one refl refl refl refl) ∙ differ-self cq
combine true false false lvq cp cq uu uv a b c d one two three four = absurd (both_ways false refl (c refl))
combine false true luq lvq cp cq uu uv a b c d one two three four = absurd (both_ways false refl (a refl))
combine false false true true cp cq uu uv a b c d one two three four = sym (ap (λ x. differ x uv) (four refl refl refl refl) ∙ differ-self uv)
combine false false true false cp cq uu uv a b c d one two three four = three refl refl refl ∙ sym (none uu)
  where
    none : (x : Bool) → differ x false ≡ x
    none true = refl
    none false = refl
combine false false false true cp cq uu uv a b c d one two three four = absurd (both_ways false refl (b refl))
combine false false false false cp cq uu uv a b c d one two three four = refl

-- ---- the tests of columns
not-left : (z : ℤ) (p : Point) → int_lt p.x (z *ℤ pos p.d) ≡ not (int_le (z *ℤ pos p.d) p.x)
not-left z p = grind (arith, ints)

right_of : (z : ℤ) (p : Point) → int_le (z *ℤ pos p.d) p.x ≡ false → p.x ≤ℤ (z *ℤ pos p.d)
right_of z p h = grind (arith, ints)

le_le : (a b c : ℤ) → a ≤ℤ b → b ≤ℤ c → a ≤ℤ c
le_le a b c f g = omega (arith, ints)

-- what is left of p is so further to the left, and left of each point right of p
left_of_left : (u v : ℤ) (p : Point) → u ≤ℤ v → int_le (v *ℤ pos p.d) p.x ≡ true → int_le (u *ℤ pos p.d) p.x ≡ true
left_of_left u v p l h =
    test_from_le (u *ℤ pos p.d) p.x (le_le (u *ℤ pos p.d) (v *ℤ pos p.d) p.x (mul_le u v p.d l) (le_from_test (v *ℤ pos p.d) p.x h))

left_of_later : (z : ℤ) (p q : Point) → IsPoint p → (p.x *ℤ pos q.d) ≤ℤ (q.x *ℤ pos p.d) → int_le (z *ℤ pos p.d) p.x ≡ true → int_le (z *ℤ pos q.d) q.x ≡ true
left_of_later z p q i l h =
    test_from_le (z *ℤ pos q.d) q.x
    (le_from_mul (z *ℤ pos q.d) q.x p.d i.positive
    (same_le (z *ℤ pos q.d *ℤ pos p.d) (q.x *ℤ pos p.d) (z *ℤ pos p.d *ℤ pos q.d) (q.x *ℤ pos p.d)
    (ring (z ∷ pos q.d ∷ pos p.d ∷ []) (mul (mul (var 0) (var 1)) (var 2)) (mul (mul (var 0) (var 2)) (var 1)) refl) refl
    (le_le (z *ℤ pos p.d *ℤ pos q.d) (p.x *ℤ pos q.d) (q.x *ℤ pos p.d) (mul_le (z *ℤ pos p.d) p.x q.d (le_from_test (z *ℤ pos p.d) p.x h)) l)))

-- a grid point right of p and not right of q is in the columns
grid_columns : (a : Coordinates) (p q : Point) → is_left p a ≡ false → is_left q a ≡ true → InColumns p q (grid_point a)
grid_columns a p q f t =
    record {
      from = once (p.x) (a.x *ℤ pos p.d) (right_of a.x p f);
      to = once_right (a.x *ℤ pos q.d) q.x (le_from_test (a.x *ℤ pos q.d) q.x t);
    }
  where
    once : (m n : ℤ) → m ≤ℤ n → (m *ℤ pos 1) ≤ℤ n
    once m n h = omega (arith, ints)

    once_right : (m n : ℤ) → m ≤ℤ n → m ≤ℤ (n *ℤ pos 1)
    once_right m n h = omega (arith, ints)

pub is_grid : (a : Coordinates) → IsPoint (grid_point a)
is_grid a = record { positive = lit< tt }

pub end_on_edge : (a b : Coordinates) → IsOnEdge (edge_between a b) (grid_point b)
end_on_edge a b = on_edge-swap a b (grid_point b) ∙ start_on_edge b a

-- ---- one edge: what it is above changes as its ends count
weak : (a b : ℤ) → a <ℤ b → a ≤ℤ b
weak a b h = omega (arith, ints)

here : (p q : Point) → (p.x *ℤ pos q.d) ≤ℤ (q.x *ℤ pos p.d) → InColumns p q p
here p q l = record { from = omega (arith, ints); to = l }

there : (p q : Point) → (p.x *ℤ pos q.d) ≤ℤ (q.x *ℤ pos p.d) → InColumns p q q
there p q l = record { from = l; to = omega (arith, ints) }

rightward : (s : Form) (p q : Point) (u v : Coordinates) → IsAcross s p q → u.x <ℤ v.x → IsClear s p q (edge_between u v) →
    differ (below_rightward u v p) (below_rightward u v q) ≡ differ (counts_end s p q u) (counts_end s p q v)
rightward s p q u v a l clear =
    ap (λ t. differ (is_left p u && t && int_lt (cross u v p) (pos 0)) (below_rightward u v q)) (not-left v.x p)
    ∙ ap (λ t. differ (is_left p u && not (is_left p v) && int_lt (cross u v p) (pos 0)) (is_left q u && t && int_lt (cross u v q) (pos 0))) (not-left v.x q)
    ∙ combine (is_left p u) (is_left p v) (is_left q u) (is_left q v) (int_lt (cross u v p) (pos 0)) (int_lt (cross u v q) (pos 0)) (is_over s (grid_point u)) (is_over s (grid_point v))
    (left_of_left u.x v.x p (weak u.x v.x l))
    (left_of_left u.x v.x q (weak u.x v.x l))
    (left_of_later u.x p q a.is_first a.forth)
    (left_of_later v.x p q a.is_first a.forth)
    (λ up vp vq uq. over p a.is_first a.first ∙ one_side s p q e (above_of u v p) (above_of u v q) clear (is_tip p a.is_first) (is_tip q a.is_second) (on p a.is_first up vp) (on q a.is_second uq vq) in_p in_q ∙ sym (over q a.is_second a.second))
    (λ up vp vq. over p a.is_first a.first ∙ one_side s p q e (above_of u v p) (grid_point v) clear (is_tip p a.is_first) (is_grid v) (on p a.is_first up vp) (end_on_edge u v) in_p (grid_columns v p q vp vq))
    (λ up uq vq. over q a.is_second a.second ∙ one_side s p q e (above_of u v q) (grid_point u) clear (is_tip q a.is_second) (is_grid u) (on q a.is_second uq vq) (start_on_edge u v) in_q (grid_columns u p q up uq))
    (λ up uq vp vq. one_side s p q e (grid_point u) (grid_point v) clear (is_grid u) (is_grid v) (start_on_edge u v) (end_on_edge u v) (grid_columns u p q up uq) (grid_columns v p q vp vq))
  where
    e : Line
    e = edge_between u v

    is_tip : (w : Point) → IsPoint w → IsPoint (above_of u v w)
    is_tip w i = above_of-point u v w l i

    on : (w : Point) → IsPoint w → is_left w u ≡ true → is_left w v ≡ false → IsOnEdge (edge_between u v) (above_of u v w)
    on w i h k = above_of-on u v w l i (le_from_test (u.x *ℤ pos w.d) w.x h) (right_of v.x w k)

    over : (w : Point) → IsPoint w → value s w ≡ pos 0 → int_lt (cross u v w) (pos 0) ≡ is_over s (above_of u v w)
    over w i z = above_of-over s u v w l a.rises z

    in_p : InColumns p q (above_of u v p)
    in_p = above_of-columns u v p q p (here p q a.forth)

    in_q : InColumns p q (above_of u v q)
    in_q = above_of-columns u v p q q (there p q a.forth)

-- both ends of a vertical edge count, or none
upright : (s : Form) (p q : Point) (u v : Coordinates) → u.x ≡ v.x → IsClear s p q (edge_between u v) → counts_end s p q u ≡ counts_end s p q v
upright s p q u v same clear =
    by_tests (is_left p u) refl (is_left q u) refl
    (ap (λ z. int_le (z *ℤ pos p.d) p.x) (sym same)) (ap (λ z. int_le (z *ℤ pos q.d) q.x) (sym same))
  where
    by_tests : (b : Bool) → is_left p u ≡ b → (c : Bool) → is_left q u ≡ c → is_left p v ≡ is_left p u → is_left q v ≡ is_left q u →
        counts_end s p q u ≡ counts_end s p q v
    by_tests true h c k f g = ap (λ t. not t && is_left q u && is_over s (grid_point u)) h ∙ sym (ap (λ t. not t && is_left q v && is_over s (grid_point v)) (f ∙ h))
    by_tests false h false k f g =
        ap (λ t. not t && is_left q u && is_over s (grid_point u)) h ∙ ap (λ t. t && is_over s (grid_point u)) k
        ∙ sym (ap (λ t. not t && is_left q v && is_over s (grid_point v)) (f ∙ h) ∙ ap (λ t. t && is_over s (grid_point v)) (g ∙ k))
    by_tests false h true k f g =
        ap (λ t. not t && is_left q u && is_over s (grid_point u)) h ∙ ap (λ t. t && is_over s (grid_point u)) k
        ∙ one_side s p q (edge_between u v) (grid_point u) (grid_point v) clear (is_grid u) (is_grid v) (start_on_edge u v) (end_on_edge u v) (grid_columns u p q h k) (grid_columns v p q (f ∙ h) (g ∙ k))
        ∙ sym (ap (λ t. not t && is_left q v && is_over s (grid_point v)) (f ∙ h) ∙ ap (λ t. t && is_over s (grid_point v)) (g ∙ k))

or-none : (b : Bool) → (b || false) ≡ b
or-none true = refl
or-none false = refl

differ-swap : (a b : Bool) → differ a b ≡ differ b a
differ-swap true true = refl
differ-swap true false = refl
differ-swap false true = refl
differ-swap false false = refl

each-edge : (s : Form) (p q : Point) (e : Line) → IsAcross s p q → IsClear s p q e →
    differ (edge_above e p) (edge_above e q) ≡ differ (counts_end s p q e.a) (counts_end s p q e.b)
each-edge s p q e a clear =
    by_lt_z e.a.x e.b.x
    (λ l.
    ap (λ t. differ t (edge_above e q)) (only_forth p l)
    ∙ ap (λ t. differ (below_rightward e.a e.b p) t) (only_forth q l)
    ∙ rightward s p q e.a e.b a l clear)
    (λ m.
    by_lt_z e.b.x e.a.x
    (λ l.
    ap (λ t. differ t (edge_above e q)) (only_back p l)
    ∙ ap (λ t. differ (below_rightward e.b e.a p) t) (only_back q l)
    ∙ rightward s p q e.b e.a a l (λ r i z c on. clear r i z c (on_edge-swap e.a e.b r ∙ on))
    ∙ differ-swap (counts_end s p q e.b) (counts_end s p q e.a))
    (λ n.
    ap (λ t. differ t (edge_above e q)) (neither p m n)
    ∙ neither q m n
    ∙ sym (ap (λ t. differ t (counts_end s p q e.b)) (upright s p q e.a e.b (equal e.a.x e.b.x n m) clear) ∙ differ-self (counts_end s p q e.b))))
  where
    equal : (m n : ℤ) → m ≤ℤ n → n ≤ℤ m → m ≡ n
    equal m n f g = omega (arith, ints)

    only_forth : (w : Point) → e.a.x <ℤ e.b.x → edge_above e w ≡ below_rightward e.a e.b w
    only_forth w l = ap (λ t. below_rightward e.a e.b w || t) (no-rightward e.b e.a w (weak e.a.x e.b.x l)) ∙ or-none (below_rightward e.a e.b w)

    only_back : (w : Point) → e.b.x <ℤ e.a.x → edge_above e w ≡ below_rightward e.b e.a w
    only_back w l = ap (λ t. t || below_rightward e.b e.a w) (no-rightward e.a e.b w (weak e.b.x e.a.x l))

    neither : (w : Point) → e.b.x ≤ℤ e.a.x → e.a.x ≤ℤ e.b.x → edge_above e w ≡ false
    neither w m n = ap (λ t. t || below_rightward e.b e.a w) (no-rightward e.a e.b w m) ∙ no-rightward e.b e.a w n

-- ---- a chain
chain : (s : Form) (p q : Point) (a b : Coordinates) (es : List Line) → IsAcross s p q → AllByRecursion (IsClear s p q) es → IsChain a es b →
    differ (parity es p) (parity es q) ≡ differ (counts_end s p q a) (counts_end s p q b)
chain s p q a b [] across clear h = sym (differ-self (counts_end s p q a)) ∙ ap (λ c. differ (counts_end s p q a) (counts_end s p q c)) h
chain s p q a b (e ∷ es) across clear h =
    ap (λ t. differ t (parity (e ∷ es) q)) (odd-count (λ f. edge_above f p) e es)
    ∙ ap (λ t. differ (differ (edge_above e p) (parity es p)) t) (odd-count (λ f. edge_above f q) e es)
    ∙ exchange (edge_above e p) (parity es p) (edge_above e q) (parity es q)
    ∙ ap (λ t. differ t (differ (parity es p) (parity es q))) (each-edge s p q e across clear.0)
    ∙ ap (λ t. differ (differ (counts_end s p q e.a) (counts_end s p q e.b)) t) (chain s p q e.b b es across clear.1 h.1)
    ∙ differ-chain (counts_end s p q e.a) (counts_end s p q e.b) (counts_end s p q b)
    ∙ ap (λ c. differ (counts_end s p q c) (counts_end s p q b)) h.0

pub equal_parts : (a b : Bool) → differ a b ≡ false → a ≡ b
equal_parts true true h = refl
equal_parts true false h = absurd (both_ways true h refl)
equal_parts false true h = absurd (both_ways true h refl)
equal_parts false false h = refl

pub across : (s : Form) (p q : Point) (es : List Line) → IsClosedChain es → IsAcross s p q → AllByRecursion (IsClear s p q) es → parity es p ≡ parity es q
across s p q es closed a clear =
    equal_parts (parity es p) (parity es q) (chain s p q closed.0 closed.0 es a clear closed.1 ∙ differ-self (counts_end s p q closed.0))
