-- A line across the plane that an edge doesn't meet between two columns: all points that the edge has there are on one
-- side of it.
use Rattle.std.proofs.Common.{◌≡◌, ℕ, ◌+◌, ◌*◌, ◌<◌, arith, refl, ap, ◌∙◌, ℤ, pos, ◌+ℤ◌, ◌-ℤ◌, ◌*ℤ◌, ◌<ℤ◌, ◌≤ℤ◌, Bool, true, unsigned_abs, [], ◌∷◌}
use Rattle.std.specs.Prelude.{int_lt}
use Rattle.std.proofs.lemmas.Int.{by_lt_z, ints}
use Rattle.sf_grid.specs.Plane.{IsPoint, Point}
use Rattle.sf_grid.specs.Edge.{Edge as Line, IsOnEdge}
use Rattle.sf_grid.proofs.CallerLemmas.{dif, lt_from_test, mul, mul_le, num, ring, same_point_is_equivalence, same_tests, sum, test_from_lt, var}
use Rattle.sf_plane.proofs.FormLaws.{Form, mean-point, value, value-mean}
use Rattle.sf_plane.proofs.ShareLaws.{edge_is_convex}
use Rattle.sf_plane.specs.Dimension.{mean}

-- the point is in the columns from p to q
pub record InColumns (p q r : Point) : Type 0 where
  pub from : (p.x *ℤ pos r.d) ≤ℤ (r.x *ℤ pos p.d)
  pub to : (r.x *ℤ pos q.d) ≤ℤ (q.x *ℤ pos r.d)

-- in the columns from p to q the edge has no point of the line
abbrev pub IsClear : Form → Point → Point → Line → Type 0
IsClear s p q e = (r : Point) → IsPoint r → value s r ≡ pos 0 → InColumns p q r → IsOnEdge e r → ⊥

-- ---- means are in the columns
weighed : (a b c d : ℤ) (m n : ℕ) → a ≤ℤ b → c ≤ℤ d → (a *ℤ pos m +ℤ c *ℤ pos n) ≤ℤ (b *ℤ pos m +ℤ d *ℤ pos n)
weighed a b c d m n h k =
    let f = mul_le a b m h in
    let g = mul_le c d n k in
    omega (arith, ints)

as_weighed : (a b c d : ℤ) → a ≡ c → b ≡ d → c ≤ℤ d → a ≤ℤ b
as_weighed a b c d e f h = omega (arith, ints)

columns-mean : (p q g h : Point) (m n : ℕ) → InColumns p q g → InColumns p q h → InColumns p q (mean m n g h)
columns-mean p q g h m n i j =
    record {
      from =
          as_weighed (p.x *ℤ pos (g.d * m + h.d * n)) ((g.x *ℤ pos m +ℤ h.x *ℤ pos n) *ℤ pos p.d)
          ((p.x *ℤ pos g.d) *ℤ pos m +ℤ (p.x *ℤ pos h.d) *ℤ pos n) ((g.x *ℤ pos p.d) *ℤ pos m +ℤ (h.x *ℤ pos p.d) *ℤ pos n)
          (ring (p.x ∷ pos g.d ∷ pos h.d ∷ pos m ∷ pos n ∷ [])
          (mul (var 0) (sum (mul (var 1) (var 3)) (mul (var 2) (var 4))))
          (sum (mul (mul (var 0) (var 1)) (var 3)) (mul (mul (var 0) (var 2)) (var 4)))
          refl)
          (ring (g.x ∷ h.x ∷ pos m ∷ pos n ∷ pos p.d ∷ [])
          (mul (sum (mul (var 0) (var 2)) (mul (var 1) (var 3))) (var 4))
          (sum (mul (mul (var 0) (var 4)) (var 2)) (mul (mul (var 1) (var 4)) (var 3)))
          refl)
          (weighed (p.x *ℤ pos g.d) (g.x *ℤ pos p.d) (p.x *ℤ pos h.d) (h.x *ℤ pos p.d) m n i.from j.from);
      to =
          as_weighed ((g.x *ℤ pos m +ℤ h.x *ℤ pos n) *ℤ pos q.d) (q.x *ℤ pos (g.d * m + h.d * n))
          ((g.x *ℤ pos q.d) *ℤ pos m +ℤ (h.x *ℤ pos q.d) *ℤ pos n) ((q.x *ℤ pos g.d) *ℤ pos m +ℤ (q.x *ℤ pos h.d) *ℤ pos n)
          (ring (g.x ∷ h.x ∷ pos m ∷ pos n ∷ pos q.d ∷ [])
          (mul (sum (mul (var 0) (var 2)) (mul (var 1) (var 3))) (var 4))
          (sum (mul (mul (var 0) (var 4)) (var 2)) (mul (mul (var 1) (var 4)) (var 3)))
          refl)
          (ring (q.x ∷ pos g.d ∷ pos h.d ∷ pos m ∷ pos n ∷ [])
          (mul (var 0) (sum (mul (var 1) (var 3)) (mul (var 2) (var 4))))
          (sum (mul (mul (var 0) (var 1)) (var 3)) (mul (mul (var 0) (var 2)) (var 4)))
          refl)
          (weighed (g.x *ℤ pos q.d) (q.x *ℤ pos g.d) (h.x *ℤ pos q.d) (q.x *ℤ pos h.d) m n i.to j.to);
    }

-- ---- points of the edge on either side would have one on the line between them
crossed : (s : Form) (p q : Point) (e : Line) (g h : Point) → IsClear s p q e → IsPoint g → IsPoint h → IsOnEdge e g → IsOnEdge e h → InColumns p q g → InColumns p q h →
    pos 0 <ℤ value s g → value s h <ℤ pos 0 → ⊥
crossed s p q e g h clear i j on there in_g in_h up down =
    let m = unsigned_abs (value s h) in
    let n = unsigned_abs (value s g) in
    let some_m : 0 < m = below (value s h) down in
    let some_n : 0 < n = above (value s g) up in
    let r = mean m n g h in
    let is_r = mean-point m n g h i some_m in
    clear r is_r (value-mean s m n g h ∙ cancel (value s g) (value s h) up down) (columns-mean p q g h m n in_g in_h)
    (edge_is_convex e g h r i j is_r on there
    (record { first = m; second = n; first_positive = some_m; second_positive = some_n; same = same_point_is_equivalence.reflexive r }))
  where
    below : (z : ℤ) → z <ℤ pos 0 → 0 < unsigned_abs z
    below z k = omega (arith, ints)

    above : (z : ℤ) → pos 0 <ℤ z → 0 < unsigned_abs z
    above z k = omega (arith, ints)

    cancel : (a b : ℤ) → pos 0 <ℤ a → b <ℤ pos 0 → a *ℤ pos (unsigned_abs b) +ℤ b *ℤ pos (unsigned_abs a) ≡ pos 0
    cancel a b k l =
        let e : pos (unsigned_abs b) ≡ pos 0 -ℤ b = omega (arith, ints) in
        let f : pos (unsigned_abs a) ≡ a = omega (arith, ints) in
        ap (λ z. a *ℤ z +ℤ b *ℤ pos (unsigned_abs a)) e
        ∙ ap (λ z. a *ℤ (pos 0 -ℤ b) +ℤ b *ℤ z) f
        ∙ ring (a ∷ b ∷ []) (sum (mul (var 0) (dif (num (pos 0)) (var 1))) (mul (var 1) (var 0))) (num (pos 0)) refl

abbrev pub is_over : Form → Point → Bool
is_over s r = int_lt (pos 0) (value s r)

pub one_side : (s : Form) (p q : Point) (e : Line) (g h : Point) → IsClear s p q e → IsPoint g → IsPoint h → IsOnEdge e g → IsOnEdge e h → InColumns p q g → InColumns p q h →
    is_over s g ≡ is_over s h
one_side s p q e g h clear i j on there in_g in_h =
    same_tests (is_over s g) (is_over s h) (λ t. follows g h i j on there in_g in_h t) (λ t. follows h g j i there on in_h in_g t)
  where
    level : (z : ℤ) → z ≤ℤ pos 0 → pos 0 ≤ℤ z → z ≡ pos 0
    level z u v = omega (arith, ints)

    follows : (a b : Point) → IsPoint a → IsPoint b → IsOnEdge e a → IsOnEdge e b → InColumns p q a → InColumns p q b → is_over s a ≡ true → is_over s b ≡ true
    follows a b k l on_a on_b in_a in_b t =
        test_from_lt (pos 0) (value s b)
        (by_lt_z (pos 0) (value s b) (λ u. u)
        (λ u.
        by_lt_z (value s b) (pos 0)
        (λ v. absurd (crossed s p q e a b clear k l on_a on_b in_a in_b (lt_from_test (pos 0) (value s a) t) v))
        (λ v. absurd (clear b l (level (value s b) u v) in_b on_b))))
