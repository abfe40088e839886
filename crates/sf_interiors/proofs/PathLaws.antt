-- Edges, chains and boxes that meet no edge of closed chains: one parity at all their points.
use Rattle.std.proofs.Common.{◌≡◌, ℕ, ◌<◌, arith, refl, ap, sym, ◌∙◌, ℤ, pos, ◌+ℤ◌, ◌-ℤ◌, ◌*ℤ◌, ◌<ℤ◌, ◌≤ℤ◌, true, List, [], ◌∷◌}
use Rattle.std.specs.Prelude.{int_le}
use Rattle.std.specs.Int.{int_max, int_min}
use Rattle.std.specs.List.{AllByRecursion}
use Rattle.std.proofs.lemmas.Bool.{and_from, and_parts}
use Rattle.std.proofs.lemmas.Int.{by_lt_z, clamps, ints}
use Rattle.sf_grid.specs.Fraction.{Fraction, IsFraction}
use Rattle.sf_grid.specs.Plane.{Coordinates, IsPoint, Point, grid_point, point_at, x_of, y_of}
use Rattle.sf_grid.specs.Edge.{Edge as Line, IsOnEdge, edge_between, within}
use Rattle.sf_grid.proofs.CallerLemmas.{dif, eq_from_mul, le_from_mul, le_from_test, lies, mul, mul_le, num, on_edge-swap, on_edge_from, product_pos, ring, sum, test_from_le, var, within-same}
use Rattle.sf_grid.proofs.LineLaws.{on_edge_rightward}
use Rattle.sf_slabs.proofs.CallerLemmas.{each-map}
use Rattle.sf_plane.proofs.CombineLaws.{start_on_edge}
use Rattle.sf_plane.proofs.FormLaws.{Form, value}
use Rattle.sf_plane.proofs.GuardLaws.{left_side, value-left_side}
use Rattle.sf_plane.specs.Boxes.{Box, IsClosedChain, in_box}
use Rattle.sf_interiors.proofs.AlongLaws.{column-of}
use Rattle.sf_interiors.specs.Paths.{AreApart, BoxHasOneParity, ChainHasOneParity, EdgeHasOneParity, IsOffBox, parity}
use Rattle.sf_interiors.proofs.ClearLaws.{IsClear}
use Rattle.sf_interiors.proofs.SlantLaws.{across, end_on_edge, is_grid}
use Rattle.sf_interiors.proofs.UprightLaws.{IsClearUp, up}

-- ---- numbers between two others
record IsFromTo (low high : ℤ) (q : Fraction) : Type 0 where
  from : (low *ℤ pos q.den) ≤ℤ q.num
  to : q.num ≤ℤ (high *ℤ pos q.den)

from_to : (low high : ℤ) (q : Fraction) → within low high q ≡ true → IsFromTo low high q
from_to low high q h =
    let parts = and_parts (int_le (low *ℤ pos q.den) q.num) (int_le q.num (high *ℤ pos q.den)) h in
    record { from = le_from_test (low *ℤ pos q.den) q.num parts.0; to = le_from_test q.num (high *ℤ pos q.den) parts.1 }

within_from_to : (low high : ℤ) (q : Fraction) → IsFromTo low high q → within low high q ≡ true
within_from_to low high q h = and_from _ _ (test_from_le (low *ℤ pos q.den) q.num h.from) (test_from_le q.num (high *ℤ pos q.den) h.to)

le_le : (a b c : ℤ) → a ≤ℤ b → b ≤ℤ c → a ≤ℤ c
le_le a b c f g = omega (arith, ints)

same_le : (a b c : ℤ) → a ≡ b → b ≤ℤ c → a ≤ℤ c
same_le a b c e h = omega (arith, ints)

le_same : (a b c : ℤ) → a ≤ℤ b → b ≡ c → a ≤ℤ c
le_same a b c h e = omega (arith, ints)

swapped : (z m n : ℤ) → z *ℤ m *ℤ n ≡ z *ℤ n *ℤ m
swapped z m n = ring (z ∷ m ∷ n ∷ []) (mul (mul (var 0) (var 1)) (var 2)) (mul (mul (var 0) (var 2)) (var 1)) refl

-- what is at most q is at most a number that q is at most, and so above
low_kept : (z : ℤ) (q r : Fraction) → IsFraction q → (z *ℤ pos q.den) ≤ℤ q.num → (q.num *ℤ pos r.den) ≤ℤ (r.num *ℤ pos q.den) → (z *ℤ pos r.den) ≤ℤ r.num
low_kept z q r i h k =
    le_from_mul (z *ℤ pos r.den) r.num q.den i.positive
    (same_le (z *ℤ pos r.den *ℤ pos q.den) (z *ℤ pos q.den *ℤ pos r.den) (r.num *ℤ pos q.den) (swapped z (pos r.den) (pos q.den))
    (le_le (z *ℤ pos q.den *ℤ pos r.den) (q.num *ℤ pos r.den) (r.num *ℤ pos q.den) (mul_le (z *ℤ pos q.den) q.num r.den h) k))

high_kept : (z : ℤ) (q r : Fraction) → IsFraction q → q.num ≤ℤ (z *ℤ pos q.den) → (r.num *ℤ pos q.den) ≤ℤ (q.num *ℤ pos r.den) → r.num ≤ℤ (z *ℤ pos r.den)
high_kept z q r i h k =
    le_from_mul r.num (z *ℤ pos r.den) q.den i.positive
    (le_same (r.num *ℤ pos q.den) (z *ℤ pos q.den *ℤ pos r.den) (z *ℤ pos r.den *ℤ pos q.den)
    (le_le (r.num *ℤ pos q.den) (q.num *ℤ pos r.den) (z *ℤ pos q.den *ℤ pos r.den) k (mul_le q.num (z *ℤ pos q.den) r.den h))
    (swapped z (pos q.den) (pos r.den)))

between_kept : (low high : ℤ) (q r t : Fraction) → IsFraction q → IsFraction r → IsFromTo low high q → IsFromTo low high r → (q.num *ℤ pos t.den) ≤ℤ (t.num *ℤ pos q.den) →
    (t.num *ℤ pos r.den) ≤ℤ (r.num *ℤ pos t.den) → IsFromTo low high t
between_kept low high q r t i j h k f g = record { from = low_kept low q t i h.from f; to = high_kept high r t j k.to g }

x_number : (p : Point) → IsPoint p → IsFraction (x_of p)
x_number p i = record { positive = i.positive }

y_number : (p : Point) → IsPoint p → IsFraction (y_of p)
y_number p i = record { positive = i.positive }

-- ---- an edge that slants
columns_of : (u v : Coordinates) (p : Point) → u.x <ℤ v.x → IsOnEdge (edge_between u v) p → IsFromTo u.x v.x (x_of p)
columns_of u v p l on =
    from_to u.x v.x (x_of p)
    (ap (λ z. within z v.x (x_of p)) (sym (least u.x v.x l)) ∙ ap (λ z. within (int_min u.x v.x) z (x_of p)) (sym (greatest u.x v.x l)) ∙ (lies (edge_between u v) p on).x)
  where
    least : (s t : ℤ) → s <ℤ t → int_min s t ≡ s
    least s t h = omega (arith, ints, clamps)

    greatest : (s t : ℤ) → s <ℤ t → int_max s t ≡ t
    greatest s t h = omega (arith, ints, clamps)

forth : (es : List Line) (u v : Coordinates) (p q : Point) → IsClosedChain es → u.x <ℤ v.x → AllByRecursion (λ e. AreApart e (edge_between u v)) es → IsPoint p → IsPoint q →
    IsOnEdge (edge_between u v) p → IsOnEdge (edge_between u v) q → (p.x *ℤ pos q.d) ≤ℤ (q.x *ℤ pos p.d) → parity es p ≡ parity es q
forth es u v p q closed l apart i j on_p on_q order =
    across (left_side u v) p q es closed
    (record {
      rises = wide u.x v.x l;
      is_first = i;
      is_second = j;
      first = value-left_side u v p ∙ (lies (edge_between u v) p on_p).line;
      second = value-left_side u v q ∙ (lies (edge_between u v) q on_q).line;
      forth = order;
    })
    (each-map (λ e. AreApart e (edge_between u v)) (IsClear (left_side u v) p q) es
    (λ e a r k zero c on.
    let columns = between_kept u.x v.x (x_of p) (x_of q) (x_of r) (x_number p i) (x_number q j) (columns_of u v p l on_p) (columns_of u v q l on_q) c.from c.to in
    a r k on (on_edge_rightward u v r k l (sym (value-left_side u v r) ∙ zero) columns.from columns.to))
    apart)
  where
    wide : (a b : ℤ) → a <ℤ b → pos 0 <ℤ (b -ℤ a)
    wide a b h = omega (arith, ints)

weak : (a b : ℤ) → a <ℤ b → a ≤ℤ b
weak a b h = omega (arith, ints)

slanted : (es : List Line) (u v : Coordinates) (p q : Point) → IsClosedChain es → u.x <ℤ v.x → AllByRecursion (λ e. AreApart e (edge_between u v)) es → IsPoint p → IsPoint q →
    IsOnEdge (edge_between u v) p → IsOnEdge (edge_between u v) q → parity es p ≡ parity es q
slanted es u v p q closed l apart i j on_p on_q =
    by_lt_z (q.x *ℤ pos p.d) (p.x *ℤ pos q.d)
    (λ k. sym (forth es u v q p closed l apart j i on_q on_p (weak (q.x *ℤ pos p.d) (p.x *ℤ pos q.d) k)))
    (λ k. forth es u v p q closed l apart i j on_p on_q k)

-- ---- a vertical edge
on_upright : (f : Line) (p q r : Point) → f.a.x ≡ f.b.x → IsPoint p → IsPoint q → IsOnEdge f p → IsOnEdge f q → r.x *ℤ pos p.d ≡ p.x *ℤ pos r.d →
    (p.y *ℤ pos r.d) ≤ℤ (r.y *ℤ pos p.d) → (r.y *ℤ pos q.d) ≤ℤ (q.y *ℤ pos r.d) → IsOnEdge f r
on_upright f p q r same i j on_p on_q column low high =
    let at : f.a.x *ℤ pos r.d ≡ r.x =
    eq_from_mul (f.a.x *ℤ pos r.d) r.x p.d i.positive
    (swapped f.a.x (pos r.d) (pos p.d) ∙ ap (λ z. z *ℤ pos r.d) (column-of f p same on_p) ∙ sym column) in
    let y = between_kept (int_min f.a.y f.b.y) (int_max f.a.y f.b.y) (y_of p) (y_of q) (y_of r) (y_number p i) (y_number q j)
    (from_to _ _ (y_of p) (lies f p on_p).y) (from_to _ _ (y_of q) (lies f q on_q).y) low high in
    on_edge_from f r
    (record {
      line =
          ap (λ z. z *ℤ (r.y -ℤ f.a.y *ℤ pos r.d) -ℤ (f.b.y -ℤ f.a.y) *ℤ (r.x -ℤ f.a.x *ℤ pos r.d)) (none f.a.x f.b.x same)
          ∙ ap (λ z. pos 0 *ℤ (r.y -ℤ f.a.y *ℤ pos r.d) -ℤ (f.b.y -ℤ f.a.y) *ℤ z) (none (f.a.x *ℤ pos r.d) r.x at)
          ∙ nothing (r.y -ℤ f.a.y *ℤ pos r.d) (f.b.y -ℤ f.a.y);
      x =
          ap (λ z. within z (int_max f.a.x f.b.x) (x_of r)) (least f.a.x f.b.x same)
          ∙ ap (λ z. within f.a.x z (x_of r)) (greatest f.a.x f.b.x same)
          ∙ within_from_to f.a.x f.a.x (x_of r) (record { from = same_le (f.a.x *ℤ pos r.d) r.x r.x at (self r.x); to = le_same r.x r.x (f.a.x *ℤ pos r.d) (self r.x) (sym at) });
      y = within_from_to (int_min f.a.y f.b.y) (int_max f.a.y f.b.y) (y_of r) y;
    })
  where
    none : (s t : ℤ) → s ≡ t → t -ℤ s ≡ pos 0
    none s t h = omega (arith, ints)

    nothing : (s t : ℤ) → pos 0 *ℤ s -ℤ t *ℤ pos 0 ≡ pos 0
    nothing s t = ring (s ∷ t ∷ []) (dif (mul (num (pos 0)) (var 0)) (mul (var 1) (num (pos 0)))) (num (pos 0)) refl

    least : (s t : ℤ) → s ≡ t → int_min s t ≡ s
    least s t h = omega (arith, ints, clamps)

    greatest : (s t : ℤ) → s ≡ t → int_max s t ≡ s
    greatest s t h = omega (arith, ints, clamps)

    self : (s : ℤ) → s ≤ℤ s
    self s = omega (arith, ints)

upward : (es : List Line) (f : Line) (p q : Point) → f.a.x ≡ f.b.x → AllByRecursion (λ e. AreApart e f) es → IsPoint p → IsPoint q → IsOnEdge f p → IsOnEdge f q →
    (p.y *ℤ pos q.d) ≤ℤ (q.y *ℤ pos p.d) → parity es p ≡ parity es q
upward es f p q same apart i j on_p on_q order =
    up p q es
    (record {
      is_first = i;
      is_second = j;
      column =
          ap (λ z. z *ℤ pos q.d) (sym (column-of f p same on_p))
          ∙ swapped f.a.x (pos p.d) (pos q.d)
          ∙ ap (λ z. z *ℤ pos p.d) (column-of f q same on_q);
      rises = order;
    })
    (each-map (λ e. AreApart e f) (IsClearUp p q) es (λ e a r k column low high on. a r k on (on_upright f p q r same i j on_p on_q column low high)) apart)

pub edge_has_one_parity : EdgeHasOneParity
edge_has_one_parity es f p q closed apart i j on_p on_q =
    by_lt_z f.a.x f.b.x
    (λ l. slanted es f.a f.b p q closed l apart i j on_p on_q)
    (λ m.
    by_lt_z f.b.x f.a.x
    (λ l.
    slanted es f.b f.a p q closed l
    (each-map (λ e. AreApart e f) (λ e. AreApart e (edge_between f.b f.a)) es (λ e a r k on on_f. a r k on (on_edge-swap f.a f.b r ∙ on_f)) apart)
    i j (on_edge-swap f.b f.a p ∙ on_p) (on_edge-swap f.b f.a q ∙ on_q))
    (λ n.
    let same : f.a.x ≡ f.b.x = equal f.a.x f.b.x n m in
    by_lt_z (q.y *ℤ pos p.d) (p.y *ℤ pos q.d)
    (λ k. sym (upward es f q p same apart j i on_q on_p (weak (q.y *ℤ pos p.d) (p.y *ℤ pos q.d) k)))
    (λ k. upward es f p q same apart i j on_p on_q k)))
  where
    equal : (m n : ℤ) → m ≤ℤ n → n ≤ℤ m → m ≡ n
    equal m n f g = omega (arith, ints)

pub chain_has_one_parity : ChainHasOneParity
chain_has_one_parity es [] a b closed apart chain = ap (λ c. parity es (grid_point c)) chain
chain_has_one_parity es (f ∷ fs) a b closed apart chain =
    ap (λ c. parity es (grid_point c)) (sym chain.0)
    ∙ edge_has_one_parity es f (grid_point f.a) (grid_point f.b) closed apart.0 (is_grid f.a) (is_grid f.b) (start_on_edge f.a f.b) (end_on_edge f.a f.b)
    ∙ chain_has_one_parity es fs f.b b closed apart.1 chain.1

-- ---- a box
-- the points as high as p
abbrev as_high : Point → Form
as_high p = record { x = pos 0; y = pos p.d; d = pos 0 -ℤ p.y }

-- the point in the column of q as high as p
abbrev corner : Point → Point → Point
corner p q = point_at (x_of q) (y_of p)

corner-point : (p q : Point) → IsPoint p → IsPoint q → IsPoint (corner p q)
corner-point p q i j = record { positive = product_pos q.d p.d j.positive i.positive }

in_parts : (box : Box) (p : Point) → in_box box p ≡ true → IsFromTo box.min_x box.max_x (x_of p) × IsFromTo box.min_y box.max_y (y_of p)
in_parts box p h =
    let parts = and_parts (within box.min_x box.max_x (x_of p)) (within box.min_y box.max_y (y_of p)) h in (
      from_to box.min_x box.max_x (x_of p) parts.0,
      from_to box.min_y box.max_y (y_of p) parts.1,
    )

in_from : (box : Box) (p : Point) → IsFromTo box.min_x box.max_x (x_of p) → IsFromTo box.min_y box.max_y (y_of p) → in_box box p ≡ true
in_from box p h k = and_from _ _ (within_from_to box.min_x box.max_x (x_of p) h) (within_from_to box.min_y box.max_y (y_of p) k)

corner-in : (box : Box) (p q : Point) → IsPoint p → IsPoint q → in_box box p ≡ true → in_box box q ≡ true → in_box box (corner p q) ≡ true
corner-in box p q i j h k =
    let first = and_parts (within box.min_x box.max_x (x_of p)) (within box.min_y box.max_y (y_of p)) h in
    let second = and_parts (within box.min_x box.max_x (x_of q)) (within box.min_y box.max_y (y_of q)) k in
    let c = corner-point p q i j in
    and_from _ _
    (within-same box.min_x box.max_x (x_of (corner p q)) (x_of q) (x_number (corner p q) c) (x_number q j)
    (ring (q.x ∷ pos p.d ∷ pos q.d ∷ []) (mul (mul (var 0) (var 1)) (var 2)) (mul (var 0) (mul (var 2) (var 1))) refl) ∙ second.0)
    (within-same box.min_y box.max_y (y_of (corner p q)) (y_of p) (y_number (corner p q) c) (y_number p i)
    (ring (p.y ∷ pos q.d ∷ pos p.d ∷ []) (mul (mul (var 0) (var 1)) (var 2)) (mul (var 0) (mul (var 1) (var 2))) refl) ∙ first.1)

-- along the box
level : (es : List Line) (box : Box) (p q : Point) → IsClosedChain es → AllByRecursion (IsOffBox box) es → IsPoint p → IsPoint q → in_box box p ≡ true → in_box box q ≡ true →
    value (as_high p) p ≡ pos 0 → value (as_high p) q ≡ pos 0 → (p.x *ℤ pos q.d) ≤ℤ (q.x *ℤ pos p.d) → parity es p ≡ parity es q
level es box p q closed off i j in_p in_q at_p at_q order =
    across (as_high p) p q es closed (record { rises = positive p.d i.positive; is_first = i; is_second = j; first = at_p; second = at_q; forth = order })
    (each-map (IsOffBox box) (IsClear (as_high p) p q) es
    (λ e o r k zero c on.
    let a = in_parts box p in_p in
    let b = in_parts box q in_q in
    o r k
    (in_from box r (between_kept box.min_x box.max_x (x_of p) (x_of q) (x_of r) (x_number p i) (x_number q j) a.0 b.0 c.from c.to)
    (between_kept box.min_y box.max_y (y_of p) (y_of p) (y_of r) (y_number p i) (y_number p i) a.1 a.1 (above (p.y *ℤ pos r.d) (r.y *ℤ pos p.d) (same_height r zero)) (below (p.y *ℤ pos r.d) (r.y *ℤ pos p.d) (same_height r zero))))
    on)
    off)
  where
    positive : (d : ℕ) → 0 < d → pos 0 <ℤ pos d
    positive d h = omega (arith, ints)

    above : (a b : ℤ) → b ≡ a → a ≤ℤ b
    above a b e = omega (arith, ints)

    below : (a b : ℤ) → b ≡ a → b ≤ℤ a
    below a b e = omega (arith, ints)

    same_height : (r : Point) → value (as_high p) r ≡ pos 0 → r.y *ℤ pos p.d ≡ p.y *ℤ pos r.d
    same_height r zero =
        ring (r.x ∷ r.y ∷ pos r.d ∷ p.y ∷ pos p.d ∷ [])
        (mul (var 1) (var 4))
        (sum (sum (sum (mul (num (pos 0)) (var 0)) (mul (var 4) (var 1))) (mul (dif (num (pos 0)) (var 3)) (var 2))) (mul (var 3) (var 2)))
        refl
        ∙ ap (λ z. z +ℤ p.y *ℤ pos r.d) zero
        ∙ nothing (p.y *ℤ pos r.d)
      where
        nothing : (z : ℤ) → pos 0 +ℤ z ≡ z
        nothing z = omega (arith, ints)

-- up the box
upright_box : (es : List Line) (box : Box) (p q : Point) → AllByRecursion (IsOffBox box) es → IsPoint p → IsPoint q → in_box box p ≡ true → in_box box q ≡ true →
    p.x *ℤ pos q.d ≡ q.x *ℤ pos p.d → (p.y *ℤ pos q.d) ≤ℤ (q.y *ℤ pos p.d) → parity es p ≡ parity es q
upright_box es box p q off i j in_p in_q column order =
    up p q es (record { is_first = i; is_second = j; column = column; rises = order })
    (each-map (IsOffBox box) (IsClearUp p q) es
    (λ e o r k same low high on.
    let a = in_parts box p in_p in
    let b = in_parts box q in_q in
    o r k
    (in_from box r (between_kept box.min_x box.max_x (x_of p) (x_of p) (x_of r) (x_number p i) (x_number p i) a.0 a.0 (above (p.x *ℤ pos r.d) (r.x *ℤ pos p.d) same) (below (p.x *ℤ pos r.d) (r.x *ℤ pos p.d) same))
    (between_kept box.min_y box.max_y (y_of p) (y_of q) (y_of r) (y_number p i) (y_number q j) a.1 b.1 low high))
    on)
    off)
  where
    above : (a b : ℤ) → b ≡ a → a ≤ℤ b
    above a b e = omega (arith, ints)

    below : (a b : ℤ) → b ≡ a → b ≤ℤ a
    below a b e = omega (arith, ints)

pub box_has_one_parity : BoxHasOneParity
box_has_one_parity es box p q closed off i j in_p in_q =
    let is_c = corner-point p q i j in
    let in_c = corner-in box p q i j in_p in_q in
    along is_c in_c ∙ upward_box is_c in_c
  where
    at_first : value (as_high p) p ≡ pos 0
    at_first = ring (p.x ∷ p.y ∷ pos p.d ∷ []) (sum (sum (mul (num (pos 0)) (var 0)) (mul (var 2) (var 1))) (mul (dif (num (pos 0)) (var 1)) (var 2))) (num (pos 0)) refl

    at_corner : value (as_high p) (corner p q) ≡ pos 0
    at_corner =
        ring (q.x ∷ p.y ∷ pos p.d ∷ pos q.d ∷ [])
        (sum (sum (mul (num (pos 0)) (mul (var 0) (var 2))) (mul (var 2) (mul (var 1) (var 3)))) (mul (dif (num (pos 0)) (var 1)) (mul (var 3) (var 2)))) (num (pos 0)) refl

    from_corner_at_first : value (as_high (corner p q)) p ≡ pos 0
    from_corner_at_first =
        ring (p.x ∷ p.y ∷ pos p.d ∷ pos q.d ∷ [])
        (sum (sum (mul (num (pos 0)) (var 0)) (mul (mul (var 3) (var 2)) (var 1))) (mul (dif (num (pos 0)) (mul (var 1) (var 3))) (var 2))) (num (pos 0)) refl

    from_corner_at_corner : value (as_high (corner p q)) (corner p q) ≡ pos 0
    from_corner_at_corner =
        ring (q.x ∷ p.y ∷ pos p.d ∷ pos q.d ∷ [])
        (sum (sum (mul (num (pos 0)) (mul (var 0) (var 2))) (mul (mul (var 3) (var 2)) (mul (var 1) (var 3)))) (mul (dif (num (pos 0)) (mul (var 1) (var 3))) (mul (var 3) (var 2)))) (num (pos 0)) refl

    along : IsPoint (corner p q) → in_box box (corner p q) ≡ true → parity es p ≡ parity es (corner p q)
    along is_c in_c =
        by_lt_z ((corner p q).x *ℤ pos p.d) (p.x *ℤ pos (corner p q).d)
        (λ k. sym (level es box (corner p q) p closed off is_c i in_c in_p from_corner_at_corner from_corner_at_first (weak ((corner p q).x *ℤ pos p.d) (p.x *ℤ pos (corner p q).d) k)))
        (λ k. level es box p (corner p q) closed off i is_c in_p in_c at_first at_corner k)

    upward_box : IsPoint (corner p q) → in_box box (corner p q) ≡ true → parity es (corner p q) ≡ parity es q
    upward_box is_c in_c =
        let column : (corner p q).x *ℤ pos q.d ≡ q.x *ℤ pos (corner p q).d =
        ring (q.x ∷ pos p.d ∷ pos q.d ∷ []) (mul (mul (var 0) (var 1)) (var 2)) (mul (var 0) (mul (var 2) (var 1))) refl in
        by_lt_z (q.y *ℤ pos (corner p q).d) ((corner p q).y *ℤ pos q.d)
        (λ k. sym (upright_box es box q (corner p q) off j is_c in_q in_c (sym column) (weak (q.y *ℤ pos (corner p q).d) ((corner p q).y *ℤ pos q.d) k)))
        (λ k. upright_box es box (corner p q) q off is_c j in_c in_q column k)
