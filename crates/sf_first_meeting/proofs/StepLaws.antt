-- From one vertex to the next one.
use Rattle.std.proofs.Common.{◌≡◌, ◌≢◌, ℕ, ◌+◌, refl, ap, sym, ◌∙◌, ℤ, pos, ◌+ℤ◌, ◌-ℤ◌, ◌*ℤ◌, ◌≤ℤ◌, ◌<ℤ◌, ◌<◌, arith, List, [], ◌∷◌, ◌++◌, inl, inr, ◌⊎◌, length, subst}
use Rattle.std.specs.Ordering.{int_cmp}
use Rattle.std.specs.declared.cmp.Ordering.{Ordering}
use Rattle.std.specs.declared.cmp.Ordering.TheVariants.{Equal, Greater, Less}
use Rattle.std.proofs.lemmas.Int.{ints, by_lt_z}
use Rattle.sf_grid.specs.Fraction.{Fraction, IsFraction, whole}
use Rattle.sf_grid.specs.Plane.{Coordinates, IsPoint, Point, grid_point, x_of}
use Rattle.sf_grid.specs.Edge.{Edge, IsOnEdge, cross, height_at, height_cmp}
use Rattle.sf_grid.specs.Laws.{HasHeight}
use Rattle.sf_grid.specs.Sharing.{IsOnBoth}
use Rattle.sf_grid.proofs.CallerLemmas.{dif, heights_are_ordered, lies, mul, mul_le, mul_lt, mul_nonneg-nonneg, mul_pos, mul_pos-pos, lt_from_mul, le_from_mul, pos_from_mul, ring, sum, var, zero_from_mul}
use Rattle.sf_grid.proofs.BetweenLaws.{reach}
use Rattle.sf_grid.proofs.OrderLaws.{less_is}
use Rattle.sf_grid.proofs.MeanLaws.{cross-end, cross-start}
use Rattle.sf_grid.proofs.Ring.{num}
use Rattle.sf_first_meeting.specs.Sheared.{place, rising, sheared}
use Rattle.sf_first_meeting.specs.Orders.{Among, AtFirst, AtLast, IsBelow, IsEnd, IsWithin, Linked, Seam, ShareEnds}
use Rattle.sf_first_meeting.specs.Sweeps.{AreFanned, ArePlain, Event, IsOver, IsUnder, Stands}
use Rattle.sf_first_meeting.proofs.SideLaws.{AtPlace, left-is, lower-over, lower-shares_none, lower-under, over-lower, reached, right-is, slants, under-lower}
use Rattle.sf_first_meeting.proofs.BelowLaws.{GoOn, below-at, below-fan, below-later, whole-within}
use Rattle.sf_first_meeting.proofs.OrderLaws.{IsHandedOn, across, among-cases, among-left, among-right, back-from_last, linked-first, linked-join, linked-map, linked-second, on-from_first, seam-map, two-of}

-- ---- small facts on numbers
le_lt : (a b c : ℤ) → a ≤ℤ b → b <ℤ c → a <ℤ c
le_lt a b c h k = omega (arith, ints)

lt_le : (a b c : ℤ) → a <ℤ b → b ≤ℤ c → a <ℤ c
lt_le a b c h k = omega (arith, ints)

weak : (a b : ℤ) → a <ℤ b → a ≤ℤ b
weak a b h = omega (arith, ints)

same_le : (a b : ℤ) → a ≡ b → a ≤ℤ b
same_le a b h = omega (arith, ints)

both_ways : (a b : ℤ) → a ≤ℤ b → b ≤ℤ a → a ≡ b
both_ways a b h k = omega (arith, ints)

clash : (a b : ℤ) → a <ℤ b → b ≤ℤ a → ⊥
clash a b h k = omega (arith, ints)

-- ---- two edges in strict order at a place
pub record IsLow (e f : Edge) (z : Fraction) : Type 0 where
  pub first_rises : e.a.x <ℤ e.b.x
  pub second_rises : f.a.x <ℤ f.b.x
  pub first : HasHeight e z
  pub second : HasHeight f z
  pub lower : height_cmp e f z ≡ Less

less_not_greater : (o : Ordering) → o ≡ Less → o ≢ Greater
less_not_greater o h k = cc

low-on : (ps : List Coordinates) (z : Fraction) → IsFraction z → IsHandedOn (λ i j. IsLow (rising ps i) (rising ps j) z)
low-on ps z q i j k g h =
    record {
      first_rises = g.first_rises;
      second_rises = h.second_rises;
      first = g.first;
      second = h.second;
      lower =
          (heights_are_ordered z q).strict_first (rising ps i) (rising ps j) (rising ps k) g.first g.second h.second g.lower
          (less_not_greater (height_cmp (rising ps j) (rising ps k) z) h.lower);
    }

low-itself : (e : Edge) (z : Fraction) → IsLow e e z → ⊥
low-itself e z l =
    let a = (height_at e z).num *ℤ pos (height_at e z).den in
    clash a a (less_is a a l.lower) (same_le a a refl)

low-from_below : (e f : Edge) (x : ℤ) (z : Fraction) → IsBelow e f x → IsWithin x e.b.x z → IsWithin x f.b.x z → IsLow e f z
low-from_below e f x z b v w =
    let first = le_lt e.a.x x e.b.x b.first_begun b.first_goes in
    let second = le_lt f.a.x x f.b.x b.second_begun b.second_goes in
    record {
      first_rises = first;
      second_rises = second;
      first =
          record {
            slants = slants e first;
            reached = reached e z first (weak _ _ (le_lt _ (x *ℤ pos z.den) _ (mul_le e.a.x x z.den b.first_begun) v.past)) (weak _ _ v.before);
          };
      second =
          record {
            slants = slants f second;
            reached = reached f z second (weak _ _ (le_lt _ (x *ℤ pos z.den) _ (mul_le f.a.x x z.den b.second_begun) w.past)) (weak _ _ w.before);
          };
      lower = b.lower z v w;
    }

-- ---- no two edges of an order share a point where all of them go on
apart-in : (ps : List Coordinates) (x : ℤ) (xs : List ℕ) (p : Point) → IsPoint p → Linked (λ i j. IsBelow (rising ps i) (rising ps j) x) xs →
    ((i : ℕ) → Among i xs → IsWithin x (rising ps i).b.x (x_of p)) → (i j : ℕ) → Among i xs → Among j xs → i ≢ j → IsOnBoth (rising ps i) (rising ps j) p → ⊥
apart-in ps x xs p is order within i j a b n on =
    by
    (two-of (λ i j. IsLow (rising ps i) (rising ps j) (x_of p)) (low-on ps (x_of p) (record { positive = is.positive })) xs
    (linked-map (λ i j. IsBelow (rising ps i) (rising ps j) x) (λ i j. IsLow (rising ps i) (rising ps j) (x_of p)) xs
    (λ k l c d r. low-from_below (rising ps k) (rising ps l) x (x_of p) r (within k c) (within l d)) order)
    i j a b n)
  where
    by : IsLow (rising ps i) (rising ps j) (x_of p) ⊎ IsLow (rising ps j) (rising ps i) (x_of p) → ⊥
    by (inl l) = lower-shares_none (rising ps i) (rising ps j) p (record { first = l.first_rises; second = l.second_rises; is = is }) l.lower on
    by (inr l) = lower-shares_none (rising ps j) (rising ps i) p (record { first = l.first_rises; second = l.second_rises; is = is }) l.lower (on.1, on.0)

-- ---- the place half-way
abbrev half : ℤ → ℤ → Fraction
half x y = record { num = x +ℤ y; den = 2 }

half-within : (x y r : ℤ) → x <ℤ y → y ≤ℤ r → IsWithin x r (half x y)
half-within x y r h k = record { is = record { positive = omega arith }; past = omega (arith, ints); before = omega (arith, ints) }

-- what is known at a vertex
pub record At (ps : List Coordinates) (x : ℤ) (at : Coordinates) (below ending beginning above : List ℕ) : Type 0 where
  pub stands : Stands ps (below ++ (ending ++ above)) x
  pub event : Event ps x at below ending beginning above

-- an edge goes on behind the vertex, and did so before
pub record Goes (ps : List Coordinates) (x : ℤ) (at : Coordinates) (i : ℕ) : Type 0 where
  pub in_range : i + 1 < length ps
  pub begun : (rising ps i).a.x ≤ℤ x
  pub goes : place at <ℤ (rising ps i).b.x

low-mid : (ps : List Coordinates) (x : ℤ) (at : Coordinates) (b e g a : List ℕ) → At ps x at b e g a →
    Linked (λ i j. IsLow (rising ps i) (rising ps j) (half x (place at))) (b ++ (e ++ a))
low-mid ps x at b e g a t =
    linked-map (λ i j. IsBelow (rising ps i) (rising ps j) x) (λ i j. IsLow (rising ps i) (rising ps j) (half x (place at))) (b ++ (e ++ a))
    (λ i j m n r. low-from_below (rising ps i) (rising ps j) x (half x (place at)) r (within i m) (within j n)) t.stands.order
  where
    within : (i : ℕ) → Among i (b ++ (e ++ a)) → IsWithin x (rising ps i).b.x (half x (place at))
    within i m =
        let go = t.stands.going i m in
        half-within x (place at) (rising ps i).b.x t.event.ahead (t.event.next_end i go.0 go.2)

on-mid : (ps : List Coordinates) (x : ℤ) (at : Coordinates) → IsHandedOn (λ i j. IsLow (rising ps i) (rising ps j) (half x (place at)))
on-mid ps x at = low-on ps (half x (place at)) (record { positive = omega arith })

goes-from : (ps : List Coordinates) (x : ℤ) (at : Coordinates) (b e g a : List ℕ) → At ps x at b e g a → (i : ℕ) → Among i (b ++ (e ++ a)) → (Among i e → ⊥) → Goes ps x at i
goes-from ps x at b e g a t i m n =
    let go = t.stands.going i m in
    record {
      in_range = go.0;
      begun = go.1;
      goes =
          by_lt_z (place at) (rising ps i).b.x (λ l. l)
          (λ l. absurd (n (t.event.ending_all i go.0 (both_ways _ _ l (t.event.next_end i go.0 go.2)))));
    }

pub goes-below : (ps : List Coordinates) (x : ℤ) (at : Coordinates) (b e g a : List ℕ) → At ps x at b e g a → (i : ℕ) → Among i b → Goes ps x at i
goes-below ps x at b e g a t i m =
    goes-from ps x at b e g a t i (among-left i b (e ++ a) m)
    (λ n. low-itself (rising ps i) (half x (place at))
    (across (λ i j. IsLow (rising ps i) (rising ps j) (half x (place at))) (on-mid ps x at) b (e ++ a) (low-mid ps x at b e g a t) i i m (among-left i e a n)))

pub goes-above : (ps : List Coordinates) (x : ℤ) (at : Coordinates) (b e g a : List ℕ) → At ps x at b e g a → (i : ℕ) → Among i a → Goes ps x at i
goes-above ps x at b e g a t i m =
    goes-from ps x at b e g a t i (among-right i b (e ++ a) (among-right i e a m))
    (λ n. low-itself (rising ps i) (half x (place at))
    (across (λ i j. IsLow (rising ps i) (rising ps j) (half x (place at))) (on-mid ps x at) e a
    (linked-second (λ i j. IsLow (rising ps i) (rising ps j) (half x (place at))) b (e ++ a) (low-mid ps x at b e g a t)) i i n m))

-- ---- the sides of the vertex
low-at : (ps : List Coordinates) (x : ℤ) (at : Coordinates) (xs : List ℕ) → x <ℤ place at → ((i : ℕ) → Among i xs → Goes ps x at i) →
    Linked (λ i j. IsBelow (rising ps i) (rising ps j) x) xs → Linked (λ i j. IsLow (rising ps i) (rising ps j) (whole (place at))) xs
low-at ps x at xs h go order =
    linked-map (λ i j. IsBelow (rising ps i) (rising ps j) x) (λ i j. IsLow (rising ps i) (rising ps j) (whole (place at))) xs
    (λ i j m n r. low-from_below (rising ps i) (rising ps j) x (whole (place at)) r
    (whole-within x (place at) (rising ps i).b.x h (go i m).goes) (whole-within x (place at) (rising ps j).b.x h (go j n).goes)) order

at-place : (e f : Edge) (at : Coordinates) → IsLow e f (whole (place at)) → AtPlace e f (grid_point (sheared at))
at-place e f at l = record { first = l.first_rises; second = l.second_rises; is = record { positive = omega arith } }

order-below : (ps : List Coordinates) (x : ℤ) (at : Coordinates) (b e g a : List ℕ) → At ps x at b e g a → Linked (λ i j. IsBelow (rising ps i) (rising ps j) x) b
order-below ps x at b e g a t = linked-first (λ i j. IsBelow (rising ps i) (rising ps j) x) b (e ++ a) t.stands.order

order-above : (ps : List Coordinates) (x : ℤ) (at : Coordinates) (b e g a : List ℕ) → At ps x at b e g a → Linked (λ i j. IsBelow (rising ps i) (rising ps j) x) a
order-above ps x at b e g a t =
    linked-second (λ i j. IsBelow (rising ps i) (rising ps j) x) e a (linked-second (λ i j. IsBelow (rising ps i) (rising ps j) x) b (e ++ a) t.stands.order)

pub all-under : (ps : List Coordinates) (x : ℤ) (at : Coordinates) (b e g a : List ℕ) → At ps x at b e g a → (i : ℕ) → Among i b → IsUnder ps at i
all-under ps x at b e g a t =
    back-from_last (λ i j. IsLow (rising ps i) (rising ps j) (whole (place at))) (IsUnder ps at)
    (λ i j l u. over-lower (rising ps i) (rising ps j) (grid_point (sheared at)) (at-place (rising ps i) (rising ps j) at l) l.lower (weak _ _ u))
    b (low-at ps x at b t.event.ahead (goes-below ps x at b e g a t) (order-below ps x at b e g a t)) t.event.under

pub all-over : (ps : List Coordinates) (x : ℤ) (at : Coordinates) (b e g a : List ℕ) → At ps x at b e g a → (i : ℕ) → Among i a → IsOver ps at i
all-over ps x at b e g a t =
    on-from_first (λ i j. IsLow (rising ps i) (rising ps j) (whole (place at))) (IsOver ps at)
    (λ i j l u. under-lower (rising ps i) (rising ps j) (grid_point (sheared at)) (at-place (rising ps i) (rising ps j) at l) l.lower (weak _ _ u))
    a (low-at ps x at a t.event.ahead (goes-above ps x at b e g a t) (order-above ps x at b e g a t)) t.event.over

-- ---- the new order
-- an edge goes on behind the vertex, which is not above it
record Next (ps : List Coordinates) (at : Coordinates) (i : ℕ) : Type 0 where
  in_range : i + 1 < length ps
  begun : (rising ps i).a.x ≤ℤ place at
  goes : place at <ℤ (rising ps i).b.x
  side : cross (rising ps i).a (rising ps i).b (grid_point (sheared at)) ≤ℤ pos 0

begins-at : (ps : List Coordinates) (at : Coordinates) (i : ℕ) → (rising ps i).a ≡ sheared at → (rising ps i).a.x ≡ place at
begins-at ps at i e = ap (λ (c : Coordinates). c.x) e

begins-on : (ps : List Coordinates) (at : Coordinates) (i : ℕ) → (rising ps i).a ≡ sheared at → cross (rising ps i).a (rising ps i).b (grid_point (sheared at)) ≡ pos 0
begins-on ps at i e = ap (λ (c : Coordinates). cross (rising ps i).a (rising ps i).b (grid_point c)) (sym e) ∙ cross-start (rising ps i).a (rising ps i).b

next-new : (ps : List Coordinates) (x : ℤ) (at : Coordinates) (b e g a : List ℕ) → At ps x at b e g a → (i : ℕ) → Among i g → Next ps at i
next-new ps x at b e g a t i m =
    let is = t.event.beginning_is i m in
    record {
      in_range = is.0;
      begun = same_le _ _ (begins-at ps at i is.1);
      goes = le_lt _ _ _ (same_le _ _ (sym (begins-at ps at i is.1))) (t.event.rises i is.0);
      side = same_le _ _ (begins-on ps at i is.1);
    }

next-above : (ps : List Coordinates) (x : ℤ) (at : Coordinates) (b e g a : List ℕ) → At ps x at b e g a → (i : ℕ) → Among i a → Next ps at i
next-above ps x at b e g a t i m =
    let go = goes-above ps x at b e g a t i m in
    record { in_range = go.in_range; begun = weak _ _ (le_lt _ x _ go.begun t.event.ahead); goes = go.goes; side = weak _ _ (all-over ps x at b e g a t i m) }

next-either : (ps : List Coordinates) (x : ℤ) (at : Coordinates) (b e g a : List ℕ) → At ps x at b e g a → (i : ℕ) → Among i g ⊎ Among i a → Next ps at i
next-either ps x at b e g a t i (inl m) = next-new ps x at b e g a t i m
next-either ps x at b e g a t i (inr m) = next-above ps x at b e g a t i m

pair-at : (ps : List Coordinates) (at : Coordinates) (i j : ℕ) → i + 1 < length ps → place at <ℤ (rising ps i).b.x → (rising ps i).a.x ≤ℤ place at → Next ps at j → AtPlace (rising ps i) (rising ps j) (grid_point (sheared at))
pair-at ps at i j r h k n = record { first = le_lt _ (place at) _ k h; second = le_lt _ (place at) _ n.begun n.goes; is = record { positive = omega arith } }

lower-seam : (ps : List Coordinates) (x : ℤ) (at : Coordinates) (b e g a : List ℕ) → At ps x at b e g a →
    Seam (λ i j. IsBelow (rising ps i) (rising ps j) (place at)) b (g ++ a)
lower-seam ps x at b e g a t =
    seam-map (ArePlain ps) (λ i j. IsBelow (rising ps i) (rising ps j) (place at)) b (g ++ a)
    (λ i j m n plain.
    let go = goes-below ps x at b e g a t i m in
    let next = next-either ps x at b e g a t j (among-cases j g a n) in
    let begun = weak _ _ (le_lt _ x _ go.begun t.event.ahead) in
    below-at (rising ps i) (rising ps j) (place at) (record { first_begun = begun; second_begun = next.begun; first_goes = go.goes; second_goes = next.goes }) plain
    (lower-over (rising ps i) (rising ps j) (grid_point (sheared at)) (pair-at ps at i j go.in_range go.goes begun next) (all-under ps x at b e g a t i m) next.side))
    t.event.lower_seam

upper-seam : (ps : List Coordinates) (x : ℤ) (at : Coordinates) (b e g a : List ℕ) → At ps x at b e g a →
    Seam (λ i j. IsBelow (rising ps i) (rising ps j) (place at)) g a
upper-seam ps x at b e g a t =
    seam-map (ArePlain ps) (λ i j. IsBelow (rising ps i) (rising ps j) (place at)) g a
    (λ i j m n plain.
    let new = next-new ps x at b e g a t i m in
    let next = next-above ps x at b e g a t j n in
    below-at (rising ps i) (rising ps j) (place at) (record { first_begun = new.begun; second_begun = next.begun; first_goes = new.goes; second_goes = next.goes }) plain
    (lower-under (rising ps i) (rising ps j) (grid_point (sheared at)) (pair-at ps at i j new.in_range new.goes new.begun next)
    (same_le _ _ (sym (begins-on ps at i (t.event.beginning_is i m).1))) (all-over ps x at b e g a t j n)))
    t.event.upper_seam

later : (ps : List Coordinates) (x : ℤ) (at : Coordinates) (xs : List ℕ) → x <ℤ place at → ((i : ℕ) → Among i xs → Goes ps x at i) →
    Linked (λ i j. IsBelow (rising ps i) (rising ps j) x) xs → Linked (λ i j. IsBelow (rising ps i) (rising ps j) (place at)) xs
later ps x at xs h go order =
    linked-map (λ i j. IsBelow (rising ps i) (rising ps j) x) (λ i j. IsBelow (rising ps i) (rising ps j) (place at)) xs
    (λ i j m n r. below-later (rising ps i) (rising ps j) x (place at) r (weak _ _ h) (go i m).goes (go j n).goes) order

fanned : (ps : List Coordinates) (x : ℤ) (at : Coordinates) (b e g a : List ℕ) → At ps x at b e g a → Linked (λ i j. IsBelow (rising ps i) (rising ps j) (place at)) g
fanned ps x at b e g a t =
    linked-map (AreFanned ps) (λ i j. IsBelow (rising ps i) (rising ps j) (place at)) g
    (λ i j m n fan.
    let first = next-new ps x at b e g a t i m in
    let second = next-new ps x at b e g a t j n in
    below-fan (rising ps i) (rising ps j) (place at) ((t.event.beginning_is i m).1 ∙ sym (t.event.beginning_is j n).1)
    (record { first_begun = first.begun; second_begun = second.begun; first_goes = first.goes; second_goes = second.goes })
    (begins-at ps at i (t.event.beginning_is i m).1) fan.0 fan.1)
    t.event.fan

new-order : (ps : List Coordinates) (x : ℤ) (at : Coordinates) (b e g a : List ℕ) → At ps x at b e g a → Linked (λ i j. IsBelow (rising ps i) (rising ps j) (place at)) (b ++ (g ++ a))
new-order ps x at b e g a t =
    linked-join (λ i j. IsBelow (rising ps i) (rising ps j) (place at)) b (g ++ a)
    (later ps x at b t.event.ahead (goes-below ps x at b e g a t) (order-below ps x at b e g a t))
    (linked-join (λ i j. IsBelow (rising ps i) (rising ps j) (place at)) g a (fanned ps x at b e g a t)
    (later ps x at a t.event.ahead (goes-above ps x at b e g a t) (order-above ps x at b e g a t))
    (upper-seam ps x at b e g a t))
    (lower-seam ps x at b e g a t)

-- ---- which edges go on
new-going : (ps : List Coordinates) (x : ℤ) (at : Coordinates) (b e g a : List ℕ) → At ps x at b e g a → (i : ℕ) → Among i (b ++ (g ++ a)) →
    (i + 1 < length ps) × ((rising ps i).a.x ≤ℤ place at) × (place at <ℤ (rising ps i).b.x)
new-going ps x at b e g a t i m = by (among-cases i b (g ++ a) m)
  where
    old : Goes ps x at i → (i + 1 < length ps) × ((rising ps i).a.x ≤ℤ place at) × (place at <ℤ (rising ps i).b.x)
    old go = (go.in_range, weak _ _ (le_lt _ x _ go.begun t.event.ahead), go.goes)

    next : Next ps at i → (i + 1 < length ps) × ((rising ps i).a.x ≤ℤ place at) × (place at <ℤ (rising ps i).b.x)
    next n = (n.in_range, n.begun, n.goes)

    by : Among i b ⊎ Among i (g ++ a) → (i + 1 < length ps) × ((rising ps i).a.x ≤ℤ place at) × (place at <ℤ (rising ps i).b.x)
    by (inl k) = old (goes-below ps x at b e g a t i k)
    by (inr k) = next (next-either ps x at b e g a t i (among-cases i g a k))

-- an edge that begins before the vertex did so by the place before
begun-before : (ps : List Coordinates) (x : ℤ) (at : Coordinates) (b e g a : List ℕ) → At ps x at b e g a → (i : ℕ) → i + 1 < length ps → (rising ps i).a.x <ℤ place at → (rising ps i).a.x ≤ℤ x
begun-before ps x at b e g a t i r h = by_lt_z x (rising ps i).a.x (λ l. absurd (clash _ _ h (t.event.next_begin i r l))) (λ l. l)

-- where an edge that reaches the vertex's place is
pub data Part (i : ℕ) (b e g a : List ℕ) : Type 0 where
  in_below : Among i b → Part i b e g a
  in_ending : Among i e → Part i b e g a
  in_beginning : Among i g → Part i b e g a
  in_above : Among i a → Part i b e g a

part-of : (ps : List Coordinates) (x : ℤ) (at : Coordinates) (b e g a : List ℕ) → At ps x at b e g a → (i : ℕ) → i + 1 < length ps →
    (rising ps i).a.x ≤ℤ place at → place at ≤ℤ (rising ps i).b.x → Part i b e g a
part-of ps x at b e g a t i r h k =
    by_lt_z (rising ps i).a.x (place at)
    (λ l. old (among-cases i b (e ++ a) (t.stands.all i r (begun-before ps x at b e g a t i r l) (lt_le _ _ _ t.event.ahead k))))
    (λ l. in_beginning (t.event.beginning_all i r (both_ways _ _ h l)))
  where
    behind : Among i e ⊎ Among i a → Part i b e g a
    behind (inl m) = in_ending m
    behind (inr m) = in_above m

    old : Among i b ⊎ Among i (e ++ a) → Part i b e g a
    old (inl m) = in_below m
    old (inr m) = behind (among-cases i e a m)

ends-at : (ps : List Coordinates) (at : Coordinates) (i : ℕ) → (rising ps i).b ≡ sheared at → (rising ps i).b.x ≡ place at
ends-at ps at i e = ap (λ (c : Coordinates). c.x) e

new-all : (ps : List Coordinates) (x : ℤ) (at : Coordinates) (b e g a : List ℕ) → At ps x at b e g a → (i : ℕ) → i + 1 < length ps →
    (rising ps i).a.x ≤ℤ place at → place at <ℤ (rising ps i).b.x → Among i (b ++ (g ++ a))
new-all ps x at b e g a t i r h k = by (part-of ps x at b e g a t i r h (weak _ _ k))
  where
    by : Part i b e g a → Among i (b ++ (g ++ a))
    by (in_below m) = among-left i b (g ++ a) m
    by (in_ending m) = absurd (clash _ _ k (same_le _ _ (ends-at ps at i (t.event.ending_is i m))))
    by (in_beginning m) = among-right i b (g ++ a) (among-left i g a m)
    by (in_above m) = among-right i b (g ++ a) (among-right i g a m)

-- ---- a point of an edge at the place of the vertex
side-and_height : (e : Edge) (c : Coordinates) (q : Point) → q.x ≡ c.x *ℤ pos q.d →
    cross e.a e.b (grid_point c) *ℤ pos q.d -ℤ cross e.a e.b q ≡ (e.b.x -ℤ e.a.x) *ℤ (c.y *ℤ pos q.d -ℤ q.y)
side-and_height e c q h =
    ring (e.a.x ∷ e.a.y ∷ e.b.x ∷ e.b.y ∷ c.x ∷ c.y ∷ q.x ∷ q.y ∷ pos q.d ∷ [])
    (dif
    (mul (dif (mul (dif (var 2) (var 0)) (dif (var 5) (mul (var 1) (num (pos 1))))) (mul (dif (var 3) (var 1)) (dif (var 4) (mul (var 0) (num (pos 1)))))) (var 8))
    (dif (mul (dif (var 2) (var 0)) (dif (var 7) (mul (var 1) (var 8)))) (mul (dif (var 3) (var 1)) (dif (var 6) (mul (var 0) (var 8))))))
    (sum (mul (dif (var 2) (var 0)) (dif (mul (var 5) (var 8)) (var 7))) (mul (dif (var 3) (var 1)) (dif (var 6) (mul (var 4) (var 8)))))
    refl
    ∙ ap (λ z. (e.b.x -ℤ e.a.x) *ℤ (c.y *ℤ pos q.d -ℤ q.y) +ℤ (e.b.y -ℤ e.a.y) *ℤ (z -ℤ c.x *ℤ pos q.d)) h
    ∙ ring ((e.b.x -ℤ e.a.x) ∷ (e.b.y -ℤ e.a.y) ∷ c.x ∷ c.y ∷ q.y ∷ pos q.d ∷ [])
    (sum (mul (var 0) (dif (mul (var 3) (var 5)) (var 4))) (mul (var 1) (dif (mul (var 2) (var 5)) (mul (var 2) (var 5)))))
    (mul (var 0) (dif (mul (var 3) (var 5)) (var 4)))
    refl

-- ---- the height of such a point
-- the point is one of an edge, at the place of the vertex
record Meets (e : Edge) (c : Coordinates) (q : Point) : Type 0 where
  rises : e.a.x <ℤ e.b.x
  is : IsPoint q
  on : IsOnEdge e q
  here : q.x ≡ c.x *ℤ pos q.d

run-positive : (a b : ℤ) → a <ℤ b → pos 0 <ℤ (b -ℤ a)
run-positive a b h = omega (arith, ints)

scaled-side : (e : Edge) (c : Coordinates) (q : Point) → Meets e c q → cross e.a e.b (grid_point c) *ℤ pos q.d ≡ (e.b.x -ℤ e.a.x) *ℤ (c.y *ℤ pos q.d -ℤ q.y)
scaled-side e c q m = less _ _ _ (lies e q m.on).line (side-and_height e c q m.here)
  where
    less : (a b r : ℤ) → b ≡ pos 0 → a -ℤ b ≡ r → a ≡ r
    less a b r h k = omega (arith, ints)

height-under : (e : Edge) (c : Coordinates) (q : Point) → Meets e c q → pos 0 <ℤ cross e.a e.b (grid_point c) → q.y <ℤ (c.y *ℤ pos q.d)
height-under e c q m h =
    let k : pos 0 <ℤ (cross e.a e.b (grid_point c) *ℤ pos q.d) = mul_pos (cross e.a e.b (grid_point c)) q.d m.is.positive h in
    let l : pos 0 <ℤ (c.y *ℤ pos q.d -ℤ q.y) = pos_from_mul (e.b.x -ℤ e.a.x) (c.y *ℤ pos q.d -ℤ q.y) (run-positive _ _ m.rises) (moved _ _ (scaled-side e c q m) k) in
    more _ _ l
  where
    moved : (a b : ℤ) → a ≡ b → pos 0 <ℤ a → pos 0 <ℤ b
    moved a b i j = omega (arith, ints)

    more : (a b : ℤ) → pos 0 <ℤ (a -ℤ b) → b <ℤ a
    more a b i = omega (arith, ints)

height-over : (e : Edge) (c : Coordinates) (q : Point) → Meets e c q → cross e.a e.b (grid_point c) <ℤ pos 0 → (c.y *ℤ pos q.d) <ℤ q.y
height-over e c q m h =
    let k : (cross e.a e.b (grid_point c) *ℤ pos q.d) <ℤ (pos 0 *ℤ pos q.d) = mul_lt (cross e.a e.b (grid_point c)) (pos 0) q.d m.is.positive h in
    by_lt_z (c.y *ℤ pos q.d) q.y (λ l. l)
    (λ l. absurd (opposite _ _ (pos q.d) (scaled-side e c q m) k (mul_nonneg-nonneg (e.b.x -ℤ e.a.x) (c.y *ℤ pos q.d -ℤ q.y) (weak _ _ (run-positive _ _ m.rises)) (less _ _ l))))
  where
    opposite : (a b d : ℤ) → a ≡ b → a <ℤ (pos 0 *ℤ d) → pos 0 ≤ℤ b → ⊥
    opposite a b d i j l = omega (arith, ints)

    less : (a b : ℤ) → b ≤ℤ a → pos 0 ≤ℤ (a -ℤ b)
    less a b i = omega (arith, ints)

height-on : (e : Edge) (c : Coordinates) (q : Point) → Meets e c q → cross e.a e.b (grid_point c) ≡ pos 0 → q.y ≡ c.y *ℤ pos q.d
height-on e c q m h =
    same _ _
    (zero_from_mul (e.b.x -ℤ e.a.x) (c.y *ℤ pos q.d -ℤ q.y) (run-positive _ _ m.rises)
    (sym (scaled-side e c q m) ∙ ap (λ z. z *ℤ pos q.d) h ∙ none (pos q.d)))
  where
    same : (a b : ℤ) → a -ℤ b ≡ pos 0 → b ≡ a
    same a b i = omega (arith, ints)

    none : (a : ℤ) → pos 0 *ℤ a ≡ pos 0
    none a = omega (arith, ints)

-- where the point is by the part of its edge
data Side (ps : List Coordinates) (at : Coordinates) (q : Point) (i : ℕ) (b a : List ℕ) : Type 0 where
  lower : Among i b → q.y <ℤ (at.y *ℤ pos q.d) → Side ps at q i b a
  upper : Among i a → (at.y *ℤ pos q.d) <ℤ q.y → Side ps at q i b a
  level : IsEnd (rising ps i) q → q.y ≡ at.y *ℤ pos q.d → Side ps at q i b a

end-on : (e : Edge) (c : Coordinates) → e.b ≡ c → cross e.a e.b (grid_point c) ≡ pos 0
end-on e c h = ap (λ (d : Coordinates). cross e.a e.b (grid_point d)) (sym h) ∙ cross-end e.a e.b

side-of : (ps : List Coordinates) (x : ℤ) (at : Coordinates) (b e g a : List ℕ) (t : At ps x at b e g a) (i : ℕ) (q : Point) → Meets (rising ps i) (sheared at) q → Part i b e g a → Side ps at q i b a
side-of ps x at b e g a t i q m (in_below k) = lower k (height-under (rising ps i) (sheared at) q m (all-under ps x at b e g a t i k))
side-of ps x at b e g a t i q m (in_above k) = upper k (height-over (rising ps i) (sheared at) q m (all-over ps x at b e g a t i k))
side-of ps x at b e g a t i q m (in_ending k) =
    let end = t.event.ending_is i k in
    let y : q.y ≡ at.y *ℤ pos q.d = height-on (rising ps i) (sheared at) q m (end-on (rising ps i) (sheared at) end) in
    level
    (inr (
      m.here ∙ ap (λ (c : Coordinates). c.x *ℤ pos q.d) (sym end),
      y ∙ ap (λ (c : Coordinates). c.y *ℤ pos q.d) (sym end),
    ))
    y
side-of ps x at b e g a t i q m (in_beginning k) =
    let start = (t.event.beginning_is i k).1 in
    let y : q.y ≡ at.y *ℤ pos q.d = height-on (rising ps i) (sheared at) q m (begins-on ps at i start) in
    level
    (inl (
      m.here ∙ ap (λ (c : Coordinates). c.x *ℤ pos q.d) (sym start),
      y ∙ ap (λ (c : Coordinates). c.y *ℤ pos q.d) (sym start),
    ))
    y

-- ---- what an edge reaches
pub reach-rising : (e : Edge) (p : Point) → e.a.x <ℤ e.b.x → IsOnEdge e p → ((e.a.x *ℤ pos p.d) ≤ℤ p.x) × (p.x ≤ℤ (e.b.x *ℤ pos p.d))
reach-rising e p h o =
    let r = reach e (x_of p) (lies e p o).x in
    let P : Coordinates → Type 0 = λ c. (c.x *ℤ pos p.d) ≤ℤ p.x in
    let Q : Coordinates → Type 0 = λ c. p.x ≤ℤ (c.x *ℤ pos p.d) in
    (subst P (left-is e h) r.low, subst Q (right-is e h) r.high)

within-old : (ps : List Coordinates) (x : ℤ) (q : Point) (i : ℕ) → IsPoint q → (x *ℤ pos q.d) <ℤ q.x → q.x <ℤ ((rising ps i).b.x *ℤ pos q.d) → IsWithin x (rising ps i).b.x (x_of q)
within-old ps x q i is h k = record { is = record { positive = is.positive }; past = h; before = k }

-- two edges share a point behind the place before
record Shares (ps : List Coordinates) (x : ℤ) (i j : ℕ) (q : Point) : Type 0 where
  first_in : i + 1 < length ps
  second_in : j + 1 < length ps
  differ : i ≢ j
  is : IsPoint q
  on : IsOnBoth (rising ps i) (rising ps j) q
  past : (x *ℤ pos q.d) <ℤ q.x

-- in the slab before the vertex
old-member : (ps : List Coordinates) (x : ℤ) (at : Coordinates) (b e g a : List ℕ) → At ps x at b e g a → (i : ℕ) (q : Point) → i + 1 < length ps → IsPoint q → IsOnEdge (rising ps i) q →
    (x *ℤ pos q.d) <ℤ q.x → q.x <ℤ (place at *ℤ pos q.d) → Among i (b ++ (e ++ a))
old-member ps x at b e g a t i q r is on h k =
    let reached = reach-rising (rising ps i) q (t.event.rises i r) on in
    t.stands.all i r
    (begun-before ps x at b e g a t i r (lt_from_mul (rising ps i).a.x (place at) q.d (le_lt _ _ _ reached.0 k)))
    (lt_from_mul x (rising ps i).b.x q.d (lt_le _ _ _ h reached.1))

none-in_slab : (ps : List Coordinates) (x : ℤ) (at : Coordinates) (b e g a : List ℕ) → At ps x at b e g a → (i j : ℕ) (q : Point) → Shares ps x i j q → q.x <ℤ (place at *ℤ pos q.d) → ⊥
none-in_slab ps x at b e g a t i j q s k =
    apart-in ps x (b ++ (e ++ a)) q s.is t.stands.order
    (λ n m.
    let go = t.stands.going n m in
    within-old ps x q n s.is s.past (lt_le _ _ _ k (mul_le (place at) (rising ps n).b.x q.d (t.event.next_end n go.0 go.2))))
    i j
    (old-member ps x at b e g a t i q s.first_in s.is s.on.0 s.past k)
    (old-member ps x at b e g a t j q s.second_in s.is s.on.1 s.past k)
    s.differ s.on

-- at the place of the vertex
none-in_part : (ps : List Coordinates) (x : ℤ) (at : Coordinates) (xs : List ℕ) (i j : ℕ) (q : Point) → Shares ps x i j q → q.x ≡ place at *ℤ pos q.d → ((n : ℕ) → Among n xs → Goes ps x at n) →
    Linked (λ i j. IsBelow (rising ps i) (rising ps j) x) xs → Among i xs → Among j xs → ⊥
none-in_part ps x at xs i j q s h go order m n =
    apart-in ps x xs q s.is order
    (λ k l. within-old ps x q k s.is s.past (le_lt _ _ _ (same_le _ _ h) (mul_lt (place at) (rising ps k).b.x q.d s.is.positive (go k l).goes)))
    i j m n s.differ s.on

ends-here : (ps : List Coordinates) (x : ℤ) (at : Coordinates) (b e g a : List ℕ) → At ps x at b e g a → (i j : ℕ) (q : Point) → Shares ps x i j q → q.x ≡ place at *ℤ pos q.d →
    IsEnd (rising ps i) q × IsEnd (rising ps j) q
ends-here ps x at b e g a t i j q s h = by (side i s.first_in s.on.0) (side j s.second_in s.on.1)
  where
    side : (n : ℕ) → n + 1 < length ps → IsOnEdge (rising ps n) q → Side ps at q n b a
    side n r on =
        let rises = t.event.rises n r in
        let reached = reach-rising (rising ps n) q rises on in
        side-of ps x at b e g a t n q (record { rises = rises; is = s.is; on = on; here = h })
        (part-of ps x at b e g a t n r
        (le_from_mul (rising ps n).a.x (place at) q.d s.is.positive (from _ _ _ h reached.0))
        (le_from_mul (place at) (rising ps n).b.x q.d s.is.positive (to _ _ _ h reached.1)))
      where
        from : (a p c : ℤ) → p ≡ c → a ≤ℤ p → a ≤ℤ c
        from a p c i j = omega (arith, ints)

        to : (b p c : ℤ) → p ≡ c → p ≤ℤ b → c ≤ℤ b
        to b p c i j = omega (arith, ints)

    turned : (y c : ℤ) → y <ℤ c → c <ℤ y → ⊥
    turned y c k l = omega (arith, ints)

    apart : (y c : ℤ) → y <ℤ c → y ≡ c → ⊥
    apart y c k l = omega (arith, ints)

    apart' : (y c : ℤ) → c <ℤ y → y ≡ c → ⊥
    apart' y c k l = omega (arith, ints)

    by : Side ps at q i b a → Side ps at q j b a → IsEnd (rising ps i) q × IsEnd (rising ps j) q
    by (level u k) (level v l) = (u, v)
    by (lower m k) (lower n l) = absurd (none-in_part ps x at b i j q s h (goes-below ps x at b e g a t) (order-below ps x at b e g a t) m n)
    by (upper m k) (upper n l) = absurd (none-in_part ps x at a i j q s h (goes-above ps x at b e g a t) (order-above ps x at b e g a t) m n)
    by (lower m k) (upper n l) = absurd (turned _ _ k l)
    by (upper m k) (lower n l) = absurd (turned _ _ l k)
    by (lower m k) (level v l) = absurd (apart _ _ k l)
    by (level u k) (lower n l) = absurd (apart _ _ l k)
    by (upper m k) (level v l) = absurd (apart' _ _ k l)
    by (level u k) (upper n l) = absurd (apart' _ _ l k)

-- from one vertex to the next one
pub next-stands : (ps : List Coordinates) (x : ℤ) (at : Coordinates) (b e g a : List ℕ) → Stands ps (b ++ (e ++ a)) x → Event ps x at b e g a → Stands ps (b ++ (g ++ a)) (place at)
next-stands ps x at b e g a stands event =
    record {
      going = new-going ps x at b e g a t;
      all = new-all ps x at b e g a t;
      order = new-order ps x at b e g a t;
      past =
          λ i j r s n q is on h.
          by_lt_z (x *ℤ pos q.d) q.x
          (λ l.
          let shares : Shares ps x i j q = record { first_in = r; second_in = s; differ = n; is = is; on = on; past = l } in
          by_lt_z q.x (place at *ℤ pos q.d)
          (λ k. absurd (none-in_slab ps x at b e g a t i j q shares k))
          (λ k. ends-here ps x at b e g a t i j q shares (both_ways _ _ h k)))
          (λ l. stands.past i j r s n q is on l);
    }
  where
    t : At ps x at b e g a
    t = record { stands = stands; event = event }
