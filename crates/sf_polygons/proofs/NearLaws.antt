-- Boxes: a point on or in a ring is in each box that has the ring's points, and of boxes that share no point at most one has it.
use Rattle.std.proofs.Common.{◌≡◌, refl, ap, sym, ◌∙◌, subst, ℕ, ℤ, pos, ◌*ℤ◌, ◌≤ℤ◌, arith, Bool, true, false, ◌&&◌, not, List, [], ◌∷◌, map, fold, Option, Some, None}
use Rattle.std.specs.Prelude.{if◌then◌else◌, int_le}
use Rattle.std.specs.List.{AllByRecursion, list_any, zip}
use Rattle.std.proofs.lemmas.Bool.{and_from, and_parts, both_ways}
use Rattle.std.proofs.lemmas.Int.{clamps, ints}
use Rattle.std.proofs.lemmas.List.Elements.{All-from_recursion}
use Rattle.sf_grid.specs.Plane.{Coordinates, IsPoint, Point, grid_point}
use Rattle.sf_grid.specs.Edge.{on_edge}
use Rattle.sf_grid.proofs.CallerLemmas.{eq_from_test, test_from_le}
use Rattle.sf_slabs.proofs.CallerLemmas.{each-map, each-parts}
use Rattle.sf_geometry.specs.declared.extent.Extent.{Extent}
use Rattle.sf_geometry.specs.Envelope.{extent_at, extent_with, grown}
use Rattle.sf_geometry.specs.Lists.{before_tight, edges_between, edges_from, edges_of, is_closed, is_same, last_from, tight}
use Rattle.sf_geometry.specs.Parts.{joined}
use Rattle.sf_geometry.specs.PointSets.{in_polygon, in_ring, on_line, on_polygon, within_ring}
use Rattle.sf_plane.specs.Boxes.{Box, HasEnds, IsChain, IsClosedChain, in_box}
use Rattle.sf_plane.proofs.BoxLaws.{common_point_meets, edge_in_box, ring_in_box}
use Rattle.sf_polygons.specs.Colours.{AreApart, Coloured, box_of, do_meet}
use Rattle.sf_polygons.proofs.GroupLaws.{AreAlone, IsNear}
use Rattle.sf_polygons.proofs.PieceLaws.{parity}
use Rattle.sf_polygons.proofs.TestLaws.{odd-any, odd_many, one-of}

-- ---- the box of points has each of them
pub record IsIn (e : Extent) (p : Coordinates) : Type 0 where
  pub left : e.min_x ≤ℤ p.x
  pub right : p.x ≤ℤ e.max_x
  pub low : e.min_y ≤ℤ p.y
  pub high : p.y ≤ℤ e.max_y

abbrev pub HasPoint : Option Extent → Coordinates → Type 0
HasPoint None p = ⊥
HasPoint (Some e) p = IsIn e p

first-in : (p : Coordinates) → IsIn (extent_at p) p
first-in p = record { left = omega (arith, ints); right = omega (arith, ints); low = omega (arith, ints); high = omega (arith, ints) }

next-in : (e : Extent) (p : Coordinates) → IsIn (extent_with e p) p
next-in e p =
    record { left = omega (arith, ints, clamps); right = omega (arith, ints, clamps); low = omega (arith, ints, clamps); high = omega (arith, ints, clamps) }

still-in : (e : Extent) (p q : Coordinates) → IsIn e q → IsIn (extent_with e p) q
still-in e p q h =
    record { left = omega (arith, ints, clamps); right = omega (arith, ints, clamps); low = omega (arith, ints, clamps); high = omega (arith, ints, clamps) }

kept : (e : Extent) (q : Coordinates) (ps : List Coordinates) → IsIn e q → HasPoint (fold grown (Some e) ps) q
kept e q [] h = h
kept e q (p ∷ ps) h = kept (extent_with e p) q ps (still-in e p q h)

each-in : (e : Extent) (ps : List Coordinates) → AllByRecursion (HasPoint (fold grown (Some e) ps)) ps
each-in e [] = tt
each-in e (p ∷ ps) = (kept (extent_with e p) p ps (next-in e p), each-in (extent_with e p) ps)

pub points-in : (ps : List Coordinates) → AllByRecursion (HasPoint (box_of ps)) ps
points-in [] = tt
points-in (p ∷ ps) = (kept (extent_at p) p ps (first-in p), each-in (extent_at p) ps)

flattened : {A : Type 0} (P : A → Type 0) (xss : List (List A)) → AllByRecursion P (joined xss) → AllByRecursion (AllByRecursion P) xss
flattened P [] h = tt
flattened P (xs ∷ xss) h = let parts = each-parts P xs (joined xss) h in (parts.0, flattened P xss parts.1)

pub lists-in : (lists : List (List Coordinates)) → AllByRecursion (AllByRecursion (HasPoint (box_of (joined lists)))) lists
lists-in lists = flattened (HasPoint (box_of (joined lists))) lists (points-in (joined lists))

-- ---- points of the plane
abbrev pub boxed : Extent → Box
boxed e = record { min_x = e.min_x; min_y = e.min_y; max_x = e.max_x; max_y = e.max_y }

-- the box is there, and has the point
abbrev pub is_near : Option Extent → Point → Bool
is_near None p = false
is_near (Some e) p = in_box (boxed e) p

within : (m n z : ℤ) → m ≤ℤ z → z ≤ℤ n → (int_le (m *ℤ pos 1) z && int_le z (n *ℤ pos 1)) ≡ true
within m n z h k = and_from _ _ (test_from_le (m *ℤ pos 1) z (omega (arith, ints))) (test_from_le z (n *ℤ pos 1) (omega (arith, ints)))

end-in : (e : Extent) (p : Coordinates) → IsIn e p → in_box (boxed e) (grid_point p) ≡ true
end-in e p h = and_from _ _ (within e.min_x e.max_x p.x h.left h.right) (within e.min_y e.max_y p.y h.low h.high)

before-in : (e : Extent) (p : Coordinates) (ts : List Coordinates) → IsIn e p → AllByRecursion (IsIn e) ts → AllByRecursion (IsIn e) (before_tight p ts)
before-in e p [] h k = (h, tt)
before-in e p (q ∷ qs) h k = by_test (is_same p q)
  where
    by_test : (c : Bool) → AllByRecursion (IsIn e) (if c then q ∷ qs else p ∷ q ∷ qs)
    by_test true = k
    by_test false = (h, k)

tight-in : (e : Extent) (ps : List Coordinates) → AllByRecursion (IsIn e) ps → AllByRecursion (IsIn e) (tight ps)
tight-in e [] h = tt
tight-in e (p ∷ ps) h = before-in e p (tight ps) h.0 (tight-in e ps h.1)

from-in : (e : Extent) (p : Coordinates) (ps : List Coordinates) → IsIn e p → AllByRecursion (IsIn e) ps → AllByRecursion (HasEnds (boxed e)) (edges_from p ps)
from-in e p [] h k = tt
from-in e p (q ∷ qs) h k = ((end-in e p h, end-in e q k.0), from-in e q qs k.0 k.1)

between-in : (e : Extent) (ts : List Coordinates) → AllByRecursion (IsIn e) ts → AllByRecursion (HasEnds (boxed e)) (edges_between ts)
between-in e [] h = tt
between-in e (p ∷ ps) h = from-in e p ps h.0 h.1

edges-in : (e : Extent) (ps : List Coordinates) → AllByRecursion (IsIn e) ps → AllByRecursion (HasEnds (boxed e)) (edges_of ps)
edges-in e ps h = between-in e (tight ps) (tight-in e ps h)

-- ---- a closed ring's edges lead back to where they begin
same-coordinates : (p q : Coordinates) → is_same p q ≡ true → p ≡ q
same-coordinates p q h =
    let parts = and_parts _ _ h in
    ap (λ z. record { x = z; y = p.y }) (eq_from_test p.x q.x parts.0) ∙ ap (λ z. record { x = q.x; y = z }) (eq_from_test p.y q.y parts.1)

-- a tight list begins and ends as its list does
record IsTightOf (p : Coordinates) (ps ts : List Coordinates) : Type 0 where
  pub rest : List Coordinates
  pub is : ts ≡ p ∷ rest
  pub last : last_from p rest ≡ last_from p ps

tight-of : (p : Coordinates) (ps : List Coordinates) → IsTightOf p ps (tight (p ∷ ps))
tight-of p [] = record { rest = []; is = refl; last = refl }
tight-of p (q ∷ qs) = step (tight-of q qs)
  where
    step : IsTightOf q qs (tight (q ∷ qs)) → IsTightOf p (q ∷ qs) (tight (p ∷ q ∷ qs))
    step t = by_test (is_same p q) refl
      where
        by_test : (c : Bool) → is_same p q ≡ c → IsTightOf p (q ∷ qs) (tight (p ∷ q ∷ qs))
        by_test true e =
            record {
              rest = t.rest;
              is = ap (before_tight p) t.is ∙ ap (λ c. if c then q ∷ t.rest else p ∷ q ∷ t.rest) e ∙ ap (λ r. r ∷ t.rest) (sym (same-coordinates p q e));
              last = ap (λ r. last_from r t.rest) (same-coordinates p q e) ∙ t.last;
            }
        by_test false e =
            record {
              rest = q ∷ t.rest;
              is = ap (before_tight p) t.is ∙ ap (λ c. if c then q ∷ t.rest else p ∷ q ∷ t.rest) e;
              last = t.last;
            }

chain-from : (p : Coordinates) (ps : List Coordinates) → IsChain p (edges_from p ps) (last_from p ps)
chain-from p [] = refl
chain-from p (q ∷ qs) = (refl, chain-from q qs)

ring-chain : (ring : List Coordinates) → is_closed ring ≡ true → IsClosedChain (edges_of ring)
ring-chain [] h = (record { x = pos 0; y = pos 0 }, refl)
ring-chain (p ∷ ps) h =
    let t = tight-of p ps in (
      p,
      subst (λ ts. IsChain p (edges_between ts) p) (sym t.is)
          (subst (IsChain p (edges_from p t.rest)) (t.last ∙ sym (same-coordinates p (last_from p ps) h)) (chain-from p t.rest)),
    )

-- ---- on and in rings with points in a box
pub on-near : (box : Option Extent) (ring : List Coordinates) (p : Point) → IsPoint p → AllByRecursion (HasPoint box) ring → on_line ring p ≡ true → is_near box p ≡ true
on-near None [] p i h k = k
on-near None (q ∷ qs) p i h k = absurd h.0
on-near (Some e) ring p i h k =
    let o = one-of (HasEnds (boxed e)) (λ l. on_edge l p) (edges_of ring) (edges-in e ring h) k in
    edge_in_box (boxed e) o.member p o.has i o.passes

pub odd-near : (box : Option Extent) (ring : List Coordinates) (p : Point) → IsPoint p → AllByRecursion (HasPoint box) ring → is_closed ring ≡ true → parity p ring ≡ true → is_near box p ≡ true
odd-near None [] p i h c k = k
odd-near None (q ∷ qs) p i h c k = absurd h.0
odd-near (Some e) ring p i h c k = ring_in_box (boxed e) (edges_of ring) p (ring-chain ring c) (All-from_recursion (HasEnds (boxed e)) (edges_of ring) (edges-in e ring h)) i k

-- of a polygon's rings
record IsClosedIn (box : Option Extent) (ring : List Coordinates) : Type 0 where
  pub has : AllByRecursion (HasPoint box) ring
  pub closed : is_closed ring ≡ true

closed-in : (box : Option Extent) (rings : List (List Coordinates)) → AllByRecursion (AllByRecursion (HasPoint box)) rings → AllByRecursion (λ ring. is_closed ring ≡ true) rings
    → AllByRecursion (IsClosedIn box) rings
closed-in box [] h c = tt
closed-in box (r ∷ rs) h c = (record { has = h.0; closed = c.0 }, closed-in box rs h.1 c.1)

pub hole-near : (ring : List Coordinates) (p : Point) → IsPoint p → is_closed ring ≡ true → IsNear (λ r. is_near (box_of r) p) (λ r. on_line r p) (parity p) ring
hole-near ring p i c = record { on_near = on-near (box_of ring) ring p i (points-in ring); odd_near = odd-near (box_of ring) ring p i (points-in ring) c }

pub polygon-near : (rings : List (List Coordinates)) (p : Point) → IsPoint p → AllByRecursion (λ ring. is_closed ring ≡ true) rings
    → IsNear (λ rs. is_near (box_of (joined rs)) p) (λ rs. on_polygon rs p) (λ rs. odd_many (map (parity p) rs)) rings
polygon-near rings p i c =
    let box = box_of (joined rings) in
    let all = closed-in box rings (lists-in rings) c in
    record {
      on_near = λ k. let o = one-of (IsClosedIn box) (λ ring. on_line ring p) rings all k in on-near box o.member p i o.has.has o.passes;
      odd_near = λ k. let o = one-of (IsClosedIn box) (parity p) rings all (odd-any (parity p) rings k) in odd-near box o.member p i o.has.has o.has.closed o.passes;
    }

-- ---- boxes that share no point
near-meet : (a b : Option Extent) (p : Point) → IsPoint p → is_near a p ≡ true → is_near b p ≡ true → do_meet a b ≡ true
near-meet None b p i h k = h
near-meet (Some a) None p i h k = k
near-meet (Some a) (Some b) p i h k = common_point_meets (boxed a) (boxed b) p i h k

apart-near : (a b : Option Extent) (p : Point) → IsPoint p → do_meet a b ≡ false → is_near a p ≡ true → is_near b p ≡ false
apart-near a b p i m h = by_test (is_near b p) refl
  where
    by_test : (c : Bool) → is_near b p ≡ c → c ≡ false
    by_test true e = absurd (both_ways (do_meet a b) m (near-meet a b p i h e))
    by_test false e = refl

zip-of : {A B C : Type 0} (f : A → B) (P : B × C → Type 0) (xs : List A) (ys : List C) → AllByRecursion P (zip (map f xs) ys) → AllByRecursion (λ (z : A × C). P (f z.0, z.1)) (zip xs ys)
zip-of f P [] ys h = tt
zip-of f P (x ∷ xs) [] h = tt
zip-of f P (x ∷ xs) (y ∷ ys) h = (h.0, zip-of f P xs ys h.1)

-- of things with colours at most one of each colour has the point in its box
pub alone-near : {A : Type 0} (box : A → Option Extent) (p : Point) → IsPoint p → (xs : List A) (colours : List ℕ) → AreApart (zip (map box xs) colours)
    → AreAlone (λ (z : A × ℕ). z.1) (λ (z : A × ℕ). is_near (box z.0) p) (zip xs colours)
alone-near box p i [] colours h = tt
alone-near box p i (x ∷ xs) [] h = tt
alone-near {A} box p i (x ∷ xs) (c ∷ cs) h = (
  each-map (λ (z : A × ℕ). c ≡ z.1 → do_meet (box x) (box z.0) ≡ false) (λ (z : A × ℕ). c ≡ z.1 → is_near (box x) p ≡ true → is_near (box z.0) p ≡ false) (zip xs cs)
      (λ z k e n. apart-near (box x) (box z.0) p i (k e) n) (zip-of box (λ (d : Coloured). c ≡ d.1 → do_meet (box x) d.0 ≡ false) xs cs h.0),
  alone-near box p i xs cs h.1,
)

pub in-near : (rings : List (List Coordinates)) (p : Point) → IsPoint p → AllByRecursion (λ ring. is_closed ring ≡ true) rings → in_polygon rings p ≡ true → is_near (box_of (joined rings)) p ≡ true
in-near [] p i c h = absurd (both_ways false refl h)
in-near (shell ∷ holes) p i c h =
    let inside = (and_parts (in_ring shell p) (not (list_any (λ hole. within_ring hole p) holes)) h).0 in
    odd-near (box_of (joined (shell ∷ holes))) shell p i (lists-in (shell ∷ holes)).0 c.0 (and_parts (not (on_line shell p)) (parity p shell) inside).1
