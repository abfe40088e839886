-- Two edges by their numbers: what they share, as they stand and sheared.
use Rattle.std.proofs.Common.{◌≡◌, ◌≢◌, ℕ, ◌+◌, ◌<◌, refl, ap, sym, ◌∙◌, ℤ, pos, ◌+ℤ◌, ◌*ℤ◌, arith, subst, List, length, get_or, inl, inr, ◌⊎◌, Bool, true, false, ◌&&◌, IsTrue}
use Rattle.std.specs.Prelude.{if◌then◌else◌}
use Rattle.std.specs.Ordering.{int_eq}
use Rattle.std.proofs.lemmas.Bool.{and_from, and_parts}
use Rattle.std.proofs.lemmas.Int.{ints}
use Rattle.std.proofs.lemmas.List.{get_or_default}
use Rattle.sf_grid.specs.Plane.{Coordinates, IsPoint, IsSamePoint, Point, grid_point}
use Rattle.sf_grid.specs.Edge.{Edge, IsOnEdge, edge_between}
use Rattle.sf_grid.specs.Sharing.{IsOnBoth, IsSharing, comes_before, earlier_of, later_of}
use Rattle.sf_grid.specs.declared.meet.Meet.{Meet}
use Rattle.sf_grid.specs.declared.meet.Meet.TheVariants.{Along, Apart, At}
use Rattle.sf_grid.proofs.CallerLemmas.{eq_from_test, test_from_eq, on_edge-mean, same_point_is_equivalence, same_coordinates}
use Rattle.sf_first_meeting.specs.Numbered.{AreApart, AreNeighbours, HasLengths, IsClosedBy, IsJoint, edge_at, point_of}
use Rattle.sf_first_meeting.specs.Sheared.{place, risen, rising, sheared}
use Rattle.sf_first_meeting.specs.Orders.{IsEnd, ShareEnds}
use Rattle.sf_first_meeting.proofs.ShearLaws.{IsAt, at-from_same, on-straightened, straightened, straightened-is}

-- ---- points as they are read
abbrev origin : Coordinates
origin = record { x = pos 0; y = pos 0 }

pub read-is : (ps : List Coordinates) (i : ℕ) (a : Coordinates) → i < length ps → a ≡ get_or ps i a → point_of ps i ≡ a
read-is ps i a h e = get_or_default ps i origin a h ∙ sym e

pub read-differ : (ps : List Coordinates) (i : ℕ) (a b : Coordinates) → HasLengths ps → i + 1 < length ps → a ≡ get_or ps i a → b ≡ get_or ps (i + 1) b → a ≢ b
read-differ ps i a b h l e f g = h i l (read-is ps i a (omega (arith, l)) e ∙ g ∙ sym (read-is ps (i + 1) b l f))

read-edge : (ps : List Coordinates) (i : ℕ) (a b : Coordinates) → i + 1 < length ps → a ≡ get_or ps i a → b ≡ get_or ps (i + 1) b → edge_at ps i ≡ edge_between a b
read-edge ps i a b l e f =
    ap (λ q. edge_between q (point_of ps (i + 1))) (read-is ps i a (omega (arith, l)) e) ∙ ap (edge_between a) (read-is ps (i + 1) b l f)

-- a pair of edges, as its four points are read
pub record IsPair (ps : List Coordinates) (i j : ℕ) (a b c d : Coordinates) : Type 0 where
  pub in_order : i < j
  pub in_range : j + 1 < length ps
  pub from : a ≡ get_or ps i a
  pub to : b ≡ get_or ps (i + 1) b
  pub other_from : c ≡ get_or ps j c
  pub other_to : d ≡ get_or ps (j + 1) d

shared-at : (ps : List Coordinates) (i j : ℕ) (a b c d : Coordinates) (m : Meet) → IsPair ps i j a b c d → IsSharing (edge_between a b) (edge_between c d) m → IsSharing (edge_at ps i) (edge_at ps j) m
shared-at ps i j a b c d m r h =
    let P : Edge → Type 0 = λ e. IsSharing e (edge_between c d) m in
    let Q : Edge → Type 0 = λ f. IsSharing (edge_at ps i) f m in
    subst Q (sym (read-edge ps j c d r.in_range r.other_from r.other_to))
    (subst P (sym (read-edge ps i a b (omega (arith, r.in_order, r.in_range)) r.from r.to)) h)

pub apart-read : (ps : List Coordinates) (i j : ℕ) (a b c d : Coordinates) → IsPair ps i j a b c d → IsSharing (edge_between a b) (edge_between c d) Apart → AreApart ps i j
apart-read ps i j a b c d r h p is on = absurd (shared-at ps i j a b c d Apart r h p is on)

-- ---- ends are on their edge
start-on : (a b : Coordinates) → IsOnEdge (edge_between a b) (grid_point a)
start-on a b =
    on_edge-mean (edge_between a b) (grid_point a) (pos 1) (pos 0)
    (record { first = omega (arith, ints); second = omega (arith, ints); total = omega (arith, ints); x = mean a.x b.x; y = mean a.y b.y })
  where
    mean : (u v : ℤ) → (pos 1 +ℤ pos 0) *ℤ u ≡ (pos 1 *ℤ u +ℤ pos 0 *ℤ v) *ℤ pos 1
    mean u v = omega (arith, ints)

end-on : (a b : Coordinates) → IsOnEdge (edge_between a b) (grid_point b)
end-on a b =
    on_edge-mean (edge_between a b) (grid_point b) (pos 0) (pos 1)
    (record { first = omega (arith, ints); second = omega (arith, ints); total = omega (arith, ints); x = mean a.x b.x; y = mean a.y b.y })
  where
    mean : (u v : ℤ) → (pos 0 +ℤ pos 1) *ℤ v ≡ (pos 0 *ℤ u +ℤ pos 1 *ℤ v) *ℤ pos 1
    mean u v = omega (arith, ints)

joint-same : (e f : Edge) (v : Coordinates) (q p : Point) → IsSharing e f (At q) → IsOnEdge e (grid_point v) → IsOnEdge f (grid_point v) → IsPoint p → IsOnBoth e f p → IsSamePoint (grid_point v) p
joint-same e f v q p h k l is on =
    same_point_is_equivalence.transitive (grid_point v) q p h.0
    ((h.1 (grid_point v) (record { positive = omega arith })).0 (k, l))
    (same_point_is_equivalence.symmetric p q ((h.1 p is).0 on))

pub at-read : (ps : List Coordinates) (i j : ℕ) (a b c d : Coordinates) (q : Point) → IsPair ps i j a b c d → IsSharing (edge_between a b) (edge_between c d) (At q) → AreNeighbours ps i j → AreApart ps i j
at-read ps i j a b c d q r h n p is on = by n
  where
    share : IsSharing (edge_at ps i) (edge_at ps j) (At q)
    share = shared-at ps i j a b c d (At q) r h

    by : AreNeighbours ps i j → IsJoint ps i j p
    by (inl e) =
        let P : ℕ → Type 0 = λ k. IsOnEdge (edge_at ps i) (grid_point (point_of ps k)) in
        inl (
          e,
          joint-same (edge_at ps i) (edge_at ps j) (point_of ps j) q p share
              (subst P (sym e) (end-on (point_of ps i) (point_of ps (i + 1))))
              (start-on (point_of ps j) (point_of ps (j + 1))) is on,
        )
    by (inr (e, closed)) =
        let P : ℕ → Type 0 = λ k. IsOnEdge (edge_at ps i) (grid_point (point_of ps k)) in
        let Q : Coordinates → Type 0 = λ v. IsOnEdge (edge_at ps j) (grid_point v) in
        inr (
          e,
          closed,
          joint-same (edge_at ps i) (edge_at ps j) (point_of ps 0) q p share
              (subst P e (start-on (point_of ps i) (point_of ps (i + 1))))
              (subst Q (sym closed.1) (end-on (point_of ps j) (point_of ps (j + 1)))) is on,
        )

-- ---- sheared
end-of : (a b v : Coordinates) (p : Point) → (v ≡ a) ⊎ (v ≡ b) → IsAt v p → IsEnd (risen a b) p
end-of a b v p h at = by (comes_before b a) h
  where
    P : Coordinates → Type 0
    P c = IsAt c p

    by : (t : Bool) → (v ≡ a) ⊎ (v ≡ b) → IsEnd (edge_between (sheared (if t then b else a)) (sheared (if t then a else b))) p
    by true (inl e) = inr (ap' e)
      where
        ap' : v ≡ a → (p.x ≡ place a *ℤ pos p.d) × (p.y ≡ a.y *ℤ pos p.d)
        ap' e = let P : Coordinates → Type 0 = λ c. (p.x ≡ place c *ℤ pos p.d) × (p.y ≡ c.y *ℤ pos p.d) in subst P e at
    by true (inr e) = inl (ap' e)
      where
        ap' : v ≡ b → (p.x ≡ place b *ℤ pos p.d) × (p.y ≡ b.y *ℤ pos p.d)
        ap' e = let P : Coordinates → Type 0 = λ c. (p.x ≡ place c *ℤ pos p.d) × (p.y ≡ c.y *ℤ pos p.d) in subst P e at
    by false (inl e) = inl (ap' e)
      where
        ap' : v ≡ a → (p.x ≡ place a *ℤ pos p.d) × (p.y ≡ a.y *ℤ pos p.d)
        ap' e = let P : Coordinates → Type 0 = λ c. (p.x ≡ place c *ℤ pos p.d) × (p.y ≡ c.y *ℤ pos p.d) in subst P e at
    by false (inr e) = inr (ap' e)
      where
        ap' : v ≡ b → (p.x ≡ place b *ℤ pos p.d) × (p.y ≡ b.y *ℤ pos p.d)
        ap' e = let P : Coordinates → Type 0 = λ c. (p.x ≡ place c *ℤ pos p.d) × (p.y ≡ c.y *ℤ pos p.d) in subst P e at

pub plain-from_apart : (ps : List Coordinates) (i j : ℕ) → HasLengths ps → i < j → j + 1 < length ps → AreApart ps i j → ShareEnds (rising ps i) (rising ps j)
plain-from_apart ps i j lengths o r h p is on =
    by
    (h (straightened p) (straightened-is p is) (
      on-straightened (point_of ps i) (point_of ps (i + 1)) p is (lengths i (omega (arith, o, r))) on.0,
      on-straightened (point_of ps j) (point_of ps (j + 1)) p is (lengths j r) on.1,
    ))
  where
    by : IsJoint ps i j (straightened p) → IsEnd (rising ps i) p × IsEnd (rising ps j) p
    by (inl (e, s)) =
        let at = at-from_same (point_of ps j) p is s in
        (end-of (point_of ps i) (point_of ps (i + 1)) (point_of ps j) p (inr (ap (point_of ps) e)) at, end-of (point_of ps j) (point_of ps (j + 1)) (point_of ps j) p (inl refl) at)
    by (inr (e, closed, s)) =
        let at = at-from_same (point_of ps 0) p is s in
        (end-of (point_of ps i) (point_of ps (i + 1)) (point_of ps 0) p (inl (ap (point_of ps) (sym e))) at, end-of (point_of ps j) (point_of ps (j + 1)) (point_of ps 0) p (inr closed.1) at)

pub plain-swapped : (ps : List Coordinates) (i j : ℕ) → ShareEnds (rising ps j) (rising ps i) → ShareEnds (rising ps i) (rising ps j)
plain-swapped ps i j h p is on = let ends = h p is (on.1, on.0) in (ends.1, ends.0)

-- ---- the same point
pub same-is : (a b : Coordinates) → (int_eq a.x b.x && int_eq a.y b.y) ≡ true → a ≡ b
same-is a b h = let parts = and_parts _ _ h in same_coordinates a b (eq_from_test a.x b.x parts.0) (eq_from_test a.y b.y parts.1)

pub closed-read : (ps : List Coordinates) (j : ℕ) (a b : Coordinates) (t : Bool) → j + 1 < length ps → a ≡ get_or ps 0 a → b ≡ get_or ps (j + 1) b → t ≡ (int_eq a.x b.x && int_eq a.y b.y) → t ≡ true → point_of ps 0 ≡ point_of ps (j + 1)
closed-read ps j a b t h e f g k = read-is ps 0 a (omega (arith, h)) e ∙ same-is a b (sym g ∙ k) ∙ sym (read-is ps (j + 1) b h f)

pub closed-back : (ps : List Coordinates) (j : ℕ) (a b : Coordinates) (t : Bool) → j + 1 < length ps → a ≡ get_or ps 0 a → b ≡ get_or ps (j + 1) b → t ≡ (int_eq a.x b.x && int_eq a.y b.y) → point_of ps 0 ≡ point_of ps (j + 1) → t ≡ true
closed-back ps j a b t h e f g k = g ∙ self a b (sym (read-is ps 0 a (omega (arith, h)) e) ∙ k ∙ read-is ps (j + 1) b h f)
  where
    self : (a b : Coordinates) → a ≡ b → (int_eq a.x b.x && int_eq a.y b.y) ≡ true
    self a b e = and_from _ _ (test_from_eq a.x b.x (ap (λ (c : Coordinates). c.x) e)) (test_from_eq a.y b.y (ap (λ (c : Coordinates). c.y) e))
