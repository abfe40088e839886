-- A ring of which a stretch of edges was replaced by another in one box: outside of the box the same points are on it and inside it.
use Rattle.std.proofs.Common.{◌≡◌, refl, ap, sym, ◌∙◌, Bool, true, false, ◌&&◌, ◌||◌, not, List, [], ◌∷◌, ◌++◌}
use Rattle.std.specs.List.{AllByRecursion, list_any}
use Rattle.std.proofs.lemmas.Bool.{both_ways}
use Rattle.sf_grid.specs.Plane.{Coordinates, IsPoint, Point, same_point}
use Rattle.sf_grid.specs.Edge.{Edge as Line, on_edge}
use Rattle.sf_geometry.specs.Lists.{edges_of}
use Rattle.sf_geometry.specs.PointSets.{in_ring, on_line, within_ring}
use Rattle.sf_plane.specs.Boxes.{Box, HasEnds, IsClosedChain, in_box}
use Rattle.sf_plane.proofs.BoxLaws.{edge_in_box}
use Rattle.sf_polygons.proofs.TestLaws.{any-append}
use Rattle.sf_valid_rules.specs.Shapes.{on_both, share_piece}
use Rattle.sf_interiors.specs.Paths.{IsOffBox, parity}
use Rattle.sf_interiors.proofs.PathLaws.{box_has_one_parity}
use Rattle.sf_ring_stretches.specs.Exchange.{IsExchanged, OtherRingsAreOneSided, RingsAgreeOutside, SharesAreKept}
use Rattle.sf_ring_stretches.proofs.OneLaws.{parity-kept}

-- ---- points on edges
-- no edge with its ends in a box has a point outside of it
edge-off : (box : Box) (e : Line) (p : Point) → IsPoint p → HasEnds box e → in_box box p ≡ false → on_edge e p ≡ false
edge-off box e p i h off = by_test (on_edge e p) refl
  where
    by_test : (t : Bool) → on_edge e p ≡ t → t ≡ false
    by_test false on = refl
    by_test true on = absurd (both_ways _ off (edge_in_box box e p h i on))

none-on : (box : Box) (es : List Line) (p : Point) → IsPoint p → AllByRecursion (HasEnds box) es → in_box box p ≡ false → list_any (λ e. on_edge e p) es ≡ false
none-on box [] p i h off = refl
none-on box (e ∷ es) p i h off = ap (λ b. b || list_any (λ f. on_edge f p) es) (edge-off box e p i h.0 off) ∙ none-on box es p i h.1 off

without : (t : Line → Bool) (front stretch back : List Line) → list_any t stretch ≡ false
    → list_any t (front ++ (stretch ++ back)) ≡ (list_any t front || list_any t back)
without t front stretch back none =
    any-append t front (stretch ++ back)
    ∙ ap (λ b. list_any t front || b) (any-append t stretch back ∙ ap (λ b. b || list_any t back) none)

-- ---- points outside of the box
on-kept : (box : Box) (r s : List Coordinates) (p : Point) → IsExchanged box r s → IsPoint p → in_box box p ≡ false → on_line r p ≡ on_line s p
on-kept box r s p x i off =
    ap (list_any (λ e. on_edge e p)) x.was
    ∙ without (λ e. on_edge e p) x.front x.olds x.back (none-on box x.olds p i x.old_ends off)
    ∙ sym (without (λ e. on_edge e p) x.front x.news x.back (none-on box x.news p i x.new_ends off))
    ∙ sym (ap (list_any (λ e. on_edge e p)) x.is)

odd-kept : (box : Box) (r s : List Coordinates) (p : Point) → IsExchanged box r s → IsPoint p → in_box box p ≡ false
    → parity (edges_of r) p ≡ parity (edges_of s) p
odd-kept box r s p x i off =
    ap (λ es. parity es p) x.was
    ∙ parity-kept box x.from x.to x.front x.olds x.news x.back p i x.old x.new x.old_ends x.new_ends off
    ∙ sym (ap (λ es. parity es p) x.is)

in-kept : (box : Box) (r s : List Coordinates) (p : Point) → IsExchanged box r s → IsPoint p → in_box box p ≡ false → in_ring r p ≡ in_ring s p
in-kept box r s p x i off =
    ap (λ b. not b && parity (edges_of r) p) (on-kept box r s p x i off)
    ∙ ap (λ b. not (on_line s p) && b) (odd-kept box r s p x i off)

within-kept : (box : Box) (r s : List Coordinates) (p : Point) → IsExchanged box r s → IsPoint p → in_box box p ≡ false → within_ring r p ≡ within_ring s p
within-kept box r s p x i off =
    ap (λ b. b || in_ring r p) (on-kept box r s p x i off) ∙ ap (λ b. on_line s p || b) (in-kept box r s p x i off)

-- ---- another ring, off the box: pieces that it shares with the changed one
-- an edge in the box and one off the box have no common point
both-off : (box : Box) (e f : Line) (p : Point) → IsPoint p → HasEnds box e → IsOffBox box f → (on_edge e p && on_edge f p) ≡ false
both-off box e f p i h off = by_tests (on_edge e p) refl (on_edge f p) refl
  where
    by_tests : (s : Bool) → on_edge e p ≡ s → (t : Bool) → on_edge f p ≡ t → (s && t) ≡ false
    by_tests false on t on_f = refl
    by_tests true on false on_f = refl
    by_tests true on true on_f = absurd (off p i (edge_in_box box e p h i on) on_f)

both-swap : (a b : Bool) → (a && b) ≡ (b && a)
both-swap true true = refl
both-swap true false = refl
both-swap false true = refl
both-swap false false = refl

-- of edges in the box, none has two common points with one off the box
pairs-off : (box : Box) (e : Line) (fs : List Line) (p q : Point) → IsPoint p → HasEnds box e → AllByRecursion (IsOffBox box) fs
    → list_any (λ f. on_both e f p && on_both e f q) fs ≡ false
pairs-off box e [] p q i h off = refl
pairs-off box e (f ∷ fs) p q i h off =
    ap (λ b. (b && on_both e f q) || list_any (λ g. on_both e g p && on_both e g q) fs) (both-off box e f p i h off.0)
    ∙ pairs-off box e fs p q i h off.1

pairs-back-off : (box : Box) (e : Line) (fs : List Line) (p q : Point) → IsPoint p → IsOffBox box e → AllByRecursion (HasEnds box) fs
    → list_any (λ f. on_both e f p && on_both e f q) fs ≡ false
pairs-back-off box e [] p q i off h = refl
pairs-back-off box e (f ∷ fs) p q i off h =
    ap (λ b. (b && on_both e f q) || list_any (λ g. on_both e g p && on_both e g q) fs) (both-swap (on_edge e p) (on_edge f p) ∙ both-off box f e p i h.0 off)
    ∙ pairs-back-off box e fs p q i off h.1

stretch-off : (box : Box) (es fs : List Line) (p q : Point) → IsPoint p → AllByRecursion (HasEnds box) es → AllByRecursion (IsOffBox box) fs
    → list_any (λ e. list_any (λ f. on_both e f p && on_both e f q) fs) es ≡ false
stretch-off box [] fs p q i h off = refl
stretch-off box (e ∷ es) fs p q i h off =
    ap (λ b. b || list_any (λ d. list_any (λ f. on_both d f p && on_both d f q) fs) es) (pairs-off box e fs p q i h.0 off) ∙ stretch-off box es fs p q i h.1 off

-- where a test fails on the stretches, it is passed by an edge of the one ring just where by one of the other
any-kept : (box : Box) (r s : List Coordinates) (t : Line → Bool) (x : IsExchanged box r s) → list_any t x.olds ≡ false → list_any t x.news ≡ false
    → list_any t (edges_of r) ≡ list_any t (edges_of s)
any-kept box r s t x old new =
    ap (list_any t) x.was ∙ without t x.front x.olds x.back old ∙ sym (without t x.front x.news x.back new) ∙ sym (ap (list_any t) x.is)

-- the changed ring first
share-kept : (box : Box) (r s other : List Coordinates) (p q : Point) → IsExchanged box r s → AllByRecursion (IsOffBox box) (edges_of other) → IsPoint p
    → share_piece r other p q ≡ share_piece s other p q
share-kept box r s other p q x off i =
    ap (λ b. not (same_point p q) && b)
    (any-kept box r s (λ e. list_any (λ f. on_both e f p && on_both e f q) (edges_of other)) x
    (stretch-off box x.olds (edges_of other) p q i x.old_ends off)
    (stretch-off box x.news (edges_of other) p q i x.new_ends off))

-- the other ring first
share-kept-back : (box : Box) (r s other : List Coordinates) (p q : Point) → IsExchanged box r s → AllByRecursion (IsOffBox box) (edges_of other) → IsPoint p
    → share_piece other r p q ≡ share_piece other s p q
share-kept-back box r s other p q x off i = ap (λ b. not (same_point p q) && b) (each (edges_of other) off)
  where
    each : (es : List Line) → AllByRecursion (IsOffBox box) es
        → list_any (λ e. list_any (λ f. on_both e f p && on_both e f q) (edges_of r)) es ≡ list_any (λ e. list_any (λ f. on_both e f p && on_both e f q) (edges_of s)) es
    each [] h = refl
    each (e ∷ es) h =
        ap (λ b. b || list_any (λ d. list_any (λ f. on_both d f p && on_both d f q) (edges_of r)) es)
        (any-kept box r s (λ f. on_both e f p && on_both e f q) x
        (pairs-back-off box e x.olds p q i h.0 x.old_ends)
        (pairs-back-off box e x.news p q i h.0 x.new_ends))
        ∙ ap (λ b. list_any (λ f. on_both e f p && on_both e f q) (edges_of s) || b) (each es h.1)

-- ---- another ring, off the box: the box is inside it, or outside
pub off-line : (box : Box) (es : List Line) (p : Point) → AllByRecursion (IsOffBox box) es → IsPoint p → in_box box p ≡ true → list_any (λ e. on_edge e p) es ≡ false
off-line box [] p off i h = refl
off-line box (e ∷ es) p off i h = ap (λ b. b || list_any (λ f. on_edge f p) es) (by_test (on_edge e p) refl) ∙ off-line box es p off.1 i h
  where
    by_test : (t : Bool) → on_edge e p ≡ t → t ≡ false
    by_test false on = refl
    by_test true on = absurd (off.0 p i h on)

one-side : (box : Box) (ring : List Coordinates) (p q : Point) → IsClosedChain (edges_of ring) → AllByRecursion (IsOffBox box) (edges_of ring)
    → IsPoint p → IsPoint q → in_box box p ≡ true → in_box box q ≡ true → in_ring ring p ≡ in_ring ring q
one-side box ring p q closed off i j h k =
    ap (λ b. not b && parity (edges_of ring) p) (off-line box (edges_of ring) p off i h)
    ∙ box_has_one_parity (edges_of ring) box p q closed off i j h k
    ∙ sym (ap (λ b. not b && parity (edges_of ring) q) (off-line box (edges_of ring) q off j k))

-- ---- the laws
pub rings_agree_outside : RingsAgreeOutside
rings_agree_outside box r s p x i off = (on-kept box r s p x i off, in-kept box r s p x i off, within-kept box r s p x i off)

pub shares_are_kept : SharesAreKept
shares_are_kept box r s other p q x off i = (share-kept box r s other p q x off i, share-kept-back box r s other p q x off i)

pub other_rings_are_one_sided : OtherRingsAreOneSided
other_rings_are_one_sided box ring p q closed off i j h k = one-side box ring p q closed off i j h k
