-- An edge that shares a point with an edge of a geometry is near it: its box meets that of the geometry.
use Rattle.std.proofs.Common.{◌≡◌, sym, ◌∙◌, ap, subst, zero, suc, ℤ, pos, ◌*ℤ◌, ◌≤ℤ◌, arith, Bool, true, false, cond, ◌&&◌, ◌⊎◌, inl, inr, refl, List, [], ◌∷◌, fold, map}
use Rattle.std.specs.Prelude.{None, Option, Some, int_le}
use Rattle.std.specs.Int.{int_max, int_min}
use Rattle.std.specs.List.{AllByRecursion, Contains, filter}
use Rattle.std.proofs.lemmas.Bool.{and_from}
use Rattle.std.proofs.lemmas.Int.{clamps, ints}
use Rattle.std.proofs.lemmas.List.Elements.{All-contains, All-contains_itself, All-filter, All-from_recursion}
use Rattle.sf_grid.specs.Plane.{Coordinates, IsPoint, Point}
use Rattle.sf_grid.specs.Edge.{Edge as Line, IsOnEdge}
use Rattle.sf_grid.proofs.CallerLemmas.{test_from_le}
use Rattle.sf_geometry.specs.declared.extent.Extent.{Extent}
use Rattle.sf_geometry.specs.declared.geometry.Geometry.{Geometry}
use Rattle.sf_geometry.specs.Envelope.{envelope_of, extent_of, extents_meet, grown}
use Rattle.sf_geometry.specs.Parts.{edge_of, edges_of, points_of}
use Rattle.sf_geometry.proofs.ListLaws.{grown-all}
use Rattle.sf_plane.specs.Boxes.{Box, HasEnds, in_box}
use Rattle.sf_plane.proofs.BoxLaws.{common_point_meets, edge_in_box}
use Rattle.sf_edge_tree.specs.Boxes.{covers}
use Rattle.sf_edge_tree.specs.Meeting.{ends_of_edge, extent_of_edge}
use Rattle.sf_edge_tree.proofs.BoxLaws.{hits, meet-turned}
use Rattle.sf_edge_tree.proofs.EnvelopeLaws.{OfEnds, edges-covered, ends-of-edges}
use Rattle.sf_along.specs.Near.{edges_near, near_edges}

-- ---- members of lists
abbrev pub IsAmong : {X : Type 0} → List X → X → Type 0
IsAmong [] x = ⊥
IsAmong (y ∷ ys) x = (y ≡ x) ⊎ IsAmong ys x

pub among : {X : Type 0} (xs : List X) (x : X) → Contains xs x → IsAmong xs x
among [] x c = absurd (omega (arith, c.1))
among (y ∷ ys) x (zero, l, e) = inl e
among (y ∷ ys) x (suc k, l, e) = inr (among ys x (k, omega arith, e))

pub contained : {X : Type 0} (xs : List X) (x : X) → IsAmong xs x → Contains xs x
contained [] x i = absurd i
contained (y ∷ ys) x (inl e) = (zero, omega arith, e)
contained (y ∷ ys) x (inr i) = let c = contained ys x i in (suc c.0, omega (arith, c.1), c.2)

-- a filter keeps the members that pass, and has no others
kept : {X : Type 0} (p : X → Bool) (xs : List X) (x : X) → p x ≡ true → IsAmong xs x → IsAmong (filter p xs) x
kept p [] x h i = absurd i
kept p (y ∷ ys) x h (inl e) = subst (λ t. IsAmong (cond t (y ∷ filter p ys) (filter p ys)) x) (sym (ap p e ∙ h)) (inl e)
kept p (y ∷ ys) x h (inr i) = by_test (p y) (kept p ys x h i)
  where
    by_test : (t : Bool) → IsAmong (filter p ys) x → IsAmong (cond t (y ∷ filter p ys) (filter p ys)) x
    by_test true j = inr j
    by_test false j = j

pub filter-has : {X : Type 0} (p : X → Bool) (xs : List X) (x : X) → p x ≡ true → Contains xs x → Contains (filter p xs) x
filter-has p xs x h c = contained (filter p xs) x (kept p xs x h (among xs x c))

pub filter-from : {X : Type 0} (p : X → Bool) (xs : List X) (x : X) → Contains (filter p xs) x → Contains xs x
filter-from p xs x c = All-contains (Contains xs) (filter p xs) x (All-filter p (Contains xs) xs (All-contains_itself xs)) c

-- ---- an edge that shares a point with an edge of a geometry has a box that meets the geometry's
abbrev box_of : Extent → Box
box_of e = record { min_x = e.min_x; min_y = e.min_y; max_x = e.max_x; max_y = e.max_y }

-- the box of an edge has its ends, and so its points
pub has-ends : (pair : Coordinates × Coordinates) → HasEnds (box_of (extent_of_edge pair)) (edge_of pair)
has-ends pair = (
  and_from _ _ (between _ _ _ (low pair.0.x pair.1.x) (high pair.0.x pair.1.x)) (between _ _ _ (low pair.0.y pair.1.y) (high pair.0.y pair.1.y)),
  and_from _ _ (between _ _ _ (other_low pair.0.x pair.1.x) (other_high pair.0.x pair.1.x)) (between _ _ _ (other_low pair.0.y pair.1.y) (other_high pair.0.y pair.1.y)),
)
  where
    low : (m n : ℤ) → int_min m n ≤ℤ m
    low m n = omega (arith, ints, clamps)

    high : (m n : ℤ) → m ≤ℤ int_max m n
    high m n = omega (arith, ints, clamps)

    other_low : (m n : ℤ) → int_min m n ≤ℤ n
    other_low m n = omega (arith, ints, clamps)

    other_high : (m n : ℤ) → n ≤ℤ int_max m n
    other_high m n = omega (arith, ints, clamps)

    between : (m n z : ℤ) → m ≤ℤ z → z ≤ℤ n → (int_le (m *ℤ pos 1) z && int_le z (n *ℤ pos 1)) ≡ true
    between m n z h k = and_from _ _ (test_from_le (m *ℤ pos 1) z (omega (arith, ints))) (test_from_le z (n *ℤ pos 1) (omega (arith, ints)))

point-in : (pair : Coordinates × Coordinates) (q : Point) → IsPoint q → IsOnEdge (edge_of pair) q → in_box (box_of (extent_of_edge pair)) q ≡ true
point-in pair q i on = edge_in_box (box_of (extent_of_edge pair)) (edge_of pair) q (has-ends pair) i on

shared-near : (pair other : Coordinates × Coordinates) (geometry : Geometry) (q : Point) → IsPoint q → IsOnEdge (edge_of pair) q → IsOnEdge (edge_of other) q → Contains (edges_of geometry) (edge_of other) →
    extents_meet (extent_of_edge pair) (envelope_of geometry) ≡ true
shared-near pair other geometry q point on_edge on_other among =
    let P = λ (e : Line). covers (envelope_of geometry) (extent_of_edge (ends_of_edge e)) ≡ true in
    let covered = All-contains P (edges_of geometry) (edge_of other) (All-from_recursion P (edges_of geometry) (edges-covered geometry)) among in
    let met =
    common_point_meets (box_of (extent_of_edge other)) (box_of (extent_of_edge pair)) q point (point-in other q point on_other) (point-in pair q point on_edge) in
    meet-turned (envelope_of geometry) (extent_of_edge pair) (hits (envelope_of geometry) (extent_of_edge other) (extent_of_edge pair) covered met)

-- so it is among those near it, and these are among all of them
abbrev pairs_of : Geometry → List (Coordinates × Coordinates)
pairs_of a = map ends_of_edge (edges_of a)

pub near-has : (a b : Geometry) (pair other : Coordinates × Coordinates) (q : Point) → IsPoint q → IsOnEdge (edge_of pair) q → IsOnEdge (edge_of other) q →
    Contains (edges_of b) (edge_of other) → Contains (pairs_of a) pair → Contains (near_edges a b) pair
near-has a b pair other q point on_edge on_other among c = by_points (points_of b) refl
  where
    by_points : (ps : List Coordinates) → points_of b ≡ ps → Contains (edges_near (fold grown None ps) a) pair
    by_points [] e =
        let Never = λ (p : Coordinates). ⊥ in
        absurd
        (All-contains (OfEnds Never) (edges_of b) (edge_of other) (All-from_recursion (OfEnds Never) (edges_of b) (ends-of-edges Never b (subst (AllByRecursion Never) (sym e) tt))) among).0
    by_points (p ∷ ps) e =
        subst (λ box. Contains (edges_near box a) pair) (sym (grown-all p ps))
        (filter-has (λ edge. extents_meet (extent_of_edge edge) (extent_of (p ∷ ps))) (pairs_of a) pair
        (subst (λ qs. extents_meet (extent_of_edge pair) (extent_of qs) ≡ true) e (shared-near pair other b q point on_edge on_other among)) c)

pub near-from : (a b : Geometry) (pair : Coordinates × Coordinates) → Contains (near_edges a b) pair → Contains (pairs_of a) pair
near-from a b pair c = by_box (fold grown None (points_of b)) c
  where
    by_box : (box : Option Extent) → Contains (edges_near box a) pair → Contains (pairs_of a) pair
    by_box None i = absurd (among [] pair i)
    by_box (Some box) i = filter-from (λ edge. extents_meet (extent_of_edge edge) box) (pairs_of a) pair i
