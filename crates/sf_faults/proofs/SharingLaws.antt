-- Two edges share two points just where they run along one another.
use Rattle.std.proofs.Common.{◌≡◌, ◌≢◌, ◌↔◌, refl, ap, sym, ◌∙◌, subst, ℕ, true, false, List, [], ◌∷◌, ◌++◌, map, length, slice_index_or, ◌<◌}
use Rattle.std.specs.Prelude.{IsTrue, Option}
use Rattle.std.specs.List.{flat_map}
use Rattle.std.proofs.lemmas.Bool.{and_from, and_parts, false_from_ne_true, false≢true, not-true, not_from_false}
use Rattle.std.proofs.lemmas.List.Folds.{flat_map-map}
use Rattle.sf_grid.specs.Plane.{Coordinates, Point, grid_point, same_point}
use Rattle.sf_grid.specs.Edge.{Edge}
use Rattle.sf_grid.specs.Sharing.{IsSharing}
use Rattle.sf_grid.specs.declared.meet.Meet.TheVariants.{Along, Apart, At}
use Rattle.sf_grid.proofs.CallerLemmas.{differs_from_before, same_point_is_equivalence}
use Rattle.sf_geometry.proofs.ListLaws.{same-is}
use Rattle.sf_strands.proofs.EndLaws.{both-same, end-on, grid-IsPoint, start-on}
use Rattle.sf_valid_rules.specs.Conditions.{Applies, AtTwoPoints}
use Rattle.sf_faults.specs.declared.place.Place.{Place}
use Rattle.sf_faults.specs.declared.place.Spot.{Spot}
use Rattle.sf_faults.specs.declared.written_edge.WrittenEdge.{WrittenEdge}
use Rattle.sf_faults.specs.Candidates.{edges_between, edges_shared, share_two, shared_by}
use Rattle.sf_faults.specs.Orders.{placed_rings, spots, written_edges}
use Rattle.sf_faults.proofs.RingLaws.{any_spot, read-member, read-ring, read-spot, ring_read}
use Rattle.sf_faults.specs.Places.{IsFirstAmong}
use Rattle.sf_faults.specs.Written.{AreRingsSharing, edges_shared_by, written}

-- ---- what a meeting says
grid-differ : (a b : Coordinates) → a ≢ b → same_point (grid_point a) (grid_point b) ≡ false
grid-differ a b n =
    false_from_ne_true (same_point (grid_point a) (grid_point b))
    (λ t. n (same-is a b (both-same a b (grid_point b) (grid-IsPoint b) t (same_point_is_equivalence.reflexive (grid_point b)))))

pub apart-share : (e f : Edge) → IsSharing e f Apart → IsTrue false ↔ Applies (AtTwoPoints (share_two e f))
apart-share e f h = (
  λ t. absurd (false≢true t),
  λ a. let parts = and_parts _ _ a.4 in
      let on = and_parts _ _ parts.1 in
      absurd (h a.0 a.2 (and_parts _ _ on.0)),
)

pub once-share : (e f : Edge) (q : Point) → IsSharing e f (At q) → IsTrue false ↔ Applies (AtTwoPoints (share_two e f))
once-share e f q h = (
  λ t. absurd (false≢true t),
  λ a.
      let parts = and_parts _ _ a.4 in
      let on = and_parts _ _ parts.1 in
      let first = (h.1 a.0 a.2).0 (and_parts _ _ on.0) in
      let second = (h.1 a.1 a.3).0 (and_parts _ _ on.1) in
      let one = same_point_is_equivalence.transitive a.0 q a.1 h.0 first (same_point_is_equivalence.symmetric a.1 q second) in
      absurd (false≢true (sym (not-true (same_point a.0 a.1) parts.0) ∙ one)),
)

pub along-share : (e f : Edge) (a b : Coordinates) → IsSharing e f (Along a b) → IsTrue true ↔ Applies (AtTwoPoints (share_two e f))
along-share e f a b h = (
  λ t.
      let first = (h.1 (grid_point a) (grid-IsPoint a)).1 (start-on a b) in
      let second = (h.1 (grid_point b) (grid-IsPoint b)).1 (end-on a b) in (
        grid_point a,
        grid_point b,
        grid-IsPoint a,
        grid-IsPoint b,
        and_from _ _ (not_from_false (same_point (grid_point a) (grid_point b)) (grid-differ a b (differs_from_before a b h.0)))
            (and_from _ _ (and_from _ _ first.0 first.1) (and_from _ _ second.0 second.1)),
      ),
  λ x. refl,
)

-- ---- the edges of two rings
-- as they are read for the first and the second ring
pub shared-by_edges : (first second : Spot) (es fs : List WrittenEdge) (r s : List Coordinates) → map written es ≡ written_edges r → map written fs ≡ written_edges s →
    edges_shared_by first es second fs ≡ edges_between (first, r) (second, s)
shared-by_edges first second es fs r s h k =
    inner fs
    ∙ sym (flat_map-map (λ f. map (λ e. edges_shared first second e f) (map written es)) written fs)
    ∙ ap (λ es'. flat_map (λ f. map (λ e. edges_shared first second e f) es') (map written fs)) h
    ∙ ap (λ fs'. flat_map (λ f. map (λ e. edges_shared first second e f) (written_edges r)) fs') k
  where
    map-map : (f : WrittenEdge) (xs : List WrittenEdge) → map (λ e. edges_shared first second (written e) (written f)) xs ≡ map (λ e. edges_shared first second e (written f)) (map written xs)
    map-map f [] = refl
    map-map f (x ∷ xs) = ap (λ cs. edges_shared first second (written x) (written f) ∷ cs) (map-map f xs)

    inner : (xs : List WrittenEdge) → edges_shared_by first es second xs ≡ flat_map (λ f. map (λ e. edges_shared first second e (written f)) (map written es)) xs
    inner [] = refl
    inner (x ∷ xs) = ap (λ cs. cs ++ edges_shared_by first es second xs) (map-map x es) ∙ ap (λ cs. map (λ e. edges_shared first second e (written x)) (map written es) ++ cs) (inner xs)

-- the first edges of two rings that are read
pub sharing-read : (polygons : List (List (List Coordinates))) (rings : List Spot) (i j : ℕ) (place : Option Place) → rings ≡ spots polygons → i < length rings → j < length rings →
    AreRingsSharing polygons (slice_index_or rings i any_spot) (slice_index_or rings j any_spot) place → IsFirstAmong (shared_by (ring_read polygons i, ring_read polygons j)) place
sharing-read polygons rings i j place e h k share =
    let r = (ring_read polygons i).1 in
    let s = (ring_read polygons j).1 in
    let P : Spot → Type 0 = λ a. IsFirstAmong (edges_between (a, r) (slice_index_or rings j any_spot, s)) place in
    let Q : Spot → Type 0 = λ b. IsFirstAmong (edges_between ((ring_read polygons i).0, r) (b, s)) place in
    subst Q (read-spot polygons rings j e k)
    (subst P (read-spot polygons rings i e h) (share r s (read-ring polygons rings i e h) (read-ring polygons rings j e k)))

pub read-self : (polygons : List (List (List Coordinates))) (rings : List Spot) (i : ℕ) → rings ≡ spots polygons → i < length rings →
    ring_read polygons i ≡ slice_index_or (placed_rings polygons) i (ring_read polygons i)
read-self polygons rings i e h = read-member polygons rings i (ring_read polygons i) e h refl
