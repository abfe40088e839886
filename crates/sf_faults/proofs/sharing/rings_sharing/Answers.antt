use Rattle.std.proofs.Common.{◌≡◌, ap, sym, ◌∙◌, subst, List}
use Rattle.std.specs.Prelude.{Some}
use Rattle.sf_faults.specs.Candidates.{Candidate}
use Rattle.sf_faults.specs.Orders.{written_edges}
use Rattle.sf_faults.specs.Places.{IsFirstAmong}
use Rattle.sf_grid.specs.Plane.{Coordinates}
use Rattle.sf_geometry.specs.Envelope.{extent_of, extents_meet}
use Rattle.sf_faults.proofs.BoxLaws.{apart-rings}
use Rattle.sf_faults.proofs.SharingLaws.{shared-by_edges}
use Rattle.sf_faults.proofs.WrittenLaws.{moved-list}
use Rattle.sf_faults.proofs.sharing.rings_sharing.Goals as goal

some-same : {X : Type 0} (x y : X) → Some x ≡ Some y → x ≡ y
some-same x y h = cc

pub returns : goal.returns
returns c =
    λ r s h k.
    let first : c.ring_at-first_ring.result.now ≡ r = some-same c.ring_at-first_ring.result.now r (sym c.ring_at-first_ring.ensures ∙ h) in
    let second : c.ring_at-second_ring.result.now ≡ s = some-same c.ring_at-second_ring.result.now s (sym c.ring_at-second_ring.ensures ∙ k) in
    subst (λ (cs : List Candidate). IsFirstAmong cs c.edges_sharing.result)
    (shared-by_edges c.args.first c.args.second c.as_slice.result.now c.as_slice-2.result.now r s
    (moved-list c.in_ok-first_edges.first_edges.items c.as_slice.result.now r c.as_slice.ensures.value (c.in_ok-first_edges.ensures ∙ ap written_edges first))
    (moved-list c.in_ok-second_edges.second_edges.items c.as_slice-2.result.now s c.as_slice-2.ensures.value (c.in_ok-second_edges.ensures ∙ ap written_edges second)))
    c.edges_sharing.ensures

pub returns-then-are_apart : goal.returns-then-are_apart
returns-then-are_apart c =
    λ r s h k.
    let first : c.ring_at-first_ring.result.now ≡ r = some-same c.ring_at-first_ring.result.now r (sym c.ring_at-first_ring.ensures ∙ h) in
    let second : c.ring_at-second_ring.result.now ≡ s = some-same c.ring_at-second_ring.result.now s (sym c.ring_at-second_ring.ensures ∙ k) in
    apart-rings c.args.first c.args.second r s
    (sym (ap (λ (x : List Coordinates). extents_meet (extent_of x) (extent_of c.ring_at-second_ring.result.now)) first ∙ ap (λ (y : List Coordinates). extents_meet (extent_of r) (extent_of y)) second)
    ∙ c.are_apart.ensures c.if-are_apart.true)
