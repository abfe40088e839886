use Rattle.std.proofs.Common.{◌≡◌, refl, ap, sym, ◌∙◌, Bool, not, true, false, slice_index_or}
use Rattle.sf_grid.specs.Plane.{Coordinates}
use Rattle.std.specs.Prelude.{List, IsTrue}
use Rattle.std.proofs.lemmas.Bool.{false≢true}
use Rattle.sf_geometry.specs.Lists.{is_closed}
use Rattle.sf_faults.specs.declared.place.Place.TheVariants.{Ring}
use Rattle.sf_faults.specs.Candidates.{open_ring}
use Rattle.sf_faults.specs.Orders.{placed_rings}
use Rattle.sf_faults.proofs.PlaceLaws.{first-alone, first-map, none-alone, none-map, single}
use Rattle.sf_faults.proofs.RingLaws.{any_spot, ring-end, ring-first, ring-none, read-is_there}
use Rattle.sf_faults.proofs.rings.first_open_ring.Goals as goal

closed-applies : (t : Bool) (ps : List Coordinates) → t ≡ is_closed ps → t ≡ false → IsTrue (not (is_closed ps))
closed-applies t ps e f = ap not (sym e ∙ f)

closed-not : (t : Bool) (ps : List Coordinates) → t ≡ is_closed ps → t ≡ true → ¬ (IsTrue (not (is_closed ps)))
closed-not t ps e f = λ h. false≢true (sym (ap not (sym e ∙ f)) ∙ h)

pub ring_at-requires : goal.ring_at-requires
ring_at-requires c = read-is_there c.args.polygons.now c.args.rings.now c.loop-ring.ring-index c.requires c.loop-ring-test.true

pub returns-then-not-is_closed : goal.returns-then-not-is_closed
returns-then-not-is_closed c =
    let ps = c.ring_at.result.now in
    let at = slice_index_or c.args.rings.now c.loop-ring.ring-index any_spot in
    first-map open_ring (placed_rings c.args.polygons.now) (Ring at)
    (ring-first (single open_ring) c.args.polygons.now c.args.rings.now c.loop-ring.ring-index ps (Ring at) c.requires c.loop-ring-test.true c.ring_at.ensures c.loop-ring.invariant
    (first-alone (open_ring (at, ps)) (Ring at) (closed-applies c.is_closed.result ps c.is_closed.ensures c.if-not-is_closed.true) refl))

pub loop-ring-preserved : goal.loop-ring-preserved
loop-ring-preserved c =
    let ps = c.ring_at.result.now in
    let at = slice_index_or c.args.rings.now c.loop-ring.ring-index any_spot in
    ring-none (single open_ring) c.args.polygons.now c.args.rings.now c.loop-ring.ring-index ps c.requires c.loop-ring-test.true c.ring_at.ensures c.loop-ring.invariant
    (none-alone (open_ring (at, ps)) (closed-not c.is_closed.result ps c.is_closed.ensures c.if-not-is_closed.false))

pub returns : goal.returns
returns c =
    none-map open_ring (placed_rings c.args.polygons.now)
    (ring-end (single open_ring) c.args.polygons.now c.args.rings.now c.loop-ring.ring-index c.requires c.loop-ring-test.false c.loop-ring.invariant)
