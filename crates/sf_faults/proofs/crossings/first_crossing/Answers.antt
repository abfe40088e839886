use Rattle.std.proofs.Common.{sym, ◌∙◌, slice_index_or}
use Rattle.std.specs.List.{flat_map}
use Rattle.sf_faults.specs.Candidates.{crossings_of}
use Rattle.sf_faults.specs.Orders.{placed_rings}
use Rattle.sf_faults.proofs.PlaceLaws.{among-none, among-some}
use Rattle.sf_faults.proofs.RingLaws.{any_spot, read-is_there, ring-end, ring-first, ring-none}
use Rattle.sf_faults.proofs.crossings.first_crossing.Goals as goal

pub ring_at-requires : goal.ring_at-requires
ring_at-requires c = read-is_there c.args.polygons.now c.args.rings.now c.loop-ring.ring-index c.requires c.loop-ring-test.true

pub returns-then-is_some : goal.returns-then-is_some
returns-then-is_some c =
    let at = slice_index_or c.args.rings.now c.loop-ring.ring-index any_spot in
    among-some (crossings_of (at, c.ring_at.result.now)) (flat_map crossings_of (placed_rings c.args.polygons.now)) c.in_ok-place.place (sym c.is_some.ensures ∙ c.if-is_some.true) c.in_ok-place.ensures
    (λ place. ring-first crossings_of c.args.polygons.now c.args.rings.now c.loop-ring.ring-index c.ring_at.result.now place c.requires c.loop-ring-test.true c.ring_at.ensures c.loop-ring.invariant)

pub loop-ring-preserved : goal.loop-ring-preserved
loop-ring-preserved c =
    let at = slice_index_or c.args.rings.now c.loop-ring.ring-index any_spot in
    ring-none crossings_of c.args.polygons.now c.args.rings.now c.loop-ring.ring-index c.ring_at.result.now c.requires c.loop-ring-test.true c.ring_at.ensures c.loop-ring.invariant
    (among-none (crossings_of (at, c.ring_at.result.now)) c.in_ok-place.place (sym c.is_some.ensures ∙ c.if-is_some.false) c.in_ok-place.ensures)

pub returns : goal.returns
returns c = ring-end crossings_of c.args.polygons.now c.args.rings.now c.loop-ring.ring-index c.requires c.loop-ring-test.false c.loop-ring.invariant
