use Rattle.std.proofs.Common.{arith, ◌<◌, length}
use Rattle.sf_faults.specs.Candidates.{shared_by}
use Rattle.sf_faults.specs.Orders.{pairs, placed_rings}
use Rattle.std.specs.List.{flat_map}
use Rattle.std.proofs.Common.{sym, ◌∙◌}
use Rattle.sf_faults.proofs.PlaceLaws.{among-none, among-some, first-pair, no_pair-all, no_pair-more, none_with-more}
use Rattle.sf_faults.proofs.RingLaws.{read-end, read-is_there, read-within, ring_read}
use Rattle.sf_faults.proofs.SharingLaws.{read-self, sharing-read}
use Rattle.sf_faults.proofs.sharing.first_sharing.Goals as goal

pub rings_sharing-requires : goal.rings_sharing-requires
rings_sharing-requires c =
    record {
      first = read-is_there c.args.polygons.now c.args.rings.now c.loop-first.first c.requires (omega (arith, c.loop-first-test.true, c.loop-second-test.true));
      second = read-is_there c.args.polygons.now c.args.rings.now c.loop-second.second c.requires c.loop-second-test.true;
    }

pub returns-then-is_some : goal.returns-then-is_some
returns-then-is_some c =
    let polygons = c.args.polygons.now in
    let rings = c.args.rings.now in
    let i = c.loop-first.first in
    let j = c.loop-second.second in
    let l : i < length rings = omega (arith, c.loop-first-test.true, c.loop-second-test.true) in
    let x = ring_read polygons i in
    let y = ring_read polygons j in
    among-some (shared_by (x, y)) (flat_map shared_by (pairs (placed_rings polygons))) c.in_ok-place.place (sym c.is_some.ensures ∙ c.if-is_some.true)
    (sharing-read polygons rings i j c.in_ok-place.place c.requires l c.loop-second-test.true c.in_ok-place.ensures)
    (λ place. first-pair shared_by (placed_rings polygons) j i x y place (read-within polygons rings j c.requires c.loop-second-test.true) c.loop-first-test.true
    (read-self polygons rings i c.requires l) (read-self polygons rings j c.requires c.loop-second-test.true) c.loop-second.invariant c.loop-first.invariant)

pub loop-first-preserved : goal.loop-first-preserved
loop-first-preserved c =
    let polygons = c.args.polygons.now in
    let rings = c.args.rings.now in
    let i = c.loop-first.first in
    let j = c.loop-second.second in
    let l : i < length rings = omega (arith, c.loop-first-test.true, c.loop-second-test.true) in
    let x = ring_read polygons i in
    let y = ring_read polygons j in
    none_with-more shared_by (placed_rings polygons) j i x y (read-within polygons rings j c.requires c.loop-second-test.true) c.loop-first-test.true (read-self polygons rings i c.requires l)
    c.loop-first.invariant
    (among-none (shared_by (x, y)) c.in_ok-place.place (sym c.is_some.ensures ∙ c.if-is_some.false)
    (sharing-read polygons rings i j c.in_ok-place.place c.requires l c.loop-second-test.true c.in_ok-place.ensures))

pub loop-second-preserved : goal.loop-second-preserved
loop-second-preserved c =
    let polygons = c.args.polygons.now in
    let rings = c.args.rings.now in
    let j = c.loop-second.second in
    no_pair-more shared_by (placed_rings polygons) j c.loop-first.first (ring_read polygons j) (read-within polygons rings j c.requires c.loop-second-test.true)
    (read-self polygons rings j c.requires c.loop-second-test.true) c.loop-first-test.false c.loop-second.invariant c.loop-first.invariant

pub returns : goal.returns
returns c =
    no_pair-all shared_by (placed_rings c.args.polygons.now) c.loop-second.second (read-end c.args.polygons.now c.args.rings.now c.loop-second.second c.requires c.loop-second-test.false) c.loop-second.invariant
