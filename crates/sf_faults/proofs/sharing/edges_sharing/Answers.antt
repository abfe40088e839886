use Rattle.std.proofs.Common.{refl, sym, ◌∙◌, map}
use Rattle.std.proofs.lemmas.Bool.{false≢true}
use Rattle.sf_faults.specs.declared.place.Place.TheVariants.{Rings}
use Rattle.sf_faults.specs.declared.written_edge.WrittenEdge.{WrittenEdge}
use Rattle.sf_faults.specs.Candidates.{edges_shared}
use Rattle.sf_faults.specs.Written.{written}
use Rattle.sf_faults.proofs.PlaceLaws.{first-alone, first-map, first-member, none-all, none-alone, none-map, none-member, single}
use Rattle.sf_faults.proofs.sharing.edges_sharing.Goals as goal

pub returns-then-do_share : goal.returns-then-do_share
returns-then-do_share c =
    let e = c.first_edge-item.result in
    let f = c.second_edge-item.result in
    let place = Rings c.args.first e.number c.args.second f.number in
    let row = λ (g : WrittenEdge). map (λ (d : WrittenEdge). edges_shared c.args.first c.args.second (written d) (written g)) c.args.first_edges.now in
    first-member row c.args.second_edges.now c.loop-second_edge.second_edge-index f place c.loop-second_edge-test.true c.second_edge-item.is c.loop-second_edge.invariant
    (first-map (λ (d : WrittenEdge). edges_shared c.args.first c.args.second (written d) (written f)) c.args.first_edges.now place
    (first-member (single (λ (d : WrittenEdge). edges_shared c.args.first c.args.second (written d) (written f))) c.args.first_edges.now c.loop-first_edge.first_edge-index e place c.loop-first_edge-test.true
    c.first_edge-item.is c.loop-first_edge.invariant
    (first-alone (edges_shared c.args.first c.args.second (written e) (written f)) place (c.do_share.ensures.0 c.if-do_share.true) refl)))

pub loop-first_edge-preserved : goal.loop-first_edge-preserved
loop-first_edge-preserved c =
    let e = c.first_edge-item.result in
    let f = c.second_edge-item.result in
    none-member (single (λ (d : WrittenEdge). edges_shared c.args.first c.args.second (written d) (written f))) c.args.first_edges.now c.loop-first_edge.first_edge-index e c.loop-first_edge-test.true
    c.first_edge-item.is c.loop-first_edge.invariant
    (none-alone (edges_shared c.args.first c.args.second (written e) (written f)) (λ a. false≢true (sym c.if-do_share.false ∙ c.do_share.ensures.1 a)))

pub loop-second_edge-preserved : goal.loop-second_edge-preserved
loop-second_edge-preserved c =
    let f = c.second_edge-item.result in
    none-member (λ (g : WrittenEdge). map (λ (d : WrittenEdge). edges_shared c.args.first c.args.second (written d) (written g)) c.args.first_edges.now) c.args.second_edges.now c.loop-second_edge.second_edge-index f
    c.loop-second_edge-test.true c.second_edge-item.is c.loop-second_edge.invariant
    (none-map (λ (d : WrittenEdge). edges_shared c.args.first c.args.second (written d) (written f)) c.args.first_edges.now
    (none-all (single (λ (d : WrittenEdge). edges_shared c.args.first c.args.second (written d) (written f))) c.args.first_edges.now c.loop-first_edge.first_edge-index c.loop-first_edge-test.false
    c.loop-first_edge.invariant))
