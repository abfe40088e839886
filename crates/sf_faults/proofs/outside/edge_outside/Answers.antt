use Rattle.std.proofs.Common.{sym, ◌∙◌, [], ◌∷◌}
use Rattle.std.proofs.lemmas.Bool.{false≢true}
use Rattle.sf_geometry.specs.declared.geometry.Geometry.TheVariants.{LineString}
use Rattle.sf_faults.proofs.AreaLaws.{edge-from, edge-to, leaves-from, leaves-to}
use Rattle.sf_faults.proofs.OutsideLaws.{edge-end, edge-found, edge-more}
use Rattle.sf_faults.proofs.WrittenLaws.{moved-list}
use Rattle.sf_faults.proofs.outside.edge_outside.Goals as goal

pub returns-then-branch : goal.returns-then-branch
returns-then-branch c =
    λ shell is.
    let e = c.edge-item.result in
    edge-found shell c.args.points.now c.as_slice-edge-items.result.now c.loop-edge.edge-index e
    (moved-list c.in_ok-edges.edges.items c.as_slice-edge-items.result.now c.args.points.now c.as_slice-edge-items.ensures.value c.in_ok-edges.ensures)
    c.loop-edge-test.true c.edge-item.is (c.loop-edge.invariant shell is)
    (edge-to shell e.from e.to e.has_length
    (leaves-to c.args.area.now c.in_ok-line.line (LineString (e.from ∷ e.to ∷ [])) shell is c.in_ok-line.ensures (c.in_ok-leaves_area.ensures.0 c.if-branch.true)))

pub loop-edge-preserved : goal.loop-edge-preserved
loop-edge-preserved c =
    λ shell is.
    let e = c.edge-item.result in
    edge-more shell c.args.points.now c.as_slice-edge-items.result.now c.loop-edge.edge-index e
    (moved-list c.in_ok-edges.edges.items c.as_slice-edge-items.result.now c.args.points.now c.as_slice-edge-items.ensures.value c.in_ok-edges.ensures)
    c.loop-edge-test.true c.edge-item.is (c.loop-edge.invariant shell is)
    (λ a. false≢true (sym c.if-branch.false ∙ c.in_ok-leaves_area.ensures.1
    (leaves-from c.args.area.now c.in_ok-line.line (LineString (e.from ∷ e.to ∷ [])) shell is c.in_ok-line.ensures (edge-from shell e.from e.to e.has_length a))))

pub returns : goal.returns
returns c =
    λ shell is.
    edge-end shell c.args.points.now c.as_slice-edge-items.result.now c.loop-edge.edge-index
    (moved-list c.in_ok-edges.edges.items c.as_slice-edge-items.result.now c.args.points.now c.as_slice-edge-items.ensures.value c.in_ok-edges.ensures)
    c.loop-edge-test.false (c.loop-edge.invariant shell is)
