use Rattle.std.proofs.Common.{◌+◌, drop}
use Rattle.std.specs.List.{flat_map}
use Rattle.sf_geometry.specs.Lists.{edges_of}
use Rattle.sf_geometry.specs.Parts.{joined}
use Rattle.sf_geometry.proofs.WalkLaws.{found-first, left-polygons, left-rest}
use Rattle.sf_geometry.proofs.walk.polygons_have_edge.Goals as goal

pub returns-then-have_edge : goal.returns-then-have_edge
returns-then-have_edge g c =
    found-first (g.T.EdgeTest.Passes c.args.test.now) (flat_map edges_of (joined c.args.polygons.now)) (flat_map edges_of (joined (drop c.loop-rings.rings-index c.args.polygons.now)))
    (flat_map edges_of c.as_slice.result.now) (flat_map edges_of (joined (drop (c.loop-rings.rings-index + 1) c.args.polygons.now))) c.have_edge.result
    (left-polygons c.args.polygons.now c.loop-rings.rings-index c.rings-item.result c.as_slice.result.now c.loop-rings-test.true c.rings-item.is c.as_slice.ensures) c.have_edge.ensures c.if-have_edge.true c.loop-rings.invariant

pub loop-rings-preserved : goal.loop-rings-preserved
loop-rings-preserved g c =
    left-rest (g.T.EdgeTest.Passes c.args.test.now) (flat_map edges_of (joined c.args.polygons.now)) (flat_map edges_of (joined (drop c.loop-rings.rings-index c.args.polygons.now)))
    (flat_map edges_of c.as_slice.result.now) (flat_map edges_of (joined (drop (c.loop-rings.rings-index + 1) c.args.polygons.now))) c.have_edge.result
    (left-polygons c.args.polygons.now c.loop-rings.rings-index c.rings-item.result c.as_slice.result.now c.loop-rings-test.true c.rings-item.is c.as_slice.ensures) c.have_edge.ensures c.if-have_edge.false c.loop-rings.invariant
