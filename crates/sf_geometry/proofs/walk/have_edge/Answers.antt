use Rattle.std.proofs.Common.{◌+◌, drop}
use Rattle.std.specs.List.{flat_map}
use Rattle.sf_geometry.specs.Lists.{edges_of}
use Rattle.sf_geometry.proofs.WalkLaws.{found-first, left-lists, left-rest}
use Rattle.sf_geometry.proofs.walk.have_edge.Goals as goal

pub returns-then-has_edge : goal.returns-then-has_edge
returns-then-has_edge g c =
    found-first (g.T.EdgeTest.Passes c.args.test.now) (flat_map edges_of c.args.lists.now) (flat_map edges_of (drop c.loop-points.points-index c.args.lists.now))
    (edges_of c.as_slice.result.now) (flat_map edges_of (drop (c.loop-points.points-index + 1) c.args.lists.now)) c.has_edge.result
    (left-lists c.args.lists.now c.loop-points.points-index c.points-item.result c.as_slice.result.now c.loop-points-test.true c.points-item.is c.as_slice.ensures) c.has_edge.ensures c.if-has_edge.true c.loop-points.invariant

pub loop-points-preserved : goal.loop-points-preserved
loop-points-preserved g c =
    left-rest (g.T.EdgeTest.Passes c.args.test.now) (flat_map edges_of c.args.lists.now) (flat_map edges_of (drop c.loop-points.points-index c.args.lists.now))
    (edges_of c.as_slice.result.now) (flat_map edges_of (drop (c.loop-points.points-index + 1) c.args.lists.now)) c.has_edge.result
    (left-lists c.args.lists.now c.loop-points.points-index c.points-item.result c.as_slice.result.now c.loop-points-test.true c.points-item.is c.as_slice.ensures) c.has_edge.ensures c.if-has_edge.false c.loop-points.invariant
