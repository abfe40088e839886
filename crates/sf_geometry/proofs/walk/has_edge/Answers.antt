use Rattle.std.proofs.Common.{◌↔◌, sym, subst, ◌+◌, ◌∷◌, [], drop, IsTrue, true}
use Rattle.sf_geometry.specs.Lists.{edges_of}
use Rattle.sf_geometry.specs.Walks.{HasEdge}
use Rattle.sf_geometry.proofs.WalkLaws.{found-first, left-edges, left-rest}
use Rattle.sf_geometry.proofs.walk.has_edge.Goals as goal

pub returns-then-is_edge_passing : goal.returns-then-is_edge_passing
returns-then-is_edge_passing g c =
    subst (λ ps. IsTrue true ↔ HasEdge (g.T.EdgeTest.Passes c.args.test.now) (edges_of ps)) (sym c.in-Some.ensures.cases.0)
    (found-first (g.T.EdgeTest.Passes c.args.test.now) (edges_of (c.in-Some.first.now ∷ c.in-Some.others.now)) (edges_of (c.loop-to.from ∷ drop c.loop-to.to-index c.in-Some.others.now))
    (edges_of (c.loop-to.from ∷ c.to-item.result ∷ [])) (edges_of (c.to-item.result ∷ drop (c.loop-to.to-index + 1) c.in-Some.others.now)) c.is_edge_passing.result
    (left-edges c.loop-to.from c.to-item.result c.in-Some.others.now c.loop-to.to-index c.loop-to-test.true c.to-item.is) c.is_edge_passing.ensures c.if-is_edge_passing.true c.loop-to.invariant)

pub loop-to-preserved : goal.loop-to-preserved
loop-to-preserved g c =
    left-rest (g.T.EdgeTest.Passes c.args.test.now) (edges_of (c.in-Some.first.now ∷ c.in-Some.others.now)) (edges_of (c.loop-to.from ∷ drop c.loop-to.to-index c.in-Some.others.now))
    (edges_of (c.loop-to.from ∷ c.to-item.result ∷ [])) (edges_of (c.to-item.result ∷ drop (c.loop-to.to-index + 1) c.in-Some.others.now)) c.is_edge_passing.result
    (left-edges c.loop-to.from c.to-item.result c.in-Some.others.now c.loop-to.to-index c.loop-to-test.true c.to-item.is) c.is_edge_passing.ensures c.if-is_edge_passing.false c.loop-to.invariant
