use Rattle.std.proofs.Common.{ℕ, List, sym, subst}
use Rattle.sf_first_meeting.specs.Tables.{IsSwept}
use Rattle.sf_first_meeting.proofs.TableLaws.{edges-in, end, start, step, vertex-in, vertex-read}
use Rattle.sf_first_meeting.proofs.sweep.sweep.Goals as goal

pub loop-vertex-init : goal.loop-vertex-init
loop-vertex-init c =
    let P : List ℕ → Type 0 = λ xs. IsSwept c.args.points.now c.args.vertices.now xs 0 in
    subst P (sym c.in_ok-active.ensures.items) (start c.args.points.now c.args.vertices.now c.requires)

pub pass-requires-clause-in_range : goal.pass-requires-clause-in_range
pass-requires-clause-in_range c = vertex-in c.args.points.now c.args.vertices.now c.loop-vertex.vertex-index c.vertex-item.result c.requires c.loop-vertex-test.true c.vertex-item.is

pub pass-requires-clause-edges : goal.pass-requires-clause-edges
pass-requires-clause-edges c = edges-in c.args.points.now c.args.vertices.now c.loop-vertex.active.items c.loop-vertex.vertex-index c.loop-vertex.invariant

pub loop-vertex-preserved : goal.loop-vertex-preserved
loop-vertex-preserved c =
    step c.args.points.now c.args.vertices.now c.loop-vertex.active.items c.loop-vertex.vertex-index c.vertex-item.result.number _ c.requires c.loop-vertex.invariant c.loop-vertex-test.true
    (vertex-read c.args.points.now c.args.vertices.now c.loop-vertex.vertex-index c.vertex-item.result c.requires c.loop-vertex-test.true c.vertex-item.is)
    (c.in_ok-doubt.ensures c.in_default.is)

pub returns : goal.returns
returns c = λ e. end c.args.points.now c.args.vertices.now c.loop-vertex.active.items c.loop-vertex.vertex-index c.requires c.loop-vertex.invariant c.loop-vertex-test.false
