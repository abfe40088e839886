use Rattle.std.proofs.Common.{ap, sym, ◌∙◌}
use Rattle.sf_geometry.specs.Envelope.{extents_meet}
use Rattle.sf_edge_tree.proofs.NearLaws.{all-pushed, passed-near, pushed-near}
use Rattle.sf_edge_tree.proofs.near.push_near.Goals as goal

pub loop-edge-preserved-in_ok-push : goal.loop-edge-preserved-in_ok-push
loop-edge-preserved-in_ok-push c =
    pushed-near c.args.extent c.loop-edge.found.items c.push.new.self.items c.loop-edge.left.now c.in-Some.before.now c.in-Some.edge.now c.in-Some.ensures.cases.0
    (ap (λ box. extents_meet box c.args.extent) (sym c.box_of.ensures) ∙ sym c.meets.ensures ∙ c.if-meets.true) c.in_ok-push.ensures.items
    ∙ c.loop-edge.invariant

pub loop-edge-preserved : goal.loop-edge-preserved
loop-edge-preserved c =
    passed-near c.args.extent c.loop-edge.found.items c.loop-edge.left.now c.in-Some.before.now c.in-Some.edge.now c.in-Some.ensures.cases.0
    (ap (λ box. extents_meet box c.args.extent) (sym c.box_of.ensures) ∙ sym c.meets.ensures ∙ c.if-meets.false)
    ∙ c.loop-edge.invariant

pub returns : goal.returns
returns c = all-pushed c.args.extent c.loop-edge.found.items c.loop-edge.left.now _ c.in_default.ensures.cases c.loop-edge.invariant
