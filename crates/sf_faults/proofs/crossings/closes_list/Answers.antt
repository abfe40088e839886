use Rattle.std.proofs.Common.{◌≡◌, ◌∙◌, ◌+◌, arith, false, length, nat_eq}
use Rattle.sf_strands.proofs.PlaceLaws.{closes-earlier, closes-last}
use Rattle.sf_faults.proofs.crossings.closes_list.Goals as goal

pub returns-then-edge-points : goal.returns-then-edge-points
returns-then-edge-points c =
    c.eq.ensures
    ∙ closes-last c.args.points.now c.args.edge c.index-points-0.result c.index-points-edge.result c.requires.tight c.requires.in_range c.if-edge-points.true c.index-points-0.is c.index-points-edge.is

pub returns-else-edge-points : goal.returns-else-edge-points
returns-else-edge-points c =
    let earlier : nat_eq (c.args.edge + 2) (length c.args.points.now) ≡ false = grind (arith) in
    earlier ∙ closes-earlier c.args.points.now c.args.edge c.requires.tight c.requires.in_range c.if-edge-points.false
