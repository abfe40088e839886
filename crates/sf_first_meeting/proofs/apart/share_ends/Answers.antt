use Rattle.std.proofs.Common.{◌<◌, ltb, true, ◌≡◌, arith}
use borrow.Author.Tests.{ltb-true}
use Rattle.sf_first_meeting.proofs.PairLaws.{plain-from_apart, plain-swapped}
use Rattle.sf_first_meeting.proofs.apart.share_ends.Goals as goal

pub returns-then-edge-other : goal.returns-then-edge-other
returns-then-edge-other c = λ h. plain-from_apart c.args.points.now c.args.edge c.args.other c.requires c.if-edge-other.true (omega arith) (c.are_apart.ensures h)

pub returns-then-other-edge : goal.returns-then-other-edge
returns-then-other-edge c =
    λ h.
    plain-swapped c.args.points.now c.args.edge c.args.other
    (plain-from_apart c.args.points.now c.args.other c.args.edge c.requires c.if-other-edge.true (omega arith) (c.are_apart-then-other-edge.ensures h))

pub returns-else-other-edge : goal.returns-else-other-edge
returns-else-other-edge c = λ h. absurd (omega (arith, ltb-true c.args.other c.args.edge h, c.if-other-edge.false))
