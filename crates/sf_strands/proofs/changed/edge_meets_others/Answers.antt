use Rattle.std.proofs.Common.{◌↔◌, subst, IsTrue, false}
use Rattle.sf_strands.specs.Changed.{MeetsEarlier}
use Rattle.sf_strands.proofs.ChangedLaws.{edge-earlier, edge-tells}
use Rattle.sf_strands.proofs.changed.edge_meets_others.Goals as goal

pub returns-then-does_earlier_meet : goal.returns-then-does_earlier_meet
returns-then-does_earlier_meet c =
    edge-earlier c.args.points.now c.args.number c.does_earlier_meet.result c.requires.tight c.requires.in_range c.if-does_earlier_meet.true
    (c.does_earlier_meet.ensures.0 c.if-does_earlier_meet.true)

pub returns-else-does_earlier_meet : goal.returns-else-does_earlier_meet
returns-else-does_earlier_meet c =
    edge-tells c.args.points.now c.args.number false c.does_later_meet.result c.requires.tight c.requires.in_range
    (subst (λ found. IsTrue found ↔ MeetsEarlier c.args.points.now c.args.number) c.if-does_earlier_meet.false c.does_earlier_meet.ensures)
    c.does_later_meet.ensures
