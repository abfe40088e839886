use Rattle.std.proofs.Common.{subst, sym}
use Rattle.sf_crossing.proofs.EdgeLaws.{AreLong, long-meeting}
use Rattle.sf_crossing.proofs.crossing.have_crossing.Goals as goal

pub are_crossed-requires-clause-first_long : goal.are_crossed-requires-clause-first_long
are_crossed-requires-clause-first_long c = subst AreLong (sym c.in_ok-first.ensures) (long-meeting c.args.common.now c.args.a.now)

pub are_crossed-requires-clause-second_long : goal.are_crossed-requires-clause-second_long
are_crossed-requires-clause-second_long c = subst AreLong (sym c.in_ok-second.ensures) (long-meeting c.args.common.now c.args.b.now)
