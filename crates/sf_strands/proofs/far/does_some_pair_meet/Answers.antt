use Rattle.std.proofs.Common.{arith}
use Rattle.sf_strands.proofs.FarLaws.{pair-applies}
use Rattle.sf_strands.proofs.far.does_some_pair_meet.Goals as goal

pub returns : goal.returns
returns c =
    λ h.
    pair-applies c.args.points.now c.args.earlier c.args.later c.requires c.if-earlier-later.false (omega (arith, c.if-later-saturating_sub.false, c.saturating_sub.ensures))
    (c.does_pair_meet.ensures.0 h)
