use Rattle.sf_first_meeting.specs.Sweeps.{IsUnder}
use Rattle.sf_first_meeting.proofs.PassingLaws.{at-last}
use Rattle.sf_first_meeting.proofs.passing.is_last_under.Goals as goal

pub returns : goal.returns
returns c = λ h. at-last (IsUnder c.args.points.now c.args.at) c.args.edges.now (c.is_under.ensures h)
