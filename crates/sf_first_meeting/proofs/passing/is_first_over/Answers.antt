use Rattle.sf_first_meeting.specs.Sweeps.{IsOver}
use Rattle.sf_first_meeting.proofs.PassingLaws.{at-first}
use Rattle.sf_first_meeting.proofs.passing.is_first_over.Goals as goal

pub returns : goal.returns
returns c = λ h. at-first (IsOver c.args.points.now c.args.at) c.args.edges.now (c.is_over.ensures h)
