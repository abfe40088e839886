use Rattle.sf_first_meeting.specs.Sweeps.{ArePlain}
use Rattle.sf_first_meeting.proofs.PassingLaws.{between-some}
use Rattle.sf_first_meeting.proofs.passing.are_plain.Goals as goal

pub returns : goal.returns
returns c = λ h. between-some (ArePlain c.args.points.now) c.args.lower c.args.upper _ _ c.in-Some.is c.in-Some-upper.is (c.share_ends.ensures h)
