use Rattle.sf_first_meeting.specs.Sweeps.{ArePlain}
use Rattle.sf_first_meeting.proofs.PassingLaws.{along-at}
use Rattle.sf_first_meeting.proofs.passing.are_plain_along.Goals as goal

pub returns-in-Opens : goal.returns-in-Opens
returns-in-Opens c = λ h. along-at (ArePlain c.args.points.now) c.args.below c.args.above _ _ c.in-Opens.is (c.are_plain_over_two.ensures h)

pub returns-in-Passes : goal.returns-in-Passes
returns-in-Passes c = λ h. along-at (ArePlain c.args.points.now) c.args.below c.args.above _ _ c.in-Passes.is (c.are_plain_over.ensures h)

pub returns-in-Begins : goal.returns-in-Begins
returns-in-Begins c = λ h. along-at (ArePlain c.args.points.now) c.args.below c.args.above _ _ c.in-Begins.is (c.are_plain_over-in-Begins.ensures h)

pub returns-in-Closes : goal.returns-in-Closes
returns-in-Closes c = λ h. along-at (ArePlain c.args.points.now) c.args.below c.args.above _ _ c.in-Closes.is (c.are_plain.ensures h)

pub returns-in-Ends : goal.returns-in-Ends
returns-in-Ends c = λ h. along-at (ArePlain c.args.points.now) c.args.below c.args.above _ _ c.in-Ends.is (c.are_plain-in-Ends.ensures h)
