use Rattle.sf_first_meeting.specs.declared.spot.Spot.TheVariants.{Begins, Closes, Ends, Opens, Passes}
use Rattle.sf_first_meeting.proofs.SpotLaws.{none-from_empty, same-at, same-one}
use Rattle.sf_first_meeting.proofs.spot.Spot.are_ending.Goals as goal

pub returns-in-Opens : goal.returns-in-Opens
returns-in-Opens c = λ h. same-at c.args.edges.now _ _ c.in-Opens.is (none-from_empty c.args.edges.now c.is_empty.result c.is_empty.ensures h)

pub returns-in-Begins : goal.returns-in-Begins
returns-in-Begins c = λ h. same-at c.args.edges.now _ _ c.in-Begins.is (none-from_empty c.args.edges.now c.is_empty-in-Begins.result c.is_empty-in-Begins.ensures h)

pub returns-in-Passes : goal.returns-in-Passes
returns-in-Passes c = λ h. same-at c.args.edges.now _ _ c.in-Passes.is (same-one _ _ (c.is_single.ensures h))

pub returns-in-Ends : goal.returns-in-Ends
returns-in-Ends c = λ h. same-at c.args.edges.now _ _ c.in-Ends.is (same-one _ _ (c.is_single-in-Ends.ensures h))

pub returns-in-Closes : goal.returns-in-Closes
returns-in-Closes c = λ h. same-at c.args.edges.now _ _ c.in-Closes.is (c.are_two.ensures h)
