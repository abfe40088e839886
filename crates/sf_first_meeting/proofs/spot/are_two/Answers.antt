use Rattle.sf_first_meeting.proofs.SpotLaws.{same-turned, same-two}
use Rattle.sf_first_meeting.proofs.spot.are_two.Goals as goal

pub returns-then-is_pair : goal.returns-then-is_pair
returns-then-is_pair c = λ h. same-two _ _ _ (c.is_pair.ensures c.if-is_pair.true)

pub returns-else-is_pair : goal.returns-else-is_pair
returns-else-is_pair c = λ h. same-turned _ _ _ (c.is_pair-else-is_pair.ensures h)
