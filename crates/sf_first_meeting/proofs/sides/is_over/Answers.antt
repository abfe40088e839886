use Rattle.std.proofs.lemmas.Bool.{false≢true}
use Rattle.std.proofs.Common.{refl, sym, ◌∙◌}
use Rattle.sf_first_meeting.proofs.TurnLaws.{right-read}
use Rattle.sf_first_meeting.proofs.sides.is_over.Goals as goal

pub returns-in-Right : goal.returns-in-Right
returns-in-Right c = λ h. right-read _ _ _ _ _ _ c.orientation.result c.ends-left.ensures.left c.ends-left.ensures.right refl c.orientation.ensures c.in-Right.is

pub returns-in_default : goal.returns-in_default
returns-in_default c = λ h. absurd (false≢true h)
