use Rattle.std.proofs.lemmas.Bool.{false≢true}
use Rattle.std.proofs.Common.{refl, sym, ◌∙◌}
use Rattle.sf_first_meeting.proofs.TurnLaws.{left-read}
use Rattle.sf_first_meeting.proofs.sides.is_left_of.Goals as goal

pub returns-in-Left : goal.returns-in-Left
returns-in-Left c = λ h. left-read _ _ _ _ _ _ c.orientation.result c.ends-left.ensures.left c.ends-left.ensures.right c.ends-end.ensures.right c.orientation.ensures c.in-Left.is

pub returns-in_default : goal.returns-in_default
returns-in_default c = λ h. absurd (false≢true h)
