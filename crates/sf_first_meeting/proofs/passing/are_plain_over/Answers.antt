use Rattle.std.proofs.lemmas.Bool.{both_ways}
use Rattle.sf_first_meeting.proofs.passing.are_plain_over.Goals as goal

pub returns-then-are_plain : goal.returns-then-are_plain
returns-then-are_plain c = λ h. (c.are_plain.ensures c.if-are_plain.true, c.are_plain-then-are_plain.ensures h)

pub returns-else-are_plain : goal.returns-else-are_plain
returns-else-are_plain c = λ h. absurd (both_ways _ c.if-are_plain.false h)
