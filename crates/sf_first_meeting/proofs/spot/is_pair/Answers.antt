use Rattle.std.proofs.lemmas.Bool.{eqb-true}
use Rattle.sf_first_meeting.proofs.SpotLaws.{two-listed}
use Rattle.sf_first_meeting.proofs.spot.is_pair.Goals as goal

pub returns-then-numbers-first : goal.returns-then-numbers-first
returns-then-numbers-first c = λ h. two-listed c.args.numbers.now c.args.first c.args.second c.if-numbers-ne2.false c.if-numbers-first.true (eqb-true _ _ h)

pub returns-else-numbers-first : goal.returns-else-numbers-first
returns-else-numbers-first c = λ h. absurd (c.if-numbers-first.false (eqb-true _ _ h))
