use Rattle.std.proofs.lemmas.Bool.{eqb-true}
use Rattle.sf_first_meeting.proofs.SpotLaws.{one-listed}
use Rattle.sf_first_meeting.proofs.spot.is_single.Goals as goal

pub returns-then-numbers-eq1 : goal.returns-then-numbers-eq1
returns-then-numbers-eq1 c = λ h. one-listed c.args.numbers.now c.args.number c.if-numbers-eq1.true (eqb-true _ _ h)

pub returns-else-numbers-eq1 : goal.returns-else-numbers-eq1
returns-else-numbers-eq1 c = λ h. absurd (c.if-numbers-eq1.false (eqb-true _ _ h))
