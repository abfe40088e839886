use Rattle.std.proofs.Common.{inl, inr}
use Rattle.std.proofs.lemmas.Bool.{eqb-true}
use Rattle.sf_first_meeting.proofs.apart.are_neighbours.Goals as goal

pub returns-then-later-earlier : goal.returns-then-later-earlier
returns-then-later-earlier c = λ h. inl c.if-later-earlier.true

pub returns-then-earlier-eq0 : goal.returns-then-earlier-eq0
returns-then-earlier-eq0 c = λ h. inr (c.if-earlier-eq0.true, c.closes_ring.ensures.0 h)

pub returns-else-earlier-eq0 : goal.returns-else-earlier-eq0
returns-else-earlier-eq0 c = λ h. absurd (c.if-earlier-eq0.false (eqb-true _ _ h))
