use Rattle.sf_keeping.proofs.Underways.{GoesOnBy-told}
use Rattle.sf_keeping.proofs.keeping.tell.Goals as goal

pub returns-then-has_room_for-clause-ok : goal.returns-then-has_room_for-clause-ok
returns-then-has_room_for-clause-ok g c = λ machine line told. GoesOnBy-told _ _ _ machine line _ told c.put.ensures
