use Rattle.sf_contact.proofs.AbsenceLaws.{absence_is_decided}
use Rattle.sf_contact.proofs.laws.absence_is_decided.Goals as goal

pub returns : goal.returns
returns c = absence_is_decided
