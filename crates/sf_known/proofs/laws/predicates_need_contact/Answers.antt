use Rattle.sf_known.proofs.ContactLaws.{predicates_need_contact}
use Rattle.sf_known.proofs.laws.predicates_need_contact.Goals as goal

pub returns : goal.returns
returns c = predicates_need_contact
