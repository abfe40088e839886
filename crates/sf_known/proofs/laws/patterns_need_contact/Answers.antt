use Rattle.sf_known.proofs.ContactLaws.{patterns_need_contact}
use Rattle.sf_known.proofs.laws.patterns_need_contact.Goals as goal

pub returns : goal.returns
returns c = patterns_need_contact
