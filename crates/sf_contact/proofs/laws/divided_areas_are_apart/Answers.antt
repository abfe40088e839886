use Rattle.sf_contact.proofs.DividedLaws.{divided_areas_are_apart}
use Rattle.sf_contact.proofs.laws.divided_areas_are_apart.Goals as goal

pub returns : goal.returns
returns c = divided_areas_are_apart
