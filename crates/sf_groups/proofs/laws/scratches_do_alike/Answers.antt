use Rattle.sf_groups.proofs.TogetherLaws.{scratches-do_alike}
use Rattle.sf_groups.proofs.laws.scratches_do_alike.Goals as goal

pub returns : goal.returns
returns c = scratches-do_alike
