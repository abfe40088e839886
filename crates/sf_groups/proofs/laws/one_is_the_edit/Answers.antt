use Rattle.sf_groups.proofs.GroupsFine.{one-edit}
use Rattle.sf_groups.proofs.laws.one_is_the_edit.Goals as goal

pub returns : goal.returns
returns c = one-edit
