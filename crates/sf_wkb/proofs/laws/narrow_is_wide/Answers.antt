use Rattle.sf_wkb.proofs.Widening.{narrow_is_wide}
use Rattle.sf_wkb.proofs.laws.narrow_is_wide.Goals as goal

pub returns : goal.returns
returns c = narrow_is_wide
