use Rattle.sf_features.proofs.ValueTotal.{values_total}
use Rattle.sf_features.proofs.laws.values_are_ordered.Goals as goal

pub returns : goal.returns
returns c = values_total
