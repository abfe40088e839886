use Rattle.sf_features.proofs.ValueOrder.{one_value}
use Rattle.sf_features.proofs.laws.equal_values_are_one.Goals as goal

pub returns : goal.returns
returns c = λ a b t u is js h. one_value t u a b is js h
