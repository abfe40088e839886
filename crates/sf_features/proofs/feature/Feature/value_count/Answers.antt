use Rattle.std.proofs.Common.{arith}
use Rattle.sf_features.proofs.Entries.{AreByNumber-few}
use Rattle.sf_features.proofs.feature.Feature.value_count.Goals as goal

pub returns-clause-few : goal.returns-clause-few
returns-clause-few c = omega (arith, c.len.ensures, c.self.inside.values.ok.0, AreByNumber-few c.self.inside.values.items c.self.invariant)
