use Rattle.std.proofs.Common.{sym, subst}
use Rattle.sf_features.specs.Features.{AreByNumber}
use Rattle.sf_features.proofs.Entries.{AreByNumber-none}
use Rattle.sf_features.proofs.feature.Feature.new.Goals as goal

pub invariant_of-result : goal.invariant_of-result
invariant_of-result c = subst AreByNumber (sym c.new.ensures.items) AreByNumber-none
