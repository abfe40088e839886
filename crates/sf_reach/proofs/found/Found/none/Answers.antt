use Rattle.sf_reach.proofs.FoundLaws.{set-none}
use Rattle.sf_reach.proofs.found.Found.none.Goals as goal

pub invariant_of-result : goal.invariant_of-result
invariant_of-result c = set-none c.new-2.result c.new.result.items c.new-2.ensures.empty c.new.ensures.items
