use Rattle.std.proofs.Common.{subst}
use Rattle.sf_ruled_store.specs.Laws.{IsKept}
use Rattle.sf_ruled_store.specs.Outcomes.{ruled}
use Rattle.sf_ruled_store.proofs.RuledLaws.{is_settled-kept}
use Rattle.sf_ruled_store.proofs.ruled.Ruled.rule_count.Goals as goal

pub returns-clause-kept : goal.returns-clause-kept
returns-clause-kept c =
    subst IsKept c.self.view_is
    (is_settled-kept (ruled c.self.inside.store c.self.inside.rules) c.layer_count.ensures.well_formed c.self.invariant)
