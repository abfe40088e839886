use Rattle.std.proofs.Common.{subst}
use Rattle.sf_layers.specs.ValueIndexes.{AreKept}
use Rattle.sf_layers.proofs.ValueNotes.{kept-removed}
use Rattle.sf_layers.proofs.value_indexes.ValueIndexes.forget.Goals as goal

pub returns-clause-kept : goal.returns-clause-kept
returns-clause-kept c = subst (λ old. AreKept old c.remove.new.self.entries) c.self.view_is
    (kept-removed c.args.number c.self.inside.columns.entries c.remove.new.self.entries c.remove.ensures.updates.0)
