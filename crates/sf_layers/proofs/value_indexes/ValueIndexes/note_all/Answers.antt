use Rattle.std.proofs.Common.{subst}
use Rattle.std.specs.List.{AllByRecursion}
use Rattle.sf_layers.specs.ValueIndexes.{IsKnown}
use Rattle.sf_layers.proofs.ValueNotes.{all-known-empty}
use Rattle.sf_layers.proofs.value_indexes.ValueIndexes.note_all.Goals as goal

pub returns-then-is_empty-clause-known : goal.returns-then-is_empty-clause-known
returns-then-is_empty-clause-known c =
    subst (λ indexes. AllByRecursion (λ e. IsKnown indexes c.args.id e.0 e.1) c.args.values.now) c.self.view_is
    (all-known-empty c.self.inside.columns.entries c.args.id c.args.values.now (c.is_empty.ensures.0 c.if-is_empty.true))
