use Rattle.sf_layers.proofs.ValueNotes.{kept-then}
use Rattle.sf_layers.proofs.value_indexes.ValueIndexes.note.Goals as goal

pub returns-then-not-add-clause-kept : goal.returns-then-not-add-clause-kept
returns-then-not-add-clause-kept c = kept-then c.args.self.now c.add.new.self c.forget.new.self c.add.ensures.kept c.forget.ensures.kept
