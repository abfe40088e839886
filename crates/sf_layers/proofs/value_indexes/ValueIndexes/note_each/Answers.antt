use Rattle.sf_layers.specs.ValueIndexes.{IsKnown}
use Rattle.sf_layers.proofs.ValueNotes.{all-known-kept, all_taken, kept-then}
use Rattle.std.proofs.Common.{take}
use Rattle.sf_layers.proofs.value_indexes.ValueIndexes.note_each.Goals as goal

pub loop-number-preserved : goal.loop-number-preserved
loop-number-preserved c =
    let old = c.loop-number.self in
    let values = c.args.values.now in (
      kept-then c.args.self.now old c.note.new.self c.loop-number.invariant.0 c.note.ensures.kept,
      all_taken (λ e. IsKnown c.note.new.self c.args.id e.0 e.1) values c.loop-number.number-index _ c.loop-number-test.true c.loop-number-item.is
          (all-known-kept old c.note.new.self c.args.id (take c.loop-number.number-index values) c.note.ensures.kept c.loop-number.invariant.1) c.note.ensures.known,
    )
