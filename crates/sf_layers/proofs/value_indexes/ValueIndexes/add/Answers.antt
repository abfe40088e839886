use Rattle.std.proofs.Common.{ap, is_some, subst, sym}
use Rattle.sf_layers.specs.ValueIndexes.{AreKept}
use Rattle.sf_layers.specs.contracts.value_indexes.ValueIndexes.{the_view}
use Rattle.sf_layers.proofs.ValueNotes.{kept-grown, kept-itself}
use Rattle.sf_layers.proofs.value_indexes.ValueIndexes.add.Goals as goal
use Rattle.sf_layers.proofs.value_indexes.ValueIndexes.add.Goals.{in-Some, in-None}

pub returns-clause-kept : goal.returns-clause-kept
returns-clause-kept c = elim c.match-get_mut.branch [
  | in-Some w ↦
      let found = w.in-Some.ensures.value in
      subst (λ inside. AreKept c.args.self.now (the_view inside)) (sym w.self-inside-is)
      (subst (λ old. AreKept old (c.get_mut.follows.lender w.note.new.self).entries) c.self.view_is
      (kept-grown c.args.number w.in-Some.index.now w.note.new.self c.self.inside.columns.entries (c.get_mut.follows.lender w.note.new.self).entries found w.note.ensures.kept
      ((c.get_mut.follows.holds w.note.new.self).3 (ap is_some (sym found))).0))
  | in-None w ↦
      subst (λ inside. AreKept c.args.self.now (the_view inside)) (sym w.self-inside-is)
      (subst (λ old. AreKept old c.get_mut.follows.lender-at-none.entries) c.self.view_is
      (subst (λ map. AreKept c.self.inside.columns.entries map.entries) (sym c.get_mut.follows.holds-at-none) (kept-itself c.self.inside.columns.entries)))
]
