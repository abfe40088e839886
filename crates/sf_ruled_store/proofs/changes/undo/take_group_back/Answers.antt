use Rattle.std.proofs.Common.{◌≡◌, sym, subst}
use Rattle.sf_layers.specs.Content.{Content}
use Rattle.sf_patches.specs.declared.halves.Halves.{Halves}
use Rattle.sf_ruled_store.specs.declared.changes.undo.Undo.TheVariants as undos
use Rattle.sf_ruled_store.specs.declared.changes.redo.Redo.TheVariants as redos
use Rattle.sf_ruled_store.specs.Changes.{TakesBack}
use Rattle.sf_ruled_store.proofs.ChangeLaws.{group-taken_back}
use Rattle.sf_ruled_store.proofs.changes.undo.take_group_back.Goals as goal

pub returns-in-Ok-clause-taken : goal.returns-in-Ok-clause-taken
returns-in-Ok-clause-taken c =
    let old = c.args.store.now in
    let halves = c.args.halves in
    let by : Halves → Content → Type 0 = λ left new. TakesBack old (undos.Group halves) (redos.Group left) new in
    subst (λ left. by left c.exchange.new.store) (sym c.in-Ok.ensures.back)
    (subst (by _) (sym c.in-Ok.ensures.exchanged) (group-taken_back old halves c.requires))
