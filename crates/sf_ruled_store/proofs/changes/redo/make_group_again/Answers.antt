use Rattle.std.proofs.Common.{◌≡◌, sym, subst}
use Rattle.sf_layers.specs.Content.{Content}
use Rattle.sf_patches.specs.declared.halves.Halves.{Halves}
use Rattle.sf_ruled_store.specs.declared.changes.undo.Undo.TheVariants as undos
use Rattle.sf_ruled_store.specs.declared.changes.redo.Redo.TheVariants as redos
use Rattle.sf_ruled_store.specs.Changes.{MakesAgain}
use Rattle.sf_ruled_store.proofs.ChangeLaws.{group-made_again}
use Rattle.sf_ruled_store.proofs.changes.redo.make_group_again.Goals as goal

pub returns-in-Ok-clause-made : goal.returns-in-Ok-clause-made
returns-in-Ok-clause-made c =
    let old = c.args.store.now in
    let halves = c.args.halves in
    let by : Halves → Content → Type 0 = λ left new. MakesAgain old (redos.Group halves) (undos.Group left) new in
    subst (λ left. by left c.exchange.new.store) (sym c.in-Ok.ensures.back)
    (subst (by _) (sym c.in-Ok.ensures.exchanged) (group-made_again old halves c.requires))
