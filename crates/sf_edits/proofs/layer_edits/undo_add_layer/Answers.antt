use Rattle.std.proofs.Common.{◌≡◌, ◌-◌, ◌∙◌, sym, ap, subst, length, remove, slice_get, Some}
use Rattle.sf_steps.specs.declared.edit.Edit.TheVariants.{AddLayer}
use Rattle.sf_steps.specs.declared.inverse.Inverse.TheVariants.{TakeLayer}
use Rattle.sf_steps.specs.Inverses.{adding_layer, described}
use Rattle.sf_edits.proofs.Carrying.{Reverts-described}
use Rattle.sf_edits.proofs.LayerLaws.{remove-end}
use Rattle.sf_edits.proofs.layer_edits.undo_add_layer.Goals as goal

pub returns : goal.returns
returns c =
    let taken : slice_get c.args.store.now (length c.args.store.now - 1) ≡ Some c.take_layer-name.result =
    subst (λ n. slice_get c.args.store.now (n - 1) ≡ Some c.take_layer-name.result) c.layer_count-last.ensures.count c.take_layer-name.ensures.taken in
    let new : c.take_layer-name.new.self ≡ described c.args.store.now TakeLayer =
    c.take_layer-name.ensures.rest ∙ ap (λ n. remove c.args.store.now (n - 1)) c.layer_count-last.ensures.count ∙ remove-end c.args.store.now in
    Reverts-described c.args.store.now c.take_layer-name.new.self TakeLayer (AddLayer c.take_layer-name.result.0 c.kind.result) c.requires new
    (ap (AddLayer c.take_layer-name.result.0) c.kind.ensures ∙ sym (ap adding_layer taken))
