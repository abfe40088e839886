use Rattle.std.proofs.Common.{◌≡◌, ◌∙◌, true, Err, sym, subst}
use Rattle.sf_ruled_store.specs.Changes.{OfEdit}
use Rattle.sf_ruled_store.specs.declared.refusal.Refusal.TheVariants.{ColumnRuled, LayerRuled}
use Rattle.sf_ruled_store.specs.Outcomes.{ruled}
use Rattle.sf_ruled_store.specs.Ruled.{OfChange, ruled_step}
use Rattle.sf_ruled_store.specs.Undos.{is_seen}
use Rattle.sf_ruled_store.proofs.CallLaws.{column-refused, dropped-refused, not-seen}
use Rattle.sf_ruled_store.proofs.edits.carry_out_ruled.Goals as goal

pub returns-in-DropLayer-clause-refused : goal.returns-in-DropLayer-clause-refused
returns-in-DropLayer-clause-refused c =
    let store = c.args.store.now in
    let rules = c.args.rules.now in
    subst (λ edit. ruled_step (ruled store rules) (OfChange (OfEdit edit)) ≡ Err LayerRuled) (sym c.in-DropLayer.is)
    (dropped-refused store rules c.in-DropLayer.name c.is_well_formed.ensures c.requires.settled
    (subst (λ edit. is_seen edit rules ≡ true) c.in-DropLayer.is c.requires.seen))

pub returns-in-DropColumn-clause-refused : goal.returns-in-DropColumn-clause-refused
returns-in-DropColumn-clause-refused c =
    let store = c.args.store.now in
    let rules = c.args.rules.now in
    subst (λ edit. ruled_step (ruled store rules) (OfChange (OfEdit edit)) ≡ Err ColumnRuled) (sym c.in-DropColumn.is)
    (column-refused store rules c.in-DropColumn.layer c.in-DropColumn.name c.is_well_formed.ensures c.requires.settled
    (subst (λ edit. is_seen edit rules ≡ true) c.in-DropColumn.is c.requires.seen))

pub carry_out_unseen-requires : goal.carry_out_unseen-requires
carry_out_unseen-requires c = record {
  settled = c.requires.settled;
  unseen = not-seen c.args.edit c.args.rules.now (sym c.is_of_features.ensures ∙ c.if-is_of_features.false) c.in_default.not-DropLayer c.in_default-edit.not-DropColumn c.in_default-edit-2.not-RenameLayer;
}
