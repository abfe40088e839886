use Rattle.std.proofs.Common.{◌∙◌, ap, subst}
use Rattle.std.specs.List.{AllByRecursion}
use Rattle.sf_layers.specs.ValueIndexes.{IsKnown}
use Rattle.sf_layers.proofs.ValuesKept.{noted-on, noted-put}
use Rattle.sf_layers.specs.Boxes.{boxes_of}
use Rattle.sf_layers.specs.Content.{feature_of}
use Rattle.sf_layers.proofs.Boxes.{agrees-on, agrees-put, box-missing}
use Rattle.sf_layers.proofs.layer.Layer.put_feature.Goals as goal

pub put_box-requires : goal.put_box-requires
put_box-requires c = box-missing c.self.inside.index c.self.inside.features.entries c.args.id c.self.invariant.0 (ap (λ layer. feature_of layer c.args.id) c.self.view_is ∙ c.requires)

pub invariant_of-self : goal.invariant_of-self
invariant_of-self c = (
  agrees-on c.self.inside.index c.self.inside.features.entries c.insert_feature.new.features.entries c.self.invariant.0 (ap boxes_of c.in_err-insert_feature.ensures.unchanged),
  noted-on c.self.inside.values c.note_all.new.self c.self.inside.features.entries c.insert_feature.new.features.entries c.note_all.ensures.kept c.self.invariant.1 c.in_err-insert_feature.ensures.unchanged,
)

pub invariant_of-self-2 : goal.invariant_of-self-2
invariant_of-self-2 c = (
  agrees-put c.self.inside.index c.put_box.new.index c.self.inside.features.entries c.insert_feature.new.features.entries c.args.id c.args.feature c.extent_of-extent.result
      c.self.invariant.0 c.in_ok-insert_feature.ensures.put c.extent_of-extent.ensures c.put_box.ensures,
  noted-put c.self.inside.values c.note_all.new.self c.self.inside.features.entries c.insert_feature.new.features.entries c.args.id c.args.feature c.note_all.ensures.kept c.self.invariant.1
      (subst (AllByRecursion (λ e. IsKnown c.note_all.new.self c.args.id e.0 e.1)) c.values.ensures c.note_all.ensures.known) c.in_ok-insert_feature.ensures.put,
)
