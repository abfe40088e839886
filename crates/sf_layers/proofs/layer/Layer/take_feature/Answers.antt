use Rattle.std.proofs.Common.{◌∙◌, sym}
use Rattle.std.specs.BTreeMap.{is_at}
use Rattle.std.specs.Ordering.{nat_cmp}
use Rattle.sf_layers.proofs.Boxes.{agrees-taken, box-there}
use Rattle.sf_layers.proofs.ValuesKept.{noted-taken}
use Rattle.sf_layers.proofs.layer.Layer.take_feature.Goals as goal

pub take_box-requires : goal.take_box-requires
take_box-requires c =
    box-there c.self.inside.index c.self.inside.features.entries c.args.id c.unwrap-feature.result c.extent_of.result c.self.invariant.0
    (sym c.unwrap-feature.ensures ∙ c.remove.ensures.value) c.extent_of.ensures

pub invariant_of-self : goal.invariant_of-self
invariant_of-self c = (
  agrees-taken c.self.inside.index c.take_box.new.index c.self.inside.features.entries c.remove.new.self.entries c.args.id c.self.invariant.0 c.remove.ensures.entries c.take_box.ensures,
  noted-taken c.self.inside.values c.self.inside.features.entries c.remove.new.self.entries (is_at (nat_cmp c.args.id)) c.self.invariant.1 c.remove.ensures.entries,
)
