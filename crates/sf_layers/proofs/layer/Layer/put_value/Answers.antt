use Rattle.sf_features.specs.Features.{with_value}
use Rattle.std.proofs.Common.{ap, Some}
use Rattle.sf_layers.proofs.ColumnMoves.{feature-given}
use Rattle.sf_layers.proofs.ValuesKept.{noted-same, noted-value, noted-written}
use Rattle.sf_layers.proofs.Boxes.{agrees-written}
use Rattle.sf_layers.proofs.Changed.{feature-changed, feature-kept}
use Rattle.sf_layers.proofs.Outcomes.{OnErr-map, OnOk-map, by_outcome}
use Rattle.sf_layers.specs.contracts.layer.Layer.{the_view}
use Rattle.sf_layers.proofs.layer.Layer.put_value.Goals as goal

pub returns-clause-put : goal.returns-clause-put
returns-clause-put c = OnOk-map c.put_value.result
    (λ is. feature-changed (the_view c.self.inside) c.args.self.now c.args.id c.in-Some.feature.now c.put_value.new.self (with_value c.args.number c.args.value) (c.get_mut.follows.lender c.put_value.new.self).entries
    c.self.view_is c.in-Some.ensures.value (c.get_mut.follows.holds c.put_value.new.self).0 is)
    c.put_value.ensures.put

pub returns-clause-unchanged : goal.returns-clause-unchanged
returns-clause-unchanged c = OnErr-map c.put_value.result
    (λ is. feature-kept (the_view c.self.inside) c.args.self.now c.args.id c.in-Some.feature.now c.put_value.new.self (c.get_mut.follows.lender c.put_value.new.self).entries
    c.self.view_is c.in-Some.ensures.value (c.get_mut.follows.holds c.put_value.new.self).0 is)
    c.put_value.ensures.unchanged

-- the geometry is the same, whatever comes of the value, and the indexes know the value
pub invariant_of-self : goal.invariant_of-self
invariant_of-self c =
    let features = c.self.inside.features.entries in
    let found = feature-given features c.args.id (Some c.in-Some.feature.now) c.in-Some.ensures.value in (
      agrees-written c.self.inside.index features (c.get_mut.follows.lender c.put_value.new.self).entries c.args.id c.in-Some.feature.now c.put_value.new.self
          c.self.invariant.0 c.in-Some.ensures.value (c.get_mut.follows.holds c.put_value.new.self).0
          (by_outcome c.put_value.result c.put_value.ensures.put c.put_value.ensures.unchanged (λ is. ap (λ f. f.geometry) is) (λ is. ap (λ f. f.geometry) is)),
      noted-written c.self.inside.values c.note.new.self features (c.get_mut.follows.lender c.put_value.new.self).entries c.args.id c.put_value.new.self c.note.ensures.kept c.self.invariant.1
          (by_outcome c.put_value.result c.put_value.ensures.put c.put_value.ensures.unchanged
          (noted-value c.self.inside.values c.note.new.self features c.args.id c.args.number c.args.value c.in-Some.feature.now c.put_value.new.self c.note.ensures.kept c.self.invariant.1 found c.note.ensures.known)
          (noted-same c.self.inside.values c.note.new.self features c.args.id c.in-Some.feature.now c.put_value.new.self c.note.ensures.kept c.self.invariant.1 found))
          (c.get_mut.follows.holds c.put_value.new.self).0,
    )
