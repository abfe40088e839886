use Rattle.std.proofs.Common.{ap, Some}
use Rattle.sf_layers.proofs.ColumnMoves.{feature-given}
use Rattle.sf_layers.proofs.ValueNotes.{kept-itself}
use Rattle.sf_layers.proofs.ValuesKept.{noted-no_value, noted-written}
use Rattle.sf_layers.proofs.Boxes.{agrees-written}
use Rattle.sf_features.specs.Features.{without_value}
use Rattle.sf_layers.proofs.Changed.{feature-changed}
use Rattle.sf_layers.specs.contracts.layer.Layer.{the_view}
use Rattle.sf_layers.proofs.layer.Layer.take_value.Goals as goal

pub returns-clause-rest : goal.returns-clause-rest
returns-clause-rest c =
    feature-changed (the_view c.self.inside) c.args.self.now c.args.id c.in-Some.feature.now c.take_value.new.self (without_value c.args.number) (c.get_mut.follows.lender c.take_value.new.self).entries
    c.self.view_is c.in-Some.ensures.value (c.get_mut.follows.holds c.take_value.new.self).0 c.take_value.ensures.rest

pub invariant_of-self : goal.invariant_of-self
invariant_of-self c =
    let features = c.self.inside.features.entries in
    let found = feature-given features c.args.id (Some c.in-Some.feature.now) c.in-Some.ensures.value in (
      agrees-written c.self.inside.index features (c.get_mut.follows.lender c.take_value.new.self).entries c.args.id c.in-Some.feature.now c.take_value.new.self
          c.self.invariant.0 c.in-Some.ensures.value (c.get_mut.follows.holds c.take_value.new.self).0 (ap (λ f. f.geometry) c.take_value.ensures.rest),
      noted-written c.self.inside.values c.self.inside.values features (c.get_mut.follows.lender c.take_value.new.self).entries c.args.id c.take_value.new.self (kept-itself c.self.inside.values) c.self.invariant.1
          (noted-no_value c.self.inside.values features c.args.id c.args.number c.in-Some.feature.now c.take_value.new.self c.self.invariant.1 found c.take_value.ensures.rest)
          (c.get_mut.follows.holds c.take_value.new.self).0,
    )
