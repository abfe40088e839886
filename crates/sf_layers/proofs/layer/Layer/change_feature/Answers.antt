use Rattle.std.proofs.Common.{refl, subst}
use Rattle.std.specs.List.{AllByRecursion}
use Rattle.sf_layers.specs.ValueIndexes.{IsKnown}
use Rattle.sf_layers.proofs.ValuesKept.{noted-written}
use Rattle.std.specs.Fn.{FnOnceTakesAtMut}
use Rattle.sf_layers.proofs.Boxes.{agrees-changed, box-there, boxes-rise}
use Rattle.sf_layers.proofs.Changed.{feature-changed, feature-found, holds-there}
use Rattle.sf_layers.specs.Content.{feature_of}
use Rattle.sf_layers.specs.contracts.layer.Layer.{the_view}
use Rattle.sf_layers.proofs.layer.Layer.change_feature.Goals as goal

pub change-given-requires : goal.change-given-requires
change-given-requires g c =
    holds-there (FnOnceTakesAtMut g.F.FnOnce c.args.change) (feature_of c.args.self.now c.args.id) c.in-Some.feature.now
    (feature-found (the_view c.self.inside) c.args.self.now c.args.id c.in-Some.feature.now c.self.view_is c.in-Some.ensures.value) c.requires _ refl

pub move_box-requires-clause-there : goal.move_box-requires-clause-there
move_box-requires-clause-there g c = box-there c.self.inside.index c.self.inside.features.entries c.args.id c.in-Some.feature.now c.extent_of-before.result c.self.invariant.0 c.in-Some.ensures.value c.extent_of-before.ensures

pub move_box-requires-clause-rising : goal.move_box-requires-clause-rising
move_box-requires-clause-rising g c = boxes-rise c.self.inside.index c.self.inside.features.entries c.self.invariant.0 c.in-Some.ensures.ordered

pub invariant_of-self : goal.invariant_of-self
invariant_of-self g c =
    let features = c.self.inside.features.entries in
    let after = c.change-given.new.arg2 in (
      agrees-changed c.self.inside.index c.move_box.new.index features (c.get_mut.follows.lender after).entries c.args.id after c.extent_of.result
          c.self.invariant.0 (c.get_mut.follows.holds after).0 c.extent_of.ensures c.move_box.ensures,
      noted-written c.self.inside.values c.note_all.new.self features (c.get_mut.follows.lender after).entries c.args.id after c.note_all.ensures.kept c.self.invariant.1
          (subst (AllByRecursion (λ e. IsKnown c.note_all.new.self c.args.id e.0 e.1)) c.values.ensures c.note_all.ensures.known) (c.get_mut.follows.holds after).0,
    )

pub returns : goal.returns
returns g c =
    let before = c.in-Some.feature.now in
    let after = c.change-given.new.arg2 in (
      before,
      after,
      feature-found (the_view c.self.inside) c.args.self.now c.args.id before c.self.view_is c.in-Some.ensures.value,
      record { shown = _; shows = refl; left = _; met = c.change-given.ensures; leaves = refl },
      feature-changed (the_view c.self.inside) c.args.self.now c.args.id before after (λ _. after) (c.get_mut.follows.lender after).entries
          c.self.view_is c.in-Some.ensures.value (c.get_mut.follows.holds after).0 refl,
    )
