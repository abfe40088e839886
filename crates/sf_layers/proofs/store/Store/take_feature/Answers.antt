use Rattle.std.proofs.Common.{◌∙◌, sym, ap, subst}
use Rattle.std.specs.BTreeMap.{get_by_text}
use Rattle.sf_layers.specs.Content.{change_at, without_feature}
use Rattle.sf_layers.specs.WellFormed.{IsWellFormed}
use Rattle.sf_layers.proofs.Kept.{IsWellFormed-change_at, IsLayer-without_feature}
use Rattle.sf_layers.proofs.Numbers.{values-set_value_at, IsNumbered-set_value_at}
use Rattle.sf_layers.proofs.store.Store.take_feature.Goals as goal

pub returns-clause-rest : goal.returns-clause-rest
returns-clause-rest c =
    values-set_value_at c.self.inside.layers.entries c.args.place c.in-Some.entry.now.0 c.in-Some.entry.now.1 c.take_feature.new.self (without_feature c.args.id) (sym c.in-Some.ensures.value) c.take_feature.ensures.rest
    ∙ ap (change_at c.args.place (without_feature c.args.id)) c.self.view_is

pub invariant_of-self : goal.invariant_of-self
invariant_of-self c = IsNumbered-set_value_at (get_by_text c.self.inside.numbers) c.self.inside.layers.entries c.self.inside.next_number c.args.place
    c.in-Some.entry.now.0 c.in-Some.entry.now.1 c.take_feature.new.self c.self.invariant (sym c.in-Some.ensures.value) (subst IsWellFormed (sym (returns-clause-rest c)) (IsWellFormed-change_at c.args.self.now c.args.place (without_feature c.args.id) (IsLayer-without_feature c.args.id) (subst IsWellFormed c.self.view_is c.self.invariant.well_formed)))
