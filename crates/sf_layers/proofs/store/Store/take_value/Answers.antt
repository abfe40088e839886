use Rattle.std.proofs.Common.{◌∙◌, sym, ap, subst}
use Rattle.std.specs.BTreeMap.{get_by_text}
use Rattle.sf_features.specs.Features.{without_value}
use Rattle.sf_layers.specs.Content.{change_at, change_feature}
use Rattle.sf_layers.specs.WellFormed.{IsWellFormed}
use Rattle.sf_layers.proofs.ChangedAt.{IsWellFormed-without_value}
use Rattle.sf_layers.proofs.Numbers.{IsNumbered-set_value_at, values-set_value_at}
use Rattle.sf_layers.proofs.store.Store.take_value.Goals as goal

pub returns-clause-rest : goal.returns-clause-rest
returns-clause-rest c =
    values-set_value_at c.self.inside.layers.entries c.args.place c.in-Some.entry.now.0 c.in-Some.entry.now.1 c.take_value.new.self (change_feature c.args.id (without_value c.args.number)) (sym c.in-Some.ensures.value) c.take_value.ensures.rest
    ∙ ap (change_at c.args.place (change_feature c.args.id (without_value c.args.number))) c.self.view_is

pub invariant_of-self : goal.invariant_of-self
invariant_of-self c = IsNumbered-set_value_at (get_by_text c.self.inside.numbers) c.self.inside.layers.entries c.self.inside.next_number c.args.place
    c.in-Some.entry.now.0 c.in-Some.entry.now.1 c.take_value.new.self c.self.invariant (sym c.in-Some.ensures.value)
    (subst IsWellFormed (sym (returns-clause-rest c)) (IsWellFormed-without_value c.args.self.now c.args.place c.args.id c.args.number c.requires (subst IsWellFormed c.self.view_is c.self.invariant.well_formed)))
