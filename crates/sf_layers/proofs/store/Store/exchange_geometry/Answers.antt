use Rattle.std.proofs.Common.{◌∙◌, sym, ap, subst}
use Rattle.std.specs.BTreeMap.{get_by_text}
use Rattle.sf_features.specs.Features.{with_geometry}
use Rattle.sf_layers.specs.Content.{change_at, change_feature}
use Rattle.sf_layers.specs.WellFormed.{IsWellFormed}
use Rattle.sf_layers.proofs.Numbers.{IsNumbered-set_value_at, values-set_value_at}
use Rattle.sf_layers.proofs.store.Store.exchange_geometry.Goals as goal

pub returns-clause-put : goal.returns-clause-put
returns-clause-put c =
    values-set_value_at c.self.inside.layers.entries c.args.place c.in-Some.entry.now.0 c.in-Some.entry.now.1 c.exchange_geometry.new.self (change_feature c.args.id (with_geometry c.args.valid)) (sym c.in-Some.ensures.value) c.exchange_geometry.ensures.put
    ∙ ap (change_at c.args.place (change_feature c.args.id (with_geometry c.args.valid))) c.self.view_is

pub invariant_of-self : goal.invariant_of-self
invariant_of-self c = IsNumbered-set_value_at (get_by_text c.self.inside.numbers) c.self.inside.layers.entries c.self.inside.next_number c.args.place
    c.in-Some.entry.now.0 c.in-Some.entry.now.1 c.exchange_geometry.new.self c.self.invariant (sym c.in-Some.ensures.value)
    (subst IsWellFormed (sym (returns-clause-put c)) c.requires.fits)
