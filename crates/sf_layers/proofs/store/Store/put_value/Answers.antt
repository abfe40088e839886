use Rattle.std.proofs.Common.{◌∙◌, sym, ap, subst}
use Rattle.std.specs.BTreeMap.{get_by_text}
use Rattle.sf_features.specs.Features.{with_value}
use Rattle.sf_layers.specs.Content.{change_at, change_feature}
use Rattle.sf_layers.specs.WellFormed.{IsWellFormed}
use Rattle.sf_layers.proofs.Numbers.{IsNumbered-set_value_at, values-set_value_at, values-set_value_at-same}
use Rattle.sf_layers.proofs.Outcomes.{OnErr-map, OnOk-map, by_outcome}
use Rattle.sf_layers.proofs.store.Store.put_value.Goals as goal

pub returns-clause-put : goal.returns-clause-put
returns-clause-put c = OnOk-map c.put_value.result
    (λ is. values-set_value_at c.self.inside.layers.entries c.args.place c.in-Some.entry.now.0 c.in-Some.entry.now.1 c.put_value.new.self (change_feature c.args.id (with_value c.args.number c.args.value)) (sym c.in-Some.ensures.value) is
    ∙ ap (change_at c.args.place (change_feature c.args.id (with_value c.args.number c.args.value))) c.self.view_is)
    c.put_value.ensures.put

pub returns-clause-unchanged : goal.returns-clause-unchanged
returns-clause-unchanged c = OnErr-map c.put_value.result
    (λ is. values-set_value_at-same c.self.inside.layers.entries c.args.place c.in-Some.entry.now.0 c.in-Some.entry.now.1 c.put_value.new.self (sym c.in-Some.ensures.value) is ∙ c.self.view_is)
    c.put_value.ensures.unchanged

pub invariant_of-self : goal.invariant_of-self
invariant_of-self c = IsNumbered-set_value_at (get_by_text c.self.inside.numbers) c.self.inside.layers.entries c.self.inside.next_number c.args.place
    c.in-Some.entry.now.0 c.in-Some.entry.now.1 c.put_value.new.self c.self.invariant (sym c.in-Some.ensures.value)
    (by_outcome c.put_value.result (returns-clause-put c) (returns-clause-unchanged c)
    (λ is. subst IsWellFormed (sym is) c.requires.fits)
    (λ is. subst IsWellFormed (c.self.view_is ∙ sym is) c.self.invariant.well_formed))
