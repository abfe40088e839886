use Rattle.std.proofs.Common.{◌∙◌, sym, ap, subst}
use Rattle.std.specs.BTreeMap.{get_by_text}
use Rattle.sf_layers.specs.Content.{change_at, without_values}
use Rattle.sf_layers.specs.WellFormed.{IsWellFormed}
use Rattle.sf_layers.proofs.ChangedAt.{IsLayer-without_values}
use Rattle.sf_layers.proofs.Outcomes.{OnOk-all}
use Rattle.sf_layers.proofs.Kept.{IsWellFormed-change_at}
use Rattle.sf_layers.proofs.Numbers.{IsNumbered-set_value_at, values-set_value_at, values-set_value_at-same}
use Rattle.sf_layers.proofs.Outcomes.{OnErr-map, OnOk-both, OnOk-map, by_outcome}
use Rattle.sf_layers.proofs.store.Store.take_values.Goals as goal

pub returns-clause-rest : goal.returns-clause-rest
returns-clause-rest c = OnOk-map c.take_values.result
    (λ is. values-set_value_at c.self.inside.layers.entries c.args.place c.in-Some.entry.now.0 c.in-Some.entry.now.1 c.take_values.new.self (without_values c.args.number) (sym c.in-Some.ensures.value) is
    ∙ ap (change_at c.args.place (without_values c.args.number)) c.self.view_is)
    c.take_values.ensures.rest

pub returns-clause-unchanged : goal.returns-clause-unchanged
returns-clause-unchanged c = OnErr-map c.take_values.result
    (λ is. values-set_value_at-same c.self.inside.layers.entries c.args.place c.in-Some.entry.now.0 c.in-Some.entry.now.1 c.take_values.new.self (sym c.in-Some.ensures.value) is ∙ c.self.view_is)
    c.take_values.ensures.unchanged

pub invariant_of-self : goal.invariant_of-self
invariant_of-self c = IsNumbered-set_value_at (get_by_text c.self.inside.numbers) c.self.inside.layers.entries c.self.inside.next_number c.args.place
    c.in-Some.entry.now.0 c.in-Some.entry.now.1 c.take_values.new.self c.self.invariant (sym c.in-Some.ensures.value)
    (by_outcome c.take_values.result (OnOk-both _ _ c.take_values.result (returns-clause-rest c) (OnOk-all _ c.take_values.result (IsWellFormed-change_at c.args.self.now c.args.place (without_values c.args.number) (IsLayer-without_values c.args.number) (subst IsWellFormed c.self.view_is c.self.invariant.well_formed)))) (returns-clause-unchanged c)
    (λ is. subst IsWellFormed (sym is.0) is.1)
    (λ is. subst IsWellFormed (c.self.view_is ∙ sym is) c.self.invariant.well_formed))
