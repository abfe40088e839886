use Rattle.std.proofs.Common.{◌≡◌, ◌∙◌, [], Some, option_map, sym, ap, subst}
use Rattle.std.specs.BTreeMap.{get_by_text}
use Rattle.sf_layers.specs.Content.{change_at, column_values, layer_at, with_values}
use Rattle.sf_layers.specs.WellFormed.{IsWellFormed}
use Rattle.sf_layers.proofs.Changed.{holds-there}
use Rattle.sf_layers.proofs.ColumnMoves.{none-values_in}
use Rattle.sf_layers.proofs.Numbers.{IsNumbered-set_value_at, values-set_value_at, values-set_value_at-same}
use Rattle.sf_layers.proofs.Outcomes.{OnErr-map, OnOk-map, by_outcome}
use Rattle.sf_layers.proofs.store.Store.put_values.Goals as goal

pub returns-clause-put : goal.returns-clause-put
returns-clause-put c = OnOk-map c.put_values.result
    (λ is. values-set_value_at c.self.inside.layers.entries c.args.place c.in-Some.entry.now.0 c.in-Some.entry.now.1 c.put_values.new.self (with_values c.args.number c.args.values) (sym c.in-Some.ensures.value) is
    ∙ ap (change_at c.args.place (with_values c.args.number c.args.values)) c.self.view_is)
    c.put_values.ensures.put

pub returns-clause-unchanged : goal.returns-clause-unchanged
returns-clause-unchanged c = OnErr-map c.put_values.result
    (λ is. values-set_value_at-same c.self.inside.layers.entries c.args.place c.in-Some.entry.now.0 c.in-Some.entry.now.1 c.put_values.new.self (sym c.in-Some.ensures.value) is ∙ c.self.view_is)
    c.put_values.ensures.unchanged

pub invariant_of-self : goal.invariant_of-self
invariant_of-self c = IsNumbered-set_value_at (get_by_text c.self.inside.numbers) c.self.inside.layers.entries c.self.inside.next_number c.args.place
    c.in-Some.entry.now.0 c.in-Some.entry.now.1 c.put_values.new.self c.self.invariant (sym c.in-Some.ensures.value)
    (by_outcome c.put_values.result (returns-clause-put c) (returns-clause-unchanged c)
    (λ is. subst IsWellFormed (sym is) c.requires.fits)
    (λ is. subst IsWellFormed (c.self.view_is ∙ sym is) c.self.invariant.well_formed))

-- no feature has a value in the column
pub put_values-requires-clause-bare : goal.put_values-requires-clause-bare
put_values-requires-clause-bare c =
    let at : layer_at c.args.self.now c.args.place ≡ Some c.in-Some.entry.now.1 = ap (λ content. layer_at content c.args.place) (sym c.self.view_is) ∙ ap (option_map (λ entry. entry.1)) (sym c.in-Some.ensures.value) in
    none-values_in c.args.number c.in-Some.entry.now.1.features
    (holds-there (λ layer. column_values c.args.number layer ≡ []) (layer_at c.args.self.now c.args.place) c.in-Some.entry.now.1 at c.requires.bare)
