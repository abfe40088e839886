use Rattle.std.proofs.Common.{◌∙◌, sym, ap, subst}
use Rattle.std.specs.BTreeMap.{get_by_text}
use Rattle.std.specs.Map.{values_of}
use Rattle.sf_layers.specs.Content.{change_at, with_last_column}
use Rattle.sf_layers.specs.WellFormed.{IsWellFormed}
use Rattle.sf_layers.proofs.Changes.{IsLayer-slice_get}
use Rattle.sf_layers.proofs.ColumnsAdded.{numbered-next}
use Rattle.sf_layers.proofs.Numbers.{IsNumbered-set_value_at, values-set_value_at, values-set_value_at-same}
use Rattle.sf_layers.proofs.Outcomes.{OnErr-map, OnOk-map, by_outcome}
use Rattle.sf_layers.proofs.store.Store.push_column.Goals as goal

-- no column has the next number
pub push_column-requires-clause-unused : goal.push_column-requires-clause-unused
push_column-requires-clause-unused c =
    numbered-next c.in-Some.entry.now.1.next_column c.in-Some.entry.now.1.columns
    (IsLayer-slice_get (values_of c.self.inside.layers.entries) c.args.place c.in-Some.entry.now (sym c.in-Some.ensures.value) c.self.invariant.well_formed.layers).columns

pub returns-clause-pushed : goal.returns-clause-pushed
returns-clause-pushed c = OnOk-map c.push_column.result
    (λ is. values-set_value_at c.self.inside.layers.entries c.args.place c.in-Some.entry.now.0 c.in-Some.entry.now.1 c.push_column.new.self (with_last_column c.args.name c.args.column_type) (sym c.in-Some.ensures.value) is
    ∙ ap (change_at c.args.place (with_last_column c.args.name c.args.column_type)) c.self.view_is)
    c.push_column.ensures.pushed

pub returns-clause-unchanged : goal.returns-clause-unchanged
returns-clause-unchanged c = OnErr-map c.push_column.result
    (λ is. values-set_value_at-same c.self.inside.layers.entries c.args.place c.in-Some.entry.now.0 c.in-Some.entry.now.1 c.push_column.new.self (sym c.in-Some.ensures.value) is ∙ c.self.view_is)
    c.push_column.ensures.unchanged

pub invariant_of-self : goal.invariant_of-self
invariant_of-self c = IsNumbered-set_value_at (get_by_text c.self.inside.numbers) c.self.inside.layers.entries c.self.inside.next_number c.args.place
    c.in-Some.entry.now.0 c.in-Some.entry.now.1 c.push_column.new.self c.self.invariant (sym c.in-Some.ensures.value)
    (by_outcome c.push_column.result (returns-clause-pushed c) (returns-clause-unchanged c)
    (λ is. subst IsWellFormed (sym is) c.requires.fits)
    (λ is. subst IsWellFormed (c.self.view_is ∙ sym is) c.self.invariant.well_formed))
