use Rattle.std.proofs.Common.{arith, ◌∙◌, sym, ap, subst}
use Rattle.std.specs.BTreeMap.{get_by_text}
use Rattle.std.specs.Map.{values_of}
use Rattle.sf_layers.specs.Content.{change_at, without_last_column}
use Rattle.sf_layers.specs.WellFormed.{IsWellFormed}
use Rattle.sf_layers.proofs.Changes.{IsLayer-slice_get}
use Rattle.sf_layers.proofs.Numbers.{IsNumbered-set_value_at, values-set_value_at}
use Rattle.sf_layers.proofs.store.Store.pop_column.Goals as goal

pub pop_column-requires-clause-counted : goal.pop_column-requires-clause-counted
pop_column-requires-clause-counted c =
    let is = IsLayer-slice_get (values_of c.self.inside.layers.entries) c.args.place c.in-Some.entry.now (sym c.in-Some.ensures.value) c.self.invariant.well_formed.layers in
    omega (arith, is.next_column)

pub returns-clause-rest : goal.returns-clause-rest
returns-clause-rest c =
    values-set_value_at c.self.inside.layers.entries c.args.place c.in-Some.entry.now.0 c.in-Some.entry.now.1 c.pop_column.new.self without_last_column (sym c.in-Some.ensures.value) c.pop_column.ensures.rest
    ∙ ap (change_at c.args.place without_last_column) c.self.view_is

pub invariant_of-self : goal.invariant_of-self
invariant_of-self c = IsNumbered-set_value_at (get_by_text c.self.inside.numbers) c.self.inside.layers.entries c.self.inside.next_number c.args.place
    c.in-Some.entry.now.0 c.in-Some.entry.now.1 c.pop_column.new.self c.self.invariant (sym c.in-Some.ensures.value)
    (subst IsWellFormed (sym (returns-clause-rest c)) c.requires.fits)
