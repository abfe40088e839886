use Rattle.std.proofs.Common.{◌∙◌, sym, subst}
use Rattle.std.specs.BTreeMap.{get_by_text}
use Rattle.sf_layers.specs.WellFormed.{IsWellFormed}
use Rattle.sf_layers.proofs.Numbers.{IsNumbered-set_value_at, values-set_value_at-same}
use Rattle.sf_layers.proofs.store.Store.index_values.Goals as goal

pub returns : goal.returns
returns c =
    values-set_value_at-same c.self.inside.layers.entries c.args.place c.in-Some.entry.now.0 c.in-Some.entry.now.1 c.index_values.new.self (sym c.in-Some.ensures.value) c.index_values.ensures
    ∙ c.self.view_is

pub invariant_of-self-2 : goal.invariant_of-self-2
invariant_of-self-2 c = IsNumbered-set_value_at (get_by_text c.self.inside.numbers) c.self.inside.layers.entries c.self.inside.next_number c.args.place
    c.in-Some.entry.now.0 c.in-Some.entry.now.1 c.index_values.new.self c.self.invariant (sym c.in-Some.ensures.value)
    (subst IsWellFormed (c.self.view_is ∙ sym (returns c)) c.self.invariant.well_formed)
