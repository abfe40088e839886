use Rattle.std.proofs.Common.{◌∙◌, sym, ap, subst}
use Rattle.std.specs.BTreeMap.{get_by_text}
use Rattle.sf_layers.specs.Content.{change_at, with_next_column}
use Rattle.sf_layers.specs.WellFormed.{IsWellFormed}
use Rattle.sf_layers.proofs.Numbers.{IsNumbered-set_value_at, values-set_value_at}
use Rattle.sf_layers.proofs.store.Store.set_next_column.Goals as goal

pub returns : goal.returns
returns c =
    values-set_value_at c.self.inside.layers.entries c.args.place c.in-Some.entry.now.0 c.in-Some.entry.now.1 c.set_next_column.new.self (with_next_column c.args.next_column) (sym c.in-Some.ensures.value) c.set_next_column.ensures
    ∙ ap (change_at c.args.place (with_next_column c.args.next_column)) c.self.view_is

pub invariant_of-self : goal.invariant_of-self
invariant_of-self c = IsNumbered-set_value_at (get_by_text c.self.inside.numbers) c.self.inside.layers.entries c.self.inside.next_number c.args.place
    c.in-Some.entry.now.0 c.in-Some.entry.now.1 c.set_next_column.new.self c.self.invariant (sym c.in-Some.ensures.value)
    (subst IsWellFormed (sym (returns c)) c.requires.fits)
