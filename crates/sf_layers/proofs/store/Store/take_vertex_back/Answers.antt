use Rattle.std.proofs.Common.{◌∙◌, sym, ap, subst}
use Rattle.std.specs.BTreeMap.{get_by_text}
use Rattle.sf_geometry.specs.Vertices.{remove_vertex}
use Rattle.sf_features.specs.Features.{change_geometry}
use Rattle.sf_layers.specs.Content.{change_at, change_feature}
use Rattle.sf_layers.specs.WellFormed.{IsWellFormed}
use Rattle.sf_layers.proofs.Numbers.{IsNumbered-set_value_at, values-set_value_at}
use Rattle.sf_layers.proofs.store.Store.take_vertex_back.Goals as goal

pub returns-clause-removed : goal.returns-clause-removed
returns-clause-removed c =
    values-set_value_at c.self.inside.layers.entries c.args.place c.in-Some.entry.now.0 c.in-Some.entry.now.1 c.take_vertex_back.new.self (change_feature c.args.id (change_geometry (λ g. remove_vertex g c.args.part c.args.ring c.args.index))) (sym c.in-Some.ensures.value) c.take_vertex_back.ensures.removed
    ∙ ap (change_at c.args.place (change_feature c.args.id (change_geometry (λ g. remove_vertex g c.args.part c.args.ring c.args.index)))) c.self.view_is

pub invariant_of-self : goal.invariant_of-self
invariant_of-self c = IsNumbered-set_value_at (get_by_text c.self.inside.numbers) c.self.inside.layers.entries c.self.inside.next_number c.args.place
    c.in-Some.entry.now.0 c.in-Some.entry.now.1 c.take_vertex_back.new.self c.self.invariant (sym c.in-Some.ensures.value)
    (subst IsWellFormed (sym (returns-clause-removed c)) c.requires.fits)
