use Rattle.std.proofs.Common.{◌∙◌, sym, ap, subst, IsOkAnd, slice_get}
use Rattle.std.specs.BTreeMap.{get_by_text}
use Rattle.sf_geometry.specs.Vertices.{removal, remove_vertex}
use Rattle.sf_validity.specs.Held.{IsHeld}
use Rattle.sf_features.specs.Features.{change_geometry}
use Rattle.sf_layers.specs.Content.{change_at, change_feature}
use Rattle.sf_layers.specs.WellFormed.{IsWellFormed}
use Rattle.sf_layers.proofs.ChangedAt.{IsWellFormed-vertex, feature_at-held}
use Rattle.sf_layers.proofs.Numbers.{IsNumbered-set_value_at, values-set_value_at, values-set_value_at-same}
use Rattle.sf_layers.proofs.Outcomes.{OnErr-map, OnOk-both, OnOk-map, by_outcome}
use Rattle.sf_layers.proofs.store.Store.remove_vertex.Goals as goal

pub returns-clause-removed : goal.returns-clause-removed
returns-clause-removed c = OnOk-map c.remove_vertex.result
    (λ is. values-set_value_at c.self.inside.layers.entries c.args.place c.in-Some.entry.now.0 c.in-Some.entry.now.1 c.remove_vertex.new.self (change_feature c.args.id (change_geometry (λ g. remove_vertex g c.args.part c.args.ring c.args.index))) (sym c.in-Some.ensures.value) is
    ∙ ap (change_at c.args.place (change_feature c.args.id (change_geometry (λ g. remove_vertex g c.args.part c.args.ring c.args.index)))) c.self.view_is)
    c.remove_vertex.ensures.removed

pub returns-clause-unchanged : goal.returns-clause-unchanged
returns-clause-unchanged c = OnErr-map c.remove_vertex.result
    (λ is. values-set_value_at-same c.self.inside.layers.entries c.args.place c.in-Some.entry.now.0 c.in-Some.entry.now.1 c.remove_vertex.new.self (sym c.in-Some.ensures.value) is ∙ c.self.view_is)
    c.remove_vertex.ensures.unchanged

pub invariant_of-self : goal.invariant_of-self
invariant_of-self c = IsNumbered-set_value_at (get_by_text c.self.inside.numbers) c.self.inside.layers.entries c.self.inside.next_number c.args.place
    c.in-Some.entry.now.0 c.in-Some.entry.now.1 c.remove_vertex.new.self c.self.invariant (sym c.in-Some.ensures.value)
    (by_outcome c.remove_vertex.result (OnOk-both _ _ c.remove_vertex.result (returns-clause-removed c) (OnOk-map c.remove_vertex.result (λ there. IsWellFormed-vertex c.args.self.now c.args.place c.args.id (removal c.args.index) c.args.part c.args.ring there (subst IsWellFormed c.self.view_is c.self.invariant.well_formed)) (OnOk-map c.remove_vertex.result (feature_at-held c.args.self.now c.args.place c.args.id c.in-Some.entry.now (ap (λ content. slice_get content c.args.place) (sym c.self.view_is) ∙ sym c.in-Some.ensures.value) (λ feature. IsOkAnd (remove_vertex feature.geometry c.args.part c.args.ring c.args.index) IsHeld)) c.remove_vertex.ensures.valid))) (returns-clause-unchanged c)
    (λ is. subst IsWellFormed (sym is.0) is.1)
    (λ is. subst IsWellFormed (c.self.view_is ∙ sym is) c.self.invariant.well_formed))
