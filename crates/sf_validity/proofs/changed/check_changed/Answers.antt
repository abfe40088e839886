use Rattle.std.proofs.Common.{refl, sym, ap, subst, ◌∙◌, rules}
use Rattle.std.specs.Prelude.{IsTrue}
use Rattle.std.proofs.lemmas.Bool.{false≢true}
use Rattle.sf_validity.specs.Beside.{IsAlone, ring_in}
use Rattle.sf_validity.proofs.WholeLaws.{changed-refused, changed-valid}
use Rattle.sf_validity.proofs.changed.check_changed.Goals as goal

pub returns-then-does_new_edge_meet-clause-refused : goal.returns-then-does_new_edge_meet-clause-refused
returns-then-does_new_edge_meet-clause-refused c =
    changed-refused c.args.geometry.now c.in-Some.points.now c.args.stretch.now
    (ap (λ polygons. ring_in polygons c.args.stretch.now.part c.args.stretch.now.ring) (sym c.polygons_of-polygons.ensures) ∙ c.in-Some.ensures)
    (c.if-not-is_inside.ensures refl) (c.if-does_new_edge_meet.ensures.found refl) c.args.was_tight

pub returns-clause-valid : goal.returns-clause-valid
returns-clause-valid c =
    let was : IsTrue c.args.was_tight = search rules in
    changed-valid c.args.geometry.now c.in-Some.points.now c.args.stretch.now
    (ap (λ polygons. ring_in polygons c.args.stretch.now.part c.args.stretch.now.ring) (sym c.polygons_of-polygons.ensures) ∙ c.in-Some.ensures)
    (c.if-not-is_inside.ensures refl) c.requires
    (subst (λ polygons. IsAlone polygons c.in-Some.points.now c.args.stretch.now) c.polygons_of-polygons.ensures (c.if-not-is_alone.ensures refl))
    (c.if-does_new_edge_meet.ensures.none (λ h. false≢true h)) c.args.was_tight was
