use Rattle.std.proofs.Common.{◌≡◌, ◌∙◌, refl, Bool, sym, subst}
use Rattle.sf_geometry.specs.declared.geometry.Geometry.{Geometry}
use Rattle.sf_contact.specs.Absence.{on_edges}
use Rattle.sf_contact.specs.Pairs.{Tells}
use Rattle.sf_contact.proofs.StartLaws.{contact-by-met, contact-by-starts, contact-without-met, contact-without-starts}
use Rattle.sf_contact.proofs.contact.have_contact.Goals as goal

-- what edges tell of the geometries that are read
tells : (a b f g : Geometry) (met : Bool) → f ≡ a → g ≡ b → Tells met (on_edges f) (on_edges g) → Tells met (on_edges a) (on_edges b)
tells a b f g met first second told = subst (λ x. Tells met (on_edges a) (on_edges x)) second (subst (λ x. Tells met (on_edges x) (on_edges g)) first told)

pub returns-then-edges_meet-clause-first : goal.returns-then-edges_meet-clause-first
returns-then-edges_meet-clause-first c =
    (contact-by-met c.args.a.now c.args.b.now c.edges_meet.result c.edges_meet.result
    (tells c.args.a.now c.args.b.now c.geometry-first.result.now c.geometry-second.result.now c.edges_meet.result c.geometry-first.ensures.same c.geometry-second.ensures.same c.edges_meet.ensures) c.if-edges_meet.true refl).first

pub returns-else-edges_meet-clause-first : goal.returns-else-edges_meet-clause-first
returns-else-edges_meet-clause-first c =
    (contact-without-met c.args.a.now c.args.b.now c.edges_meet.result c.has_any_start.result c.has_any_start.result c.geometry-first.ensures.valid.valid c.geometry-second.ensures.valid.valid
    (tells c.args.a.now c.args.b.now c.geometry-first.result.now c.geometry-second.result.now c.edges_meet.result c.geometry-first.ensures.same c.geometry-second.ensures.same c.edges_meet.ensures) c.if-edges_meet.false c.has_any_start.ensures refl).first

pub returns-then-edges_meet-clause-second : goal.returns-then-edges_meet-clause-second
returns-then-edges_meet-clause-second c =
    (contact-by-met c.args.a.now c.args.b.now c.edges_meet.result c.edges_meet.result
    (tells c.args.a.now c.args.b.now c.geometry-first.result.now c.geometry-second.result.now c.edges_meet.result c.geometry-first.ensures.same c.geometry-second.ensures.same c.edges_meet.ensures) c.if-edges_meet.true refl).second

pub returns-else-edges_meet-clause-second : goal.returns-else-edges_meet-clause-second
returns-else-edges_meet-clause-second c =
    (contact-without-met c.args.a.now c.args.b.now c.edges_meet.result c.has_any_start.result c.has_any_start.result c.geometry-first.ensures.valid.valid c.geometry-second.ensures.valid.valid
    (tells c.args.a.now c.args.b.now c.geometry-first.result.now c.geometry-second.result.now c.edges_meet.result c.geometry-first.ensures.same c.geometry-second.ensures.same c.edges_meet.ensures) c.if-edges_meet.false c.has_any_start.ensures refl).second

pub returns-then-has_any_start-clause-first : goal.returns-then-has_any_start-clause-first
returns-then-has_any_start-clause-first c =
    c.if-has_any_start.true
    ∙ (contact-by-starts c.args.a.now c.args.b.now c.geometry-first.ensures.valid.valid c.geometry-second.ensures.valid.valid (sym c.has_any_start-2.ensures ∙ c.if-has_any_start.true)).first

pub returns-then-has_any_start-clause-second : goal.returns-then-has_any_start-clause-second
returns-then-has_any_start-clause-second c =
    c.if-has_any_start.true
    ∙ (contact-by-starts c.args.a.now c.args.b.now c.geometry-first.ensures.valid.valid c.geometry-second.ensures.valid.valid (sym c.has_any_start-2.ensures ∙ c.if-has_any_start.true)).second

pub returns-else-has_any_start-clause-first : goal.returns-else-has_any_start-clause-first
returns-else-has_any_start-clause-first c =
    (contact-without-starts c.args.a.now c.args.b.now c.edges_meet-else-has_any_start.result c.geometry-first.ensures.valid.valid c.geometry-second.ensures.valid.valid (sym c.has_any_start-2.ensures ∙ c.if-has_any_start.false)
    (tells c.args.a.now c.args.b.now c.geometry-first.result.now c.geometry-second.result.now c.edges_meet-else-has_any_start.result c.geometry-first.ensures.same c.geometry-second.ensures.same c.edges_meet-else-has_any_start.ensures)).first

pub returns-else-has_any_start-clause-second : goal.returns-else-has_any_start-clause-second
returns-else-has_any_start-clause-second c =
    (contact-without-starts c.args.a.now c.args.b.now c.edges_meet-else-has_any_start.result c.geometry-first.ensures.valid.valid c.geometry-second.ensures.valid.valid (sym c.has_any_start-2.ensures ∙ c.if-has_any_start.false)
    (tells c.args.a.now c.args.b.now c.geometry-first.result.now c.geometry-second.result.now c.edges_meet-else-has_any_start.result c.geometry-first.ensures.same c.geometry-second.ensures.same c.edges_meet-else-has_any_start.ensures)).second
