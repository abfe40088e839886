use Rattle.std.proofs.Common.{◌∙◌, ap, sym, subst, refl}
use Rattle.sf_geometry.specs.Vertices.{changed, removal, remove_vertex}
use Rattle.sf_geometry.proofs.OutcomeLaws.{remove-none}
use Rattle.sf_validity.specs.declared.refusal.Refusal.TheVariants.{NoVertex}
use Rattle.sf_validity.specs.Refusals.{RefusesChange}
use Rattle.sf_validity.proofs.EditLaws.{changed-held, remove-change, removed}
use Rattle.sf_validity.proofs.RuleLaws.{err-passed}
use Rattle.sf_validity.proofs.ValidLaws.{outcome-sized}
use Rattle.sf_validity.proofs.valid.Valid.remove_vertex.Goals as goal

pub returns-in_default-clause-refused : goal.returns-in_default-clause-refused
returns-in_default-clause-refused c =
    subst (λ outcome. RefusesChange outcome NoVertex)
    (sym (ap (λ g. remove_vertex g c.args.part c.args.ring c.args.index) (sym c.self.view_is)
    ∙ remove-none c.self.inside.geometry c.args.part c.args.ring c.args.index (sym c.vertex.ensures ∙ c.in_default.is)))
    refl

pub check_changed-requires : goal.check_changed-requires
check_changed-requires c =
    outcome-sized (changed (removal c.args.index) c.args.part c.args.ring c.self.inside.geometry) c.in_ok-without.without c.in_ok-without.ensures.removed

pub returns-in_err-check_changed-clause-refused : goal.returns-in_err-check_changed-clause-refused
returns-in_err-check_changed-clause-refused c =
    err-passed c.from_residual-in_err-check_changed.result c.in_err-check_changed.field-0.0 (RefusesChange (remove_vertex c.args.self.now c.args.part c.args.ring c.args.index))
    c.from_residual-in_err-check_changed.ensures.1
    (subst (λ outcome. RefusesChange outcome c.in_err-check_changed.field-0.0)
    (sym (ap (λ g. remove_vertex g c.args.part c.args.ring c.args.index) (sym c.self.view_is) ∙ c.in_ok-without.ensures.removed))
    (c.in_err-check_changed.ensures.refused c.self.inside.geometry
    (remove-change c.self.inside.geometry c.in_ok-without.without c.args.part c.args.ring c.args.index c.in-Some.old c.is_tight_at-was_tight.result c.self.invariant.valid
    (sym c.vertex.ensures ∙ c.in-Some.is) c.in_ok-without.ensures.removed c.is_tight_at-was_tight.ensures)))

pub invariant_of-self : goal.invariant_of-self
invariant_of-self c =
    changed-held c.self.inside.geometry c.in_ok-without.without c.is_tight_at-was_tight.result (removed c.args.part c.args.ring c.args.index c.in-Some.old)
    (remove-change c.self.inside.geometry c.in_ok-without.without c.args.part c.args.ring c.args.index c.in-Some.old c.is_tight_at-was_tight.result c.self.invariant.valid
    (sym c.vertex.ensures ∙ c.in-Some.is) c.in_ok-without.ensures.removed c.is_tight_at-was_tight.ensures)
    c.in_ok-check_changed.ensures.valid c.lies_on_grid.ensures

pub returns-clause-valid : goal.returns-clause-valid
returns-clause-valid c =
    changed-held c.self.inside.geometry c.in_ok-without.without c.is_tight_at-was_tight.result (removed c.args.part c.args.ring c.args.index c.in-Some.old)
    (remove-change c.self.inside.geometry c.in_ok-without.without c.args.part c.args.ring c.args.index c.in-Some.old c.is_tight_at-was_tight.result c.self.invariant.valid
    (sym c.vertex.ensures ∙ c.in-Some.is) c.in_ok-without.ensures.removed c.is_tight_at-was_tight.ensures)
    c.in_ok-check_changed.ensures.valid c.lies_on_grid.ensures
