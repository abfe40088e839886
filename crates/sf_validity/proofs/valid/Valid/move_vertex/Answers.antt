use Rattle.std.proofs.Common.{◌∙◌, ap, sym, subst}
use Rattle.sf_geometry.specs.Vertices.{changed, exchange, move_vertex}
use Rattle.sf_validity.specs.Held.{IsHeld}
use Rattle.sf_validity.specs.Refusals.{RefusesChange}
use Rattle.sf_validity.proofs.EditLaws.{changed-held, move-change, moved}
use Rattle.sf_validity.proofs.ValidLaws.{back-is, back-ok, move-back, outcome-sized}
use Rattle.sf_validity.proofs.valid.Valid.move_vertex.Goals as goal

pub check_changed-requires : goal.check_changed-requires
check_changed-requires c =
    outcome-sized (changed (exchange c.args.index c.args.point) c.args.part c.args.ring c.self.inside.geometry) c.move_vertex.new.self c.in_ok-old.ensures.moved

pub move_vertex-requires-in-Err : goal.move_vertex-requires-in-Err
move_vertex-requires-in-Err c =
    record { sized = outcome-sized (changed (exchange c.args.index c.args.point) c.args.part c.args.ring c.self.inside.geometry) c.move_vertex.new.self c.in_ok-old.ensures.moved }

pub unwrap-requires : goal.unwrap-requires
unwrap-requires c =
    back-ok c.move_vertex-in-Err.result (move_vertex c.move_vertex.new.self c.args.part c.args.ring c.args.index c.in_ok-old.old) c.self.inside.geometry
    (move-back c.self.inside.geometry c.move_vertex.new.self c.args.part c.args.ring c.args.index c.args.point c.in_ok-old.old c.self.invariant.valid c.in_ok-old.ensures.given c.in_ok-old.ensures.moved)
    c.move_vertex-in-Err.ensures.refused

pub invariant_of-self-in-Err : goal.invariant_of-self-in-Err
invariant_of-self-in-Err c =
    subst IsHeld
    (sym (back-is c.move_vertex-in-Err.result c.unwrap.result (move_vertex c.move_vertex.new.self c.args.part c.args.ring c.args.index c.in_ok-old.old) c.self.inside.geometry c.move_vertex-in-Err.new.self
    (move-back c.self.inside.geometry c.move_vertex.new.self c.args.part c.args.ring c.args.index c.args.point c.in_ok-old.old c.self.invariant.valid c.in_ok-old.ensures.given c.in_ok-old.ensures.moved)
    c.unwrap.ensures c.move_vertex-in-Err.ensures.moved))
    c.self.invariant

pub returns-in-Err-clause-unchanged : goal.returns-in-Err-clause-unchanged
returns-in-Err-clause-unchanged c =
    back-is c.move_vertex-in-Err.result c.unwrap.result (move_vertex c.move_vertex.new.self c.args.part c.args.ring c.args.index c.in_ok-old.old) c.self.inside.geometry c.move_vertex-in-Err.new.self
    (move-back c.self.inside.geometry c.move_vertex.new.self c.args.part c.args.ring c.args.index c.args.point c.in_ok-old.old c.self.invariant.valid c.in_ok-old.ensures.given c.in_ok-old.ensures.moved)
    c.unwrap.ensures c.move_vertex-in-Err.ensures.moved
    ∙ c.self.view_is

pub returns-in-Err-clause-refused : goal.returns-in-Err-clause-refused
returns-in-Err-clause-refused c =
    subst (λ outcome. RefusesChange outcome c.in-Err.refusal)
    (sym (ap (λ g. move_vertex g c.args.part c.args.ring c.args.index c.args.point) (sym c.self.view_is) ∙ c.in_ok-old.ensures.moved))
    (c.in-Err.ensures.refused c.self.inside.geometry
    (move-change c.self.inside.geometry c.move_vertex.new.self c.args.part c.args.ring c.args.index c.args.point c.in_ok-old.old c.is_tight_at-was_tight.result c.self.invariant.valid
    c.in_ok-old.ensures.given c.in_ok-old.ensures.moved c.is_tight_at-was_tight.ensures))

pub invariant_of-self-2 : goal.invariant_of-self-2
invariant_of-self-2 c =
    changed-held c.self.inside.geometry c.move_vertex.new.self c.is_tight_at-was_tight.result (moved c.args.part c.args.ring c.args.index c.in_ok-old.old)
    (move-change c.self.inside.geometry c.move_vertex.new.self c.args.part c.args.ring c.args.index c.args.point c.in_ok-old.old c.is_tight_at-was_tight.result c.self.invariant.valid
    c.in_ok-old.ensures.given c.in_ok-old.ensures.moved c.is_tight_at-was_tight.ensures)
    c.in_default.ensures.valid c.lies_on_grid.ensures

pub returns-clause-valid : goal.returns-clause-valid
returns-clause-valid c =
    changed-held c.self.inside.geometry c.move_vertex.new.self c.is_tight_at-was_tight.result (moved c.args.part c.args.ring c.args.index c.in_ok-old.old)
    (move-change c.self.inside.geometry c.move_vertex.new.self c.args.part c.args.ring c.args.index c.args.point c.in_ok-old.old c.is_tight_at-was_tight.result c.self.invariant.valid
    c.in_ok-old.ensures.given c.in_ok-old.ensures.moved c.is_tight_at-was_tight.ensures)
    c.in_default.ensures.valid c.lies_on_grid.ensures
