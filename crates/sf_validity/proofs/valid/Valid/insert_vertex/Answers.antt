use Rattle.std.proofs.Common.{◌∙◌, ap, sym, subst}
use Rattle.sf_geometry.specs.Vertices.{insert_vertex, remove_vertex}
use Rattle.sf_validity.specs.Held.{IsHeld}
use Rattle.sf_validity.specs.Refusals.{RefusesChange}
use Rattle.sf_validity.proofs.EditLaws.{changed-held, insert-change, inserted}
use Rattle.sf_validity.proofs.ValidLaws.{back-is, back-ok, insert-back}
use Rattle.sf_validity.proofs.valid.Valid.insert_vertex.Goals as goal

pub unwrap-requires : goal.unwrap-requires
unwrap-requires c =
    back-ok c.remove_vertex.result (remove_vertex c.insert_vertex.new.self c.args.part c.args.ring c.args.index) c.self.inside.geometry
    (insert-back c.self.inside.geometry c.insert_vertex.new.self c.args.part c.args.ring c.args.index c.args.point c.self.invariant.valid c.in_ok-insert_vertex.ensures.inserted)
    c.remove_vertex.ensures.refused

pub invariant_of-self-in-Err : goal.invariant_of-self-in-Err
invariant_of-self-in-Err c =
    subst IsHeld
    (sym (back-is c.remove_vertex.result c.unwrap.result (remove_vertex c.insert_vertex.new.self c.args.part c.args.ring c.args.index) c.self.inside.geometry c.remove_vertex.new.self
    (insert-back c.self.inside.geometry c.insert_vertex.new.self c.args.part c.args.ring c.args.index c.args.point c.self.invariant.valid c.in_ok-insert_vertex.ensures.inserted)
    c.unwrap.ensures c.remove_vertex.ensures.removed))
    c.self.invariant

pub returns-in-Err-clause-unchanged : goal.returns-in-Err-clause-unchanged
returns-in-Err-clause-unchanged c =
    back-is c.remove_vertex.result c.unwrap.result (remove_vertex c.insert_vertex.new.self c.args.part c.args.ring c.args.index) c.self.inside.geometry c.remove_vertex.new.self
    (insert-back c.self.inside.geometry c.insert_vertex.new.self c.args.part c.args.ring c.args.index c.args.point c.self.invariant.valid c.in_ok-insert_vertex.ensures.inserted)
    c.unwrap.ensures c.remove_vertex.ensures.removed
    ∙ c.self.view_is

pub returns-in-Err-clause-refused : goal.returns-in-Err-clause-refused
returns-in-Err-clause-refused c =
    subst (λ outcome. RefusesChange outcome c.in-Err.refusal)
    (sym (ap (λ g. insert_vertex g c.args.part c.args.ring c.args.index c.args.point) (sym c.self.view_is) ∙ c.in_ok-insert_vertex.ensures.inserted))
    (c.in-Err.ensures.refused c.self.inside.geometry
    (insert-change c.self.inside.geometry c.insert_vertex.new.self c.args.part c.args.ring c.args.index c.args.point c.is_tight_at-was_tight.result c.self.invariant.valid
    c.in_ok-insert_vertex.ensures.inserted c.is_tight_at-was_tight.ensures))

pub invariant_of-self-2 : goal.invariant_of-self-2
invariant_of-self-2 c =
    changed-held c.self.inside.geometry c.insert_vertex.new.self c.is_tight_at-was_tight.result (inserted c.args.part c.args.ring c.args.index)
    (insert-change c.self.inside.geometry c.insert_vertex.new.self c.args.part c.args.ring c.args.index c.args.point c.is_tight_at-was_tight.result c.self.invariant.valid
    c.in_ok-insert_vertex.ensures.inserted c.is_tight_at-was_tight.ensures)
    c.in_default.ensures.valid c.lies_on_grid.ensures

pub returns-clause-valid : goal.returns-clause-valid
returns-clause-valid c =
    changed-held c.self.inside.geometry c.insert_vertex.new.self c.is_tight_at-was_tight.result (inserted c.args.part c.args.ring c.args.index)
    (insert-change c.self.inside.geometry c.insert_vertex.new.self c.args.part c.args.ring c.args.index c.args.point c.is_tight_at-was_tight.result c.self.invariant.valid
    c.in_ok-insert_vertex.ensures.inserted c.is_tight_at-was_tight.ensures)
    c.in_default.ensures.valid c.lies_on_grid.ensures
