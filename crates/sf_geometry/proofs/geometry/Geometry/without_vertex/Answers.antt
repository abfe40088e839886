use Rattle.std.proofs.Common.{◌∙◌, sym, arith, inl, inr, refl}
use Rattle.sf_geometry.proofs.OutcomeLaws.{remove-only, remove-several}
use Rattle.sf_geometry.proofs.geometry.Geometry.without_vertex.Goals as goal

pub returns-then-count-eq1-clause-refused : goal.returns-then-count-eq1-clause-refused
returns-then-count-eq1-clause-refused c =
    inl (remove-only c.args.self.now c.args.part c.args.ring c.args.index c.requires.sized
    (omega (arith, c.removable_count-count.ensures, c.if-index-count.false))
    (sym c.removable_count-count.ensures ∙ c.if-count-eq1.true))

pub returns-in_default-clause-refused : goal.returns-in_default-clause-refused
returns-in_default-clause-refused c =
    inr (refl, remove-several c.args.self.now c.args.part c.args.ring c.args.index c.removable_count-count.result c.requires.sized (sym c.removable_count-count.ensures) c.if-index-count.false c.if-count-eq1.false)
