use Rattle.std.proofs.Common.{sym, ◌∙◌}
use Rattle.sf_grid.specs.Edge.{cross}
use Rattle.sf_grid.specs.Plane.{grid_point}
use Rattle.sf_crossing.proofs.SideLaws.{left-alone}
use Rattle.sf_crossing.proofs.pair.are_parted.Goals as goal

pub returns-in_default : goal.returns-in_default
returns-in_default c =
    let edge = c.args.edge.now in
    sym
    (left-alone (cross edge.0 edge.1 (grid_point c.args.c)) (cross edge.0 edge.1 (grid_point c.args.d))
    (sym c.orientation.ensures ∙ c.in_default.is-0)
    (λ k. c.in_default.not-Right-1 (c.orientation-2.ensures ∙ k)))
