use Rattle.std.proofs.Common.{◌∙◌, subst, sym}
use Rattle.sf_grid.specs.Edge.{IsOnEdge, edge_between}
use Rattle.sf_grid.specs.Fraction.{Fraction}
use Rattle.sf_grid.specs.Plane.{IsSamePoint, grid_point}
use Rattle.sf_distance.specs.Nearest.{square_of}
use Rattle.sf_distance.specs.Squares.{IsLeastSquare}
use Rattle.sf_distance.proofs.DotLaws.{ends_same, least_to_dot, whole_number}
use Rattle.sf_distance.proofs.edges.square_from_point.Goals as goal

pub returns-then-eq : goal.returns-then-eq
returns-then-eq c =
    subst (λ (s : Fraction). IsLeastSquare (λ q. IsSamePoint q (grid_point c.args.p)) (IsOnEdge (edge_between c.args.e.now.0 c.args.e.now.1)) s)
    (sym (whole_number c.whole.result c.square_of.result (square_of c.args.p c.args.e.now.0) c.whole.ensures c.square_of.ensures.value))
    (least_to_dot c.args.p c.args.e.now.0 c.args.e.now.1 (ends_same c.args.e.now.0 c.args.e.now.1 (sym c.eq.ensures ∙ c.if-eq.true)))
