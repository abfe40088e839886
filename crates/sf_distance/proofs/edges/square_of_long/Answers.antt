use Rattle.std.proofs.Common.{ap, subst, sym}
use Rattle.sf_grid.specs.Fraction.{Fraction}
use Rattle.sf_grid.specs.Edge.{IsOnEdge, edge_between}
use Rattle.sf_distance.specs.Mixed.{number_of}
use Rattle.sf_distance.specs.Squares.{IsLeastSquare}
use Rattle.sf_distance.proofs.LeastLaws.{ends_are_nearest}
use Rattle.sf_distance.proofs.SharedLaws.{least_along, least_at}
use Rattle.sf_distance.proofs.edges.square_of_long.Goals as goal

pub returns-in-Apart : goal.returns-in-Apart
returns-in-Apart c =
    subst (λ (s : Fraction). IsLeastSquare (IsOnEdge (edge_between c.args.e.now.0 c.args.e.now.1)) (IsOnEdge (edge_between c.args.f.now.0 c.args.f.now.1)) s) (sym c.of_ends.ensures)
    (ends_are_nearest (edge_between c.args.e.now.0 c.args.e.now.1) (edge_between c.args.f.now.0 c.args.f.now.1) c.requires.first c.requires.second c.in-Apart.ensures)

pub returns-in-At : goal.returns-in-At
returns-in-At c =
    subst (λ (s : Fraction). IsLeastSquare (IsOnEdge (edge_between c.args.e.now.0 c.args.e.now.1)) (IsOnEdge (edge_between c.args.f.now.0 c.args.f.now.1)) s) (sym (ap number_of c.whole.ensures))
    (least_at (edge_between c.args.e.now.0 c.args.e.now.1) (edge_between c.args.f.now.0 c.args.f.now.1) c.in-At.field-0 c.in-At.ensures)

pub returns-in-Along : goal.returns-in-Along
returns-in-Along c =
    subst (λ (s : Fraction). IsLeastSquare (IsOnEdge (edge_between c.args.e.now.0 c.args.e.now.1)) (IsOnEdge (edge_between c.args.f.now.0 c.args.f.now.1)) s) (sym (ap number_of c.whole-in-Along.ensures))
    (least_along (edge_between c.args.e.now.0 c.args.e.now.1) (edge_between c.args.f.now.0 c.args.f.now.1) c.in-Along.field-0 c.in-Along.field-1 c.in-Along.ensures)
