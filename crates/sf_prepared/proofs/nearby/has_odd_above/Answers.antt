use Rattle.std.proofs.Common.{◌∙◌, ap, sym}
use Rattle.sf_grid.specs.Edge.{edge_above}
use Rattle.sf_grid.specs.EvenOdd.{is_odd}
use Rattle.sf_grid.specs.Plane.{grid_point}
use Rattle.sf_geometry.specs.Parts.{edge_of}
use Rattle.sf_polygons.proofs.TestLaws.{count-map}
use Rattle.sf_prepared.proofs.nearby.has_odd_above.Goals as goal

pub returns : goal.returns
returns c = ap is_odd (c.count_above.ensures ∙ sym (count-map (λ e. edge_above e (grid_point c.args.point)) edge_of c.args.edges.now))
