use Rattle.std.proofs.Common.{◌∙◌, ap, sym}
use Rattle.sf_grid.specs.Plane.{grid_point}
use Rattle.sf_geometry.specs.PointSets.{is_among}
use Rattle.sf_relate.proofs.NeighbourLaws.{either-first, either-second}
use Rattle.sf_relate.proofs.locating.is_end.Goals as goal

pub returns-then-is_at : goal.returns-then-is_at
returns-then-is_at c =
    either-first c.is_at.result _ _ c.is_at.ensures c.if-is_at.true ∙ sym (ap (λ es. is_among es (grid_point c.args.point)) c.in-Some.ensures)

pub returns-else-is_at : goal.returns-else-is_at
returns-else-is_at c =
    either-second c.is_at.result c.is_at-else-is_at.result _ _ c.is_at.ensures c.if-is_at.false c.is_at-else-is_at.ensures
    ∙ sym (ap (λ es. is_among es (grid_point c.args.point)) c.in-Some.ensures)
