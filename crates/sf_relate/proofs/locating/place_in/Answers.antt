use Rattle.std.proofs.Common.{◌∙◌, ap}
use Rattle.sf_grid.specs.Plane.{grid_point}
use Rattle.sf_geometry.specs.Lists.{ends_of}
use Rattle.sf_geometry.specs.PointSets.{is_among}
use Rattle.sf_relate.specs.ByKinds.{is_odd_end}
use Rattle.sf_relate.proofs.TestedPlaces.{on-line, on-lines-by}
use Rattle.sf_relate.proofs.locating.place_in.Goals as goal

pub returns-in-LineString : goal.returns-in-LineString
returns-in-LineString c =
    on-line c.args.geometry.now c.in-LineString.line (grid_point c.args.point) c.is_end.result c.place_on_lines.result c.in-LineString.is
    (c.is_end.ensures ∙ ap (λ ps. is_among (ends_of ps) (grid_point c.args.point)) c.as_slice-in-LineString.ensures) c.place_on_lines.ensures

pub returns-in-MultiLineString : goal.returns-in-MultiLineString
returns-in-MultiLineString c =
    on-lines-by c.args.geometry.now c.in-MultiLineString.lines (grid_point c.args.point) c.is_odd_end.result c.place_on_lines-in-MultiLineString.result c.in-MultiLineString.is
    (c.is_odd_end.ensures ∙ ap (λ ls. is_odd_end ls c.args.point) c.as_slice-in-MultiLineString.ensures) c.place_on_lines-in-MultiLineString.ensures
