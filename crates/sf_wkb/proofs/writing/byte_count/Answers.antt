use Rattle.sf_wkb.proofs.Lengths.{line_counted, lines_counted, points_counted, polygon_counted, polygons_counted, rings_are_few}
use Rattle.sf_wkb.proofs.writing.byte_count.Goals as goal

pub ring_count-requires : goal.ring_count-requires
ring_count-requires c = rings_are_few c.args.geometry.now c.in-MultiPolygon.polygons c.as_slice-polygons.result.now c.requires c.in-MultiPolygon.is c.as_slice-polygons.ensures

pub returns-in-LineString : goal.returns-in-LineString
returns-in-LineString c = line_counted c.args.geometry.now c.in-LineString.field-0 c.point_count-points.result c.in-LineString.is c.point_count-points.ensures

pub returns-in-Polygon : goal.returns-in-Polygon
returns-in-Polygon c = polygon_counted c.args.geometry.now c.in-Polygon.rings c.as_slice.result.now c.point_count-points.result c.in-Polygon.is c.as_slice.ensures c.point_count-points.ensures

pub returns-in-MultiPoint : goal.returns-in-MultiPoint
returns-in-MultiPoint c = points_counted c.args.geometry.now c.in-MultiPoint.field-0 c.point_count-points.result c.in-MultiPoint.is c.point_count-points.ensures

pub returns-in-MultiLineString : goal.returns-in-MultiLineString
returns-in-MultiLineString c = lines_counted c.args.geometry.now c.in-MultiLineString.lines c.as_slice-in-MultiLineString.result.now c.point_count-points.result c.in-MultiLineString.is c.as_slice-in-MultiLineString.ensures c.point_count-points.ensures

pub returns-in-MultiPolygon : goal.returns-in-MultiPolygon
returns-in-MultiPolygon c = polygons_counted c.args.geometry.now c.in-MultiPolygon.polygons c.as_slice-polygons.result.now c.point_count-points.result c.ring_count.result c.in-MultiPolygon.is c.as_slice-polygons.ensures c.point_count-points.ensures c.ring_count.ensures.count
