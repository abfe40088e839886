use Rattle.std.proofs.Common.{ap, inl, inr}
use Rattle.sf_geometry.specs.Parts.{joined}
use Rattle.sf_relate.specs.AllPieces.{pieces_of}
use Rattle.sf_relate.proofs.PushLaws.{pushed-lists}
use Rattle.sf_relate.proofs.grouping.push_pieces.Goals as goal

pub returns-in-MultiPolygon : goal.returns-in-MultiPolygon
returns-in-MultiPolygon c =
    pushed-lists c.push_polygons.result c.args.pieces.now c.push_polygons.new.pieces c.args.group (joined c.in-MultiPolygon.polygons) (joined c.as_slice-in-MultiPolygon.result.now) c.args.geometry.now
    (ap joined c.as_slice-in-MultiPolygon.ensures) (ap pieces_of c.in-MultiPolygon.is) c.push_polygons.ensures

pub returns-in-Polygon : goal.returns-in-Polygon
returns-in-Polygon c =
    pushed-lists c.push_lists.result c.args.pieces.now c.push_lists.new.pieces c.args.group c.in-Polygon.lists c.as_slice-in-Polygon.result.now c.args.geometry.now
    c.as_slice-in-Polygon.ensures (elim c.in-Polygon.is [ inl e ↦ ap pieces_of e | inr e ↦ ap pieces_of e ]) c.push_lists.ensures
