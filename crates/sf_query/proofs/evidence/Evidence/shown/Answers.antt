use Rattle.sf_relate.specs.Matrices.{matrix_of}
use Rattle.sf_query.proofs.EvidenceLaws.{matrix-known, of-held}
use Rattle.sf_query.proofs.evidence.Evidence.shown.Goals as goal

pub returns-in-Clear : goal.returns-in-Clear
returns-in-Clear c =
    matrix-known c.matrix_clear.result c.exactly.result (matrix_of c.args.geometry.now c.args.given.now) c.exactly.ensures c.matrix_clear.ensures

pub returns-in-Prepared : goal.returns-in-Prepared
returns-in-Prepared c =
    matrix-known c.matrix_prepared.result c.exactly-in-Prepared.result (matrix_of c.args.geometry.now c.args.given.now) c.exactly-in-Prepared.ensures c.matrix_prepared.ensures

pub returns-in-Alike : goal.returns-in-Alike
returns-in-Alike c =
    of-held c.exactly-in-Alike.result c.args.geometry.now c.given.inside.valid.now c.args.given.now c.given.view_is
    (matrix-known c.matrix_alike.result c.exactly-in-Alike.result (matrix_of c.args.geometry.now c.given.inside.valid.now) c.exactly-in-Alike.ensures c.matrix_alike.ensures.holds)

pub returns-in-Boxes : goal.returns-in-Boxes
returns-in-Boxes c =
    of-held c.exactly-in-Boxes.result c.args.geometry.now c.given.inside.valid.now c.args.given.now c.given.view_is
    (matrix-known c.matrix_by_boxes.result c.exactly-in-Boxes.result (matrix_of c.args.geometry.now c.given.inside.valid.now) c.exactly-in-Boxes.ensures c.matrix_by_boxes.ensures.holds)

pub returns-in-Place : goal.returns-in-Place
returns-in-Place c =
    of-held c.by_place.result c.args.geometry.now c.given.inside.valid.now c.args.given.now c.given.view_is c.by_place.ensures.holds

pub returns-in-Edges : goal.returns-in-Edges
returns-in-Edges c =
    of-held c.by_contact.result c.args.geometry.now c.given.inside.valid.now c.args.given.now c.given.view_is c.by_contact.ensures.holds

pub returns-in-Starts : goal.returns-in-Starts
returns-in-Starts c =
    of-held c.by_starts.result c.args.geometry.now c.given.inside.valid.now c.args.given.now c.given.view_is c.by_starts.ensures.holds

pub returns-in-Sides : goal.returns-in-Sides
returns-in-Sides c =
    of-held c.known_by_sides.result c.args.geometry.now c.given.inside.valid.now c.args.given.now c.given.view_is c.known_by_sides.ensures.holds

pub returns-in-Crossing : goal.returns-in-Crossing
returns-in-Crossing c =
    of-held c.by_crossing.result c.args.geometry.now c.given.inside.valid.now c.args.given.now c.given.view_is c.by_crossing.ensures

pub returns-in-Nearby : goal.returns-in-Nearby
returns-in-Nearby c =
    of-held c.exactly-in-Nearby.result c.args.geometry.now c.given.inside.valid.now c.args.given.now c.given.view_is
    (matrix-known c.matrix_nearby.result c.exactly-in-Nearby.result (matrix_of c.args.geometry.now c.given.inside.valid.now) c.exactly-in-Nearby.ensures c.matrix_nearby.ensures)

pub returns-in-Nearby-2 : goal.returns-in-Nearby-2
returns-in-Nearby-2 c =
    of-held c.exactly-in-Nearby-2.result c.args.geometry.now c.given.inside.valid.now c.args.given.now c.given.view_is
    (matrix-known c.matrix_with_area.result c.exactly-in-Nearby-2.result (matrix_of c.args.geometry.now c.given.inside.valid.now) c.exactly-in-Nearby-2.ensures c.matrix_with_area.ensures)

pub returns-in-Ends : goal.returns-in-Ends
returns-in-Ends c =
    of-held c.by_ends.result c.args.geometry.now c.given.inside.valid.now c.args.given.now c.given.view_is c.by_ends.ensures

pub returns-in-Along : goal.returns-in-Along
returns-in-Along c =
    of-held c.known_alongside.result c.args.geometry.now c.given.inside.valid.now c.args.given.now c.given.view_is c.known_alongside.ensures.holds

pub returns-in-Cover : goal.returns-in-Cover
returns-in-Cover c =
    of-held c.known_by_cover.result c.args.geometry.now c.given.inside.valid.now c.args.given.now c.given.view_is c.known_by_cover.ensures.holds

pub returns-in-Points : goal.returns-in-Points
returns-in-Points c =
    of-held c.known_by_points.result c.args.geometry.now c.given.inside.valid.now c.args.given.now c.given.view_is c.known_by_points.ensures.holds
