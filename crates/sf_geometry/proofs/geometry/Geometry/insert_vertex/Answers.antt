use Rattle.std.proofs.Common.{◌≡◌, ◌<◌, ◌≤◌, inl, length, rules}
use Rattle.std.specs.Prelude.{Some, option_map}
use Rattle.sf_geometry.specs.Size.{point_count, points_max}
use Rattle.sf_geometry.specs.Vertices.{vertices_of}
use Rattle.sf_geometry.proofs.OutcomeLaws.{full-by_count, inserted-by, refused-by}
use Rattle.sf_geometry.proofs.geometry.Geometry.insert_vertex.Goals as goal

pub returns-then-point_count-lt-POINTS_MAX-clause-inserted : goal.returns-then-point_count-lt-POINTS_MAX-clause-inserted
returns-then-point_count-lt-POINTS_MAX-clause-inserted c =
    let few : point_count c.args.self.now < points_max = search rules in
    inserted-by c.args.self.now c.change.new.self c.args.part c.args.ring c.args.index c.args.point c.change.result c.requires.sized few c.change.ensures.changed

pub returns-then-point_count-lt-POINTS_MAX-clause-refused : goal.returns-then-point_count-lt-POINTS_MAX-clause-refused
returns-then-point_count-lt-POINTS_MAX-clause-refused c =
    let few : point_count c.args.self.now < points_max = search rules in
    refused-by c.args.self.now c.args.part c.args.ring c.args.index c.args.point c.change.result c.requires.sized few c.change.ensures.refused

pub returns-in-Some-clause-refused : goal.returns-in-Some-clause-refused
returns-in-Some-clause-refused c =
    let full : points_max ≤ point_count c.args.self.now = search rules in
    let count : option_map (λ ps. length ps) (vertices_of c.args.self.now c.args.part c.args.ring) ≡ Some c.in-Some.count = search rules in
    inl (full-by_count c.args.self.now c.args.part c.args.ring c.args.index c.args.point c.in-Some.count c.requires.sized full count c.if-index-count.true)
