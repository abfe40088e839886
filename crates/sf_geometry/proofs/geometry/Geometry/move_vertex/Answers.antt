use Rattle.std.proofs.Common.{◌≡◌, rules}
use Rattle.std.specs.Prelude.{None, Ok}
use Rattle.sf_geometry.specs.Changes.{filled_or_refused}
use Rattle.sf_geometry.specs.Size.{has_empty_list}
use Rattle.sf_geometry.specs.Vertices.{changed, exchange, vertex_of}
use Rattle.sf_geometry.proofs.OutcomeLaws.{move-none, move-ok}
use Rattle.sf_geometry.proofs.geometry.Geometry.move_vertex.Goals as goal

pub returns-in_default-clause-refused : goal.returns-in_default-clause-refused
returns-in_default-clause-refused c =
    let none : vertex_of c.args.self.now c.args.part c.args.ring c.args.index ≡ None = search rules in
    move-none c.args.self.now c.args.part c.args.ring c.args.index c.args.point none

pub returns-clause-moved : goal.returns-clause-moved
returns-clause-moved c =
    let done : filled_or_refused has_empty_list (changed (exchange c.args.index c.args.point) c.args.part c.args.ring c.args.self.now) ≡ Ok c.change.new.self = search rules in
    move-ok c.args.self.now c.change.new.self c.args.part c.args.ring c.args.index c.args.point c.requires.sized done
