use Rattle.std.proofs.Common.{◌≡◌, rules}
use Rattle.std.specs.Prelude.{None, Ok}
use Rattle.sf_geometry.specs.Changes.{filled_or_refused}
use Rattle.sf_geometry.specs.Size.{has_empty_list}
use Rattle.sf_geometry.specs.Vertices.{changed, removal, vertex_of}
use Rattle.sf_geometry.proofs.OutcomeLaws.{remove-none, remove-ok}
use Rattle.sf_geometry.proofs.geometry.Geometry.remove_vertex.Goals as goal

pub returns-in_default-clause-refused : goal.returns-in_default-clause-refused
returns-in_default-clause-refused c =
    let none : vertex_of c.args.self.now c.args.part c.args.ring c.args.index ≡ None = search rules in
    remove-none c.args.self.now c.args.part c.args.ring c.args.index none

pub returns-clause-removed : goal.returns-clause-removed
returns-clause-removed c =
    let done : filled_or_refused has_empty_list (changed (removal c.args.index) c.args.part c.args.ring c.args.self.now) ≡ Ok c.change.new.self = search rules in
    remove-ok c.args.self.now c.change.new.self c.args.part c.args.ring c.args.index c.requires.sized done
