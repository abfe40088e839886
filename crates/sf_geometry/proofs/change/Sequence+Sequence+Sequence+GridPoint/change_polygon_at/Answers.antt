use Rattle.std.proofs.Common.{◌≡◌, length, rules}
use Rattle.std.proofs.lemmas.Option.{slice_get_read}
use Rattle.sf_geometry.specs.Changes.{change_of}
use Rattle.sf_geometry.specs.Size.{has_empty}
use Rattle.sf_geometry.specs.Vertices.{change_at, change_ring}
use Rattle.sf_geometry.proofs.ChangeLaws.{member-changed, member-refused}
use Rattle.sf_geometry.proofs.change.Sequence+Sequence+Sequence+GridPoint.change_polygon_at.Goals as goal

pub returns-clause-changed : goal.returns-clause-changed
returns-clause-changed c =
    let count : c.len.result ≡ length c.self.inside.values.items = search rules in
    member-changed has_empty (change_at c.args.ring (change_ring (change_of c.args.change.now c.args.index))) c.self.inside.values.items c.args.self.now c.args.place c.index_mut-rings.result.now c.change_ring_at.new.self c.change_ring_at.result
    c.requires.filled (search rules)
    (slice_get_read c.self.inside.values.items c.len.result c.args.place c.index_mut-rings.result.now count c.if-place-len.false c.index_mut-rings.ensures.value)
    c.change_ring_at.ensures.changed

pub returns-clause-refused : goal.returns-clause-refused
returns-clause-refused c =
    let count : c.len.result ≡ length c.self.inside.values.items = search rules in
    member-refused has_empty (change_at c.args.ring (change_ring (change_of c.args.change.now c.args.index))) c.self.inside.values.items c.args.self.now c.args.place c.index_mut-rings.result.now c.args.change.now c.change_ring_at.result
    c.requires.filled (search rules)
    (slice_get_read c.self.inside.values.items c.len.result c.args.place c.index_mut-rings.result.now count c.if-place-len.false c.index_mut-rings.ensures.value)
    c.change_ring_at.ensures.refused
