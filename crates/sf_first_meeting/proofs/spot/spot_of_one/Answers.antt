use Rattle.std.proofs.Common.{inl, refl}
use Rattle.sf_first_meeting.proofs.SpotLaws.{spot-begins, spot-ends}
use Rattle.sf_first_meeting.proofs.spot.spot_of_one.Goals as goal

pub ends_at-requires-clause-edge_in : goal.ends_at-requires-clause-edge_in
ends_at-requires-clause-edge_in c = (c.requires.edges.are c.args.edge (inl refl)).0

pub ends_at-requires-clause-there : goal.ends_at-requires-clause-there
ends_at-requires-clause-there c = (c.requires.edges.are c.args.edge (inl refl)).1

pub returns-then-ends_at : goal.returns-then-ends_at
returns-then-ends_at c = spot-ends c.args.points.now c.args.vertex c.args.edge c.requires.edges (c.ends_at.ensures.ends c.if-ends_at.true)

pub returns-else-ends_at : goal.returns-else-ends_at
returns-else-ends_at c = spot-begins c.args.points.now c.args.vertex c.args.edge c.requires.edges (c.ends_at.ensures.begins c.if-ends_at.false)
