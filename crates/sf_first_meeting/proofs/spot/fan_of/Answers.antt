use Rattle.std.proofs.Common.{inl, inr, refl}
use Rattle.sf_first_meeting.proofs.SpotLaws.{known-turned, spot-opens}
use Rattle.sf_first_meeting.proofs.spot.fan_of.Goals as goal

pub is_left_of-requires-clause-edge_in : goal.is_left_of-requires-clause-edge_in
is_left_of-requires-clause-edge_in c = (c.requires.edges.are c.args.second (inr (inl refl))).0

pub is_left_of-requires-clause-other_in : goal.is_left_of-requires-clause-other_in
is_left_of-requires-clause-other_in c = (c.requires.edges.are c.args.first (inl refl)).0

pub is_left_of-requires-else-is_left_of-clause-edge_in : goal.is_left_of-requires-else-is_left_of-clause-edge_in
is_left_of-requires-else-is_left_of-clause-edge_in c = (c.requires.edges.are c.args.first (inl refl)).0

pub is_left_of-requires-else-is_left_of-clause-other_in : goal.is_left_of-requires-else-is_left_of-clause-other_in
is_left_of-requires-else-is_left_of-clause-other_in c = (c.requires.edges.are c.args.second (inr (inl refl))).0

pub returns-then-is_left_of : goal.returns-then-is_left_of
returns-then-is_left_of c =
    spot-opens c.args.points.now c.args.vertex c.args.first c.args.second c.requires.edges c.requires.first_begins c.requires.second_begins (c.is_left_of.ensures c.if-is_left_of.true)

pub returns-then-is_left_of-2 : goal.returns-then-is_left_of-2
returns-then-is_left_of-2 c =
    spot-opens c.args.points.now c.args.vertex c.args.second c.args.first (known-turned _ _ _ _ c.requires.edges) c.requires.second_begins c.requires.first_begins
    (c.is_left_of-else-is_left_of.ensures c.if-is_left_of-2.true)
