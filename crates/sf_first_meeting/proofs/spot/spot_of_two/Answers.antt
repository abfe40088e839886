use Rattle.std.proofs.Common.{inl, inr, refl}
use Rattle.sf_first_meeting.proofs.SpotLaws.{known-turned, spot-closes, spot-passes}
use Rattle.sf_first_meeting.proofs.spot.spot_of_two.Goals as goal

pub ends_at-requires-clause-edge_in : goal.ends_at-requires-clause-edge_in
ends_at-requires-clause-edge_in c = (c.requires.edges.are c.args.first (inl refl)).0

pub ends_at-requires-clause-there : goal.ends_at-requires-clause-there
ends_at-requires-clause-there c = (c.requires.edges.are c.args.first (inl refl)).1

pub ends_at-requires-2-clause-edge_in : goal.ends_at-requires-2-clause-edge_in
ends_at-requires-2-clause-edge_in c = (c.requires.edges.are c.args.second (inr (inl refl))).0

pub ends_at-requires-2-clause-there : goal.ends_at-requires-2-clause-there
ends_at-requires-2-clause-there c = (c.requires.edges.are c.args.second (inr (inl refl))).1

pub returns-in-true-true : goal.returns-in-true-true
returns-in-true-true c = spot-closes c.args.points.now c.args.vertex c.args.first c.args.second c.requires.edges (c.in-true-true.ensures.ends refl) (c.in-true-true.ensures'.ends refl)

pub returns-in-true-false : goal.returns-in-true-false
returns-in-true-false c = spot-passes c.args.points.now c.args.vertex c.args.first c.args.second c.requires.edges (c.in-true-false.ensures.ends refl) (c.in-true-false.ensures'.begins refl)

pub returns-in-false-true : goal.returns-in-false-true
returns-in-false-true c = spot-passes c.args.points.now c.args.vertex c.args.second c.args.first (known-turned _ _ _ _ c.requires.edges) (c.in-false-true.ensures'.ends refl) (c.in-false-true.ensures.begins refl)

pub fan_of-requires-clause-first_begins : goal.fan_of-requires-clause-first_begins
fan_of-requires-clause-first_begins c = c.in-false-false.ensures.begins refl

pub fan_of-requires-clause-second_begins : goal.fan_of-requires-clause-second_begins
fan_of-requires-clause-second_begins c = c.in-false-false.ensures'.begins refl
