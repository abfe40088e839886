use Rattle.std.proofs.Common.{arith}
use Rattle.sf_strands.proofs.PairLaws.{IsPair, pair-along, pair-apart, pair-once}
use Rattle.sf_strands.proofs.PlaceLaws.{read-differ}
use Rattle.sf_faults.proofs.crossings.does_pair_meet.Goals as goal
use Rattle.sf_faults.proofs.crossings.does_pair_meet.Goals.{After-meet}

pub meet-requires-clause-first_has_length : goal.meet-requires-clause-first_has_length
meet-requires-clause-first_has_length c =
    read-differ c.args.points.now c.args.first c.index-points-first.result c.index-points-first-2.result c.requires.tight (omega (arith, c.requires.in_order, c.requires.in_range))
    c.index-points-first.is c.index-points-first-2.is

pub meet-requires-clause-second_has_length : goal.meet-requires-clause-second_has_length
meet-requires-clause-second_has_length c =
    read-differ c.args.points.now c.args.second c.index-points-second.result c.index-points-second-2.result c.requires.tight c.requires.in_range c.index-points-second.is c.index-points-second-2.is

-- the four points, as they are read
read : (c : After-meet) →
    IsPair c.args.points.now c.args.first c.args.second c.index-points-first.result c.index-points-first-2.result c.index-points-second.result c.index-points-second-2.result
read c =
    record {
      tight = c.requires.tight;
      in_order = c.requires.in_order;
      in_range = c.requires.in_range;
      from = c.index-points-first.is;
      to = c.index-points-first-2.is;
      other_from = c.index-points-second.is;
      other_to = c.index-points-second-2.is;
    }

pub returns-in-Apart : goal.returns-in-Apart
returns-in-Apart c = pair-apart _ _ _ _ _ _ _ (read (goal.at.returns-in-Apart c).After-meet) c.in-Apart.ensures

pub returns-in-At : goal.returns-in-At
returns-in-At c = pair-once _ _ _ _ _ _ _ c.in-At.field-0 c.are_neighbours.result (read (goal.at.returns-in-At c).After-meet) c.in-At.ensures c.are_neighbours.ensures

pub returns-in-Along : goal.returns-in-Along
returns-in-Along c = pair-along _ _ _ _ _ _ _ c.in-Along.field-0 c.in-Along.field-1 (read (goal.at.returns-in-Along c).After-meet) c.in-Along.ensures
