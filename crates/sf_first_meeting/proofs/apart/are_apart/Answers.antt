use Rattle.std.proofs.lemmas.Bool.{false≢true}
use Rattle.std.proofs.Common.{arith}
use Rattle.sf_first_meeting.proofs.PairLaws.{IsPair, apart-read, at-read, read-differ}
use Rattle.sf_first_meeting.proofs.apart.are_apart.Goals as goal
use Rattle.sf_first_meeting.proofs.apart.are_apart.Goals.{After-meet}

pub meet-requires-clause-first_has_length : goal.meet-requires-clause-first_has_length
meet-requires-clause-first_has_length c =
    read-differ c.args.points.now c.args.earlier c.index-points-earlier.result c.index-points-earlier-2.result c.requires.lengths (omega (arith, c.requires.in_order, c.requires.in_range))
    c.index-points-earlier.is c.index-points-earlier-2.is

pub meet-requires-clause-second_has_length : goal.meet-requires-clause-second_has_length
meet-requires-clause-second_has_length c =
    read-differ c.args.points.now c.args.later c.index-points-later.result c.index-points-later-2.result c.requires.lengths c.requires.in_range c.index-points-later.is c.index-points-later-2.is

-- the four points, as they are read
read : (c : After-meet) →
    IsPair c.args.points.now c.args.earlier c.args.later c.index-points-earlier.result c.index-points-earlier-2.result c.index-points-later.result c.index-points-later-2.result
read c =
    record {
      in_order = c.requires.in_order;
      in_range = c.requires.in_range;
      from = c.index-points-earlier.is;
      to = c.index-points-earlier-2.is;
      other_from = c.index-points-later.is;
      other_to = c.index-points-later-2.is;
    }

pub returns-in-Apart : goal.returns-in-Apart
returns-in-Apart c = λ h. apart-read _ _ _ _ _ _ _ (read (goal.at.returns-in-Apart c).After-meet) c.in-Apart.ensures

pub returns-in-At : goal.returns-in-At
returns-in-At c = λ h. at-read _ _ _ _ _ _ _ c.in-At.field-0 (read (goal.at.returns-in-At c).After-meet) c.in-At.ensures (c.are_neighbours.ensures h)

pub returns-in-Along : goal.returns-in-Along
returns-in-Along c = λ h. absurd (false≢true h)
