use Rattle.sf_strands.proofs.FarLaws.{apart-none, holds-found, lengths-from_tight}
use Rattle.sf_strands.proofs.far.some_far_pair_meets.Goals as goal

pub first_meeting-requires : goal.first_meeting-requires
first_meeting-requires c = lengths-from_tight c.args.points.now c.requires.tight

pub returns-in_default : goal.returns-in_default
returns-in_default c = apart-none c.args.points.now c.requires.tight (c.in_ok-doubt.ensures c.in_default.is)

pub returns-then-does_doubt_hold : goal.returns-then-does_doubt_hold
returns-then-does_doubt_hold c = holds-found c.args.points.now (c.does_doubt_hold.ensures c.if-does_doubt_hold.true)
