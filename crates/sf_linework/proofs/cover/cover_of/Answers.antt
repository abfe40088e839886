use Rattle.sf_linework.specs.Cover.{EndsAreSeen}
use Rattle.sf_linework.specs.declared.cover.TheConstants.{FEW_ENDS}
use Rattle.sf_linework.proofs.CoverLaws.{both-seen, few-seen, starts-seen, told-ends}
use Rattle.sf_linework.proofs.cover.cover_of.Goals as goal
use Rattle.sf_linework.proofs.cover.cover_of.Goals.{After-seen_at_starts-seen}

-- where a few edges start
starts : (c : After-seen_at_starts-seen) → EndsAreSeen c.args.a.now c.args.b.now c.seen_at_starts-seen.result
starts c =
    starts-seen c.args.a.now c.args.b.now c.geometry.result.now c.in-Ok.edges.items c.as_slice.result.now c.seen_at_starts-seen.result
    c.geometry.ensures.same c.in-Ok.ensures c.as_slice.ensures.value c.seen_at_starts-seen.ensures.interior c.seen_at_starts-seen.ensures.exterior

pub returns-then-is_told-clause-ends : goal.returns-then-is_told-clause-ends
returns-then-is_told-clause-ends c =
    told-ends c.args.a.now c.args.b.now c.seen_at_starts-seen.result (starts (goal.at.returns-then-is_told-clause-ends c).After-seen_at_starts-seen)

pub returns-in_default-uncovered_ends-clause-ends : goal.returns-in_default-uncovered_ends-clause-ends
returns-in_default-uncovered_ends-clause-ends c =
    told-ends c.args.a.now c.args.b.now c.seen_at_starts-seen.result (starts (goal.at.returns-in_default-uncovered_ends-clause-ends c).After-seen_at_starts-seen)

pub returns-clause-ends : goal.returns-clause-ends
returns-clause-ends c =
    let a = c.args.a.now in
    let b = c.args.b.now in
    told-ends a b c.or.result
    (both-seen a b c.seen_at_starts-seen.result c.seen_of_points.result c.or.result c.or.ensures (starts (goal.at.returns-clause-ends c).After-seen_at_starts-seen)
    (few-seen a b c.geometry-2.result.now c.in-Ok-uncovered_ends.ends.items c.as_slice-2.result.now c.first_few.result.now FEW_ENDS c.seen_of_points.result
    c.geometry-2.ensures.same c.in-Ok-uncovered_ends.ensures.ends c.as_slice-2.ensures.value c.first_few.ensures c.seen_of_points.ensures))
