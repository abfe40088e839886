use Rattle.sf_linework.proofs.EndLaws.{two-ends}
use Rattle.sf_linework.proofs.ends.seen_by_line.Goals as goal

pub returns-in-Some : goal.returns-in-Some
returns-in-Some c =
    two-ends c.args.lines.now c.args.other.now _ _ _ c.seen_by_end.result c.seen_by_end-in-Some.result c.or.result
    c.in-Some.ensures c.seen_by_end.ensures c.seen_by_end-in-Some.ensures c.or.ensures
