use Rattle.sf_linework.specs.declared.cover.TheConstants.{FEW_ENDS}
use Rattle.sf_linework.proofs.CoverLaws.{half-starts, halves-start}
use Rattle.sf_linework.proofs.cover.seen_at_starts.Goals as goal

pub returns-clause-interior : goal.returns-clause-interior
returns-clause-interior c h =
    (halves-start c.args.geometry.now _ FEW_ENDS c.args.edges.now c.split_at.result.0.now c.split_at.result.1.now c.first_few.result.now c.first_few-2.result.now
    c.seen_of_starts-first.result c.seen_of_starts-second.result c.or.result c.split_at.ensures.front c.split_at.ensures.back c.first_few.ensures c.first_few-2.ensures
    c.seen_of_starts-first.ensures c.seen_of_starts-second.ensures c.or.ensures).0 h

pub returns-clause-exterior : goal.returns-clause-exterior
returns-clause-exterior c h =
    (halves-start c.args.geometry.now _ FEW_ENDS c.args.edges.now c.split_at.result.0.now c.split_at.result.1.now c.first_few.result.now c.first_few-2.result.now
    c.seen_of_starts-first.result c.seen_of_starts-second.result c.or.result c.split_at.ensures.front c.split_at.ensures.back c.first_few.ensures c.first_few-2.ensures
    c.seen_of_starts-first.ensures c.seen_of_starts-second.ensures c.or.ensures).1 h

pub returns-then-is_all_told-clause-interior : goal.returns-then-is_all_told-clause-interior
returns-then-is_all_told-clause-interior c h =
    (half-starts c.args.geometry.now _ FEW_ENDS c.args.edges.now c.split_at.result.0.now c.first_few.result.now c.seen_of_starts-first.result
    c.split_at.ensures.front c.first_few.ensures c.seen_of_starts-first.ensures).0 h

pub returns-then-is_all_told-clause-exterior : goal.returns-then-is_all_told-clause-exterior
returns-then-is_all_told-clause-exterior c h =
    (half-starts c.args.geometry.now _ FEW_ENDS c.args.edges.now c.split_at.result.0.now c.first_few.result.now c.seen_of_starts-first.result
    c.split_at.ensures.front c.first_few.ensures c.seen_of_starts-first.ensures).1 h
