use Rattle.std.proofs.Common.{sym, ◌∙◌}
use Rattle.std.proofs.lemmas.Bool.{false≢true}
use Rattle.sf_faults.proofs.OverlapLaws.{overlap-found, overlap-more, overlaps-end, overlaps-more}
use Rattle.sf_faults.proofs.overlapping.first_overlapping.Goals as goal

pub returns-then-branch-clause-found : goal.returns-then-branch-clause-found
returns-then-branch-clause-found c =
    overlap-found c.args.areas.now c.loop-first.first c.loop-second.second c.index-areas-first.result c.index-areas-second.result c.loop-first-test.true c.loop-second-test.true
    c.index-areas-first.is c.index-areas-second.is c.loop-second.invariant c.loop-first.invariant (c.in_ok-do_overlap.ensures.0 c.if-branch.true)

pub loop-first-preserved : goal.loop-first-preserved
loop-first-preserved c =
    overlap-more c.args.areas.now c.loop-first.first c.loop-second.second c.index-areas-first.result c.index-areas-second.result c.loop-first-test.true c.loop-second-test.true
    c.index-areas-first.is c.index-areas-second.is c.loop-first.invariant (λ a. false≢true (sym c.if-branch.false ∙ c.in_ok-do_overlap.ensures.1 a))

pub loop-second-preserved : goal.loop-second-preserved
loop-second-preserved c = overlaps-more c.args.areas.now c.loop-first.first c.loop-second.second c.loop-first-test.false c.loop-second-test.true c.loop-second.invariant c.loop-first.invariant

pub returns-clause-found : goal.returns-clause-found
returns-clause-found c = overlaps-end c.args.areas.now c.loop-second.second c.loop-second-test.false c.loop-second.invariant
