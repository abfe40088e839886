use Rattle.std.proofs.Common.{sym, ◌∙◌, ◌+◌}
use Rattle.std.specs.List.{enumerate_from, flat_map}
use Rattle.sf_faults.specs.Candidates.{outside_at}
use Rattle.sf_faults.proofs.PlaceLaws.{among-none, among-some, counted-at, counted-end, counted-length, first-member, none-all, none-member}
use Rattle.sf_faults.proofs.outside.first_outside.Goals as goal

pub returns-then-is_some : goal.returns-then-is_some
returns-then-is_some c =
    λ shell is.
    let xs = c.args.holes.now in
    let i = c.loop-index.index in
    let points = c.index-holes-index.result in
    among-some (outside_at c.args.part shell (i + 1, points)) (flat_map (outside_at c.args.part shell) (enumerate_from 1 xs)) c.in_ok-place.place (sym c.is_some.ensures ∙ c.if-is_some.true)
    (c.in_ok-place.ensures shell is)
    (λ place. first-member (outside_at c.args.part shell) (enumerate_from 1 xs) i (i + 1, points) place (counted-length xs i c.loop-index-test.true)
    (counted-at xs i points c.loop-index-test.true c.index-holes-index.is) (c.loop-index.invariant shell is))

pub loop-index-preserved : goal.loop-index-preserved
loop-index-preserved c =
    λ shell is.
    let xs = c.args.holes.now in
    let i = c.loop-index.index in
    let points = c.index-holes-index.result in
    none-member (outside_at c.args.part shell) (enumerate_from 1 xs) i (i + 1, points) (counted-length xs i c.loop-index-test.true)
    (counted-at xs i points c.loop-index-test.true c.index-holes-index.is) (c.loop-index.invariant shell is)
    (among-none (outside_at c.args.part shell (i + 1, points)) c.in_ok-place.place (sym c.is_some.ensures ∙ c.if-is_some.false) (c.in_ok-place.ensures shell is))

pub returns : goal.returns
returns c =
    λ shell is.
    none-all (outside_at c.args.part shell) (enumerate_from 1 c.args.holes.now) c.loop-index.index (counted-end c.args.holes.now c.loop-index.index c.loop-index-test.false) (c.loop-index.invariant shell is)
