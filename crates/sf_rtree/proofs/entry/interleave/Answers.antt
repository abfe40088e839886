use Rattle.std.proofs.Common.{arith, refl, ◌/◌, ◌^◌, ◌-◌}
use Rattle.sf_rtree.specs.Boxed.{interleaved}
use Rattle.sf_rtree.proofs.Curve.{interleaved-fits, interleaved-step}
use Rattle.sf_rtree.proofs.entry.interleave.Goals as goal

pub loop-k-init : goal.loop-k-init
unfolding interleaved
loop-k-init c = refl

pub overflow_mul-place : goal.overflow_mul-place
overflow_mul-place c =
    let k = c.loop-k.k in
    omega (arith, interleaved-fits k (c.args.x / 2 ^ (32 - k)) (c.args.y / 2 ^ (32 - k)) c.loop-k.place c.loop-k-test.true c.loop-k.invariant)

pub overflow_add-place : goal.overflow_add-place
overflow_add-place c =
    let k = c.loop-k.k in
    omega (arith, c.from.ensures, interleaved-fits k (c.args.x / 2 ^ (32 - k)) (c.args.y / 2 ^ (32 - k)) c.loop-k.place c.loop-k-test.true c.loop-k.invariant)

pub loop-k-preserved : goal.loop-k-preserved
loop-k-preserved c =
    let e = interleaved-step c.args.x c.args.y c.loop-k.k c.loop-k.place c.loop-k-test.true c.loop-k.invariant in
    omega (arith, e, c.from.ensures)
