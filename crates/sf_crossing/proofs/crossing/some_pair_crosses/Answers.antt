use Rattle.sf_crossing.proofs.AloneLaws.{crossing-of}
use Rattle.sf_crossing.proofs.crossing.some_pair_crosses.Goals as goal

pub returns-then-cross_alone : goal.returns-then-cross_alone
returns-then-cross_alone c =
    λ t. crossing-of c.args.first.now c.args.second.now c.loop-i.i c.loop-j.j c.loop-i-test.true c.loop-j-test.true (c.cross_alone.ensures.0 c.if-cross_alone.true)
