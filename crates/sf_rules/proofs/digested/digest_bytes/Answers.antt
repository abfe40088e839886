use Rattle.sf_rules.proofs.DigestLaws.{all-digested, digested-more}
use Rattle.sf_rules.proofs.digested.digest_bytes.Goals as goal

pub loop-byte-preserved : goal.loop-byte-preserved
loop-byte-preserved c = digested-more c.args.bytes.now c.loop-byte.byte-index _ c.from.result c.loop-byte.digest _ c.loop-byte-test.true c.from.ensures c.loop-byte.invariant

pub returns : goal.returns
returns c = all-digested c.args.bytes.now c.loop-byte.byte-index c.loop-byte.digest _ c.loop-byte-test.false c.loop-byte.invariant
