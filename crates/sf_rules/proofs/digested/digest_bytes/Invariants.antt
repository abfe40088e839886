use Rattle.std.proofs.Common.{◌≡◌, drop}
use Rattle.sf_rules.specs.Digests.{digest_from}
use Rattle.sf_rules.proofs.digested.digest_bytes.Given as goal

-- with the bytes left, the number so far comes to that of all
abbrev pub invariant-loop-byte : goal.invariant-loop-byte
invariant-loop-byte l = digest_from l.digest (drop l.byte-index l.bytes) ≡ digest_from 0 l.bytes
