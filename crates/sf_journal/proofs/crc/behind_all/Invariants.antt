use Rattle.std.proofs.Common.{◌≡◌, take}
use Rattle.std.specs.List.{fold}
use Rattle.sf_journal.specs.Crc.{behind_byte}
use Rattle.sf_journal.proofs.crc.behind_all.Given as goal

abbrev pub invariant-loop-byte : goal.invariant-loop-byte
invariant-loop-byte l = l.register ≡ fold behind_byte l.fn.register (take l.byte-index l.bytes)
