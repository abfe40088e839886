use Rattle.std.proofs.Common.{rules}
use Rattle.sf_journal.proofs.CrcLaws.{behind-by_row}
use Rattle.sf_journal.proofs.crc.behind.Goals as goal

pub returns : goal.returns
returns c = behind-by_row c.args.register c.args.byte c.row.result (search rules) c.row.ensures
