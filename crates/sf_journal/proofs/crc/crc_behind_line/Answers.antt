use Rattle.sf_journal.proofs.CrcLaws.{crc-by_line}
use Rattle.sf_journal.proofs.crc.crc_behind_line.Goals as goal

pub returns : goal.returns
returns c = crc-by_line c.args.known c.args.line.now c.behind_all.result c.behind.result c.behind_all.ensures c.behind.ensures
