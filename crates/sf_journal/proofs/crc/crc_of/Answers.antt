use Rattle.sf_journal.proofs.CrcLaws.{crc-by_register}
use Rattle.sf_journal.proofs.crc.crc_of.Goals as goal

pub returns : goal.returns
returns c = crc-by_register c.args.bytes.now c.behind_all.result c.behind_all.ensures
