use Rattle.sf_journal.proofs.CrcLaws.{row-at}
use Rattle.sf_journal.proofs.crc.row.Goals as goal

pub returns : goal.returns
returns c = row-at c.args.value c.requires
