use Rattle.sf_crossing.proofs.SharingLaws.{along-read}
use Rattle.sf_crossing.proofs.sharing.SharingPairTest.test.Goals as goal

pub returns-in-Along : goal.returns-in-Along
returns-in-Along c = (
  λ t.
      along-read c.args.self.now.first.now c.args.self.now.second.now c.args.first c.args.second c.index-self-first.result c.index-self-second.result c.in-Along.field-0 c.in-Along.field-1
      c.requires.2 c.requires.3 c.index-self-first.is c.index-self-second.is c.in-Along.ensures,
  λ s. cc,
)
