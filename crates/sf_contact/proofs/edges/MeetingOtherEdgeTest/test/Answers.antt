use Rattle.sf_contact.proofs.PairLaws.{one-by-pair, pair-by-one}
use Rattle.sf_contact.proofs.edges.MeetingOtherEdgeTest.test.Goals as goal

pub returns : goal.returns
returns c = (
  λ t. pair-by-one c.args.from c.args.to c.args.self.now.other.now c.requires (c.any_edge.ensures.0 t),
  λ m. c.any_edge.ensures.1 (one-by-pair c.args.from c.args.to c.args.self.now.other.now c.requires m),
)
