use Rattle.sf_contact.specs.Absence.{on_edges}
use Rattle.sf_contact.proofs.PairLaws.{meets-by-one, met-by-one, tells-by}
use Rattle.sf_contact.proofs.edges.edges_meet.Goals as goal

pub returns : goal.returns
returns c =
    tells-by c.has_edge_meeting.result (on_edges c.args.geometry.now) (on_edges c.args.other.now)
    (λ t. meets-by-one c.args.geometry.now c.args.other.now c.envelope.result (c.has_edge_meeting.ensures.0 t))
    (λ s. c.has_edge_meeting.ensures.1 (met-by-one c.args.geometry.now c.args.other.now c.envelope.result c.requires c.envelope.ensures s))
