use Rattle.std.proofs.Common.{◌∙◌, ap}
use Rattle.sf_geometry.specs.Envelope.{envelope_of}
use Rattle.sf_geometry.specs.Parts.{edges_of}
use Rattle.sf_edge_tree.specs.Meeting.{ends_meeting}
use Rattle.sf_prepared.specs.Nearby.{columns_over}
use Rattle.sf_prepared.proofs.small.by_edges_nearby.Goals as goal

pub walked_nearby-requires-clause-extent : goal.walked_nearby-requires-clause-extent
walked_nearby-requires-clause-extent c = c.envelope-extent.ensures ∙ ap envelope_of c.geometry.ensures.same

pub walked_nearby-requires-clause-edges : goal.walked_nearby-requires-clause-edges
walked_nearby-requires-clause-edges c =
    c.as_slice.ensures.value
    ∙ c.in-Ok.ensures
    ∙ ap (λ box. ends_meeting box (edges_of c.geometry-2.result.now)) c.columns_over-columns.ensures
    ∙ ap (λ area. ends_meeting (columns_over c.envelope-extent.result) (edges_of area)) c.geometry-2.ensures.same
