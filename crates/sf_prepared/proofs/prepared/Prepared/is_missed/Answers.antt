use Rattle.std.proofs.Common.{◌∙◌, ap, filter, map, subst}
use Rattle.sf_geometry.specs.Envelope.{extents_meet}
use Rattle.sf_geometry.specs.Parts.{edge_of}
use Rattle.sf_edge_tree.specs.Meeting.{extent_of_edge}
use Rattle.sf_prepared.specs.Places.{AreClear}
use Rattle.sf_prepared.proofs.EdgeLaws.{met-clear}
use Rattle.sf_prepared.proofs.prepared.Prepared.is_missed.Goals as goal

pub returns-in-Ok : goal.returns-in-Ok
returns-in-Ok c missed =
    met-clear c.args.extent.now c.args.self.now
    (subst (λ pairs. AreClear c.args.extent.now (map edge_of pairs))
    (c.as_slice.ensures.value ∙ c.in-Ok.ensures ∙ ap (filter (λ pair. extents_meet (extent_of_edge pair) c.args.extent.now)) c.self.view_is)
    (c.all_miss-in-Ok.ensures missed))
