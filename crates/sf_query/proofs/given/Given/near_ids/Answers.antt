use Rattle.std.proofs.Common.{◌≡◌, ◌∙◌, IfOk, ap, subst}
use Rattle.sf_geometry.specs.Envelope.{envelope_of}
use Rattle.sf_rtree.specs.Indexes.{ids_meeting}
use Rattle.sf_query.proofs.given.Given.near_ids.Goals as goal

pub returns : goal.returns
returns c =
    subst (λ extent. IfOk c.meeting.result (λ ids. ids.items ≡ ids_meeting extent c.args.index.now)) (c.self.invariant.1 ∙ ap envelope_of c.self.view_is) c.meeting.ensures
