use Rattle.std.proofs.Common.{◌≡◌, ◌∙◌, IfOk, ap, subst}
use Rattle.sf_geometry.specs.Envelope.{envelope_of}
use Rattle.sf_rtree.specs.Indexes.{ids_meeting}
use Rattle.sf_validity.specs.Held.{IsHeld}
use Rattle.sf_distance.specs.Reaches.{steps_of_reach}
use Rattle.sf_near.specs.Grown.{grown}
use Rattle.sf_near.specs.Surrounding.{Surrounding}
use Rattle.sf_near.proofs.surroundings.Surroundings.near_ids.Goals as goal

pub returns-clause-ids : goal.returns-clause-ids
returns-clause-ids c =
    subst (λ extent. IfOk c.meeting.result (λ ids. ids.items ≡ ids_meeting extent c.args.index.now))
    (c.self.invariant.extent_is ∙ ap (λ (s : Surrounding). grown (steps_of_reach s.reach) (envelope_of s.geometry)) c.self.view_is) c.meeting.ensures

pub returns-clause-held : goal.returns-clause-held
returns-clause-held c = subst (λ (s : Surrounding). IsHeld s.geometry) c.self.view_is c.self.invariant.held
