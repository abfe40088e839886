use Rattle.std.proofs.Common.{◌<◌, ◌∙◌, length, map, subst, sym}
use Rattle.sf_geometry.specs.Parts.{edge_of, edges_of}
use Rattle.sf_edge_tree.specs.Meeting.{ends_meeting}
use Rattle.sf_edge_tree.specs.Searches.{Answers}
use Rattle.sf_crossing.specs.Sharing.{ShareOne}
use Rattle.sf_crossing.proofs.EdgeLaws.{AreLong, long-meeting}
use Rattle.sf_crossing.proofs.SharingLaws.{sharing-told}
use Rattle.sf_crossing.proofs.sharing.find_sharing.Goals as goal

pub find_pair_with-requires : goal.find_pair_with-requires
find_pair_with-requires c i j k l = (
  subst AreLong (sym (c.edges.ensures ∙ c.in_ok-first.ensures ∙ c.in_ok-edges_meeting.ensures)) (long-meeting c.args.common.now c.args.a.now),
  subst AreLong (sym (c.edges-2.ensures ∙ c.in_ok-second.ensures ∙ c.in_ok-edges_meeting-2.ensures)) (long-meeting c.args.common.now c.args.b.now),
  subst (λ es. i < length es) (sym c.edges.ensures) k,
  subst (λ es. j < length es) (sym c.edges-2.ensures) l,
)

pub returns : goal.returns
returns c =
    subst (λ es. Answers (ShareOne (map edge_of es) (map edge_of (ends_meeting c.args.common.now (edges_of c.args.b.now)))) c.find_pair_with.result)
    (c.edges.ensures ∙ c.in_ok-first.ensures ∙ c.in_ok-edges_meeting.ensures)
    (subst (λ fs. Answers (ShareOne (map edge_of c.edges.result.now) (map edge_of fs)) c.find_pair_with.result)
    (c.edges-2.ensures ∙ c.in_ok-second.ensures ∙ c.in_ok-edges_meeting-2.ensures)
    (sharing-told c.edges.result.now c.edges-2.result.now c.in_ok-first.first c.in_ok-second.second c.find_pair_with.result (sym c.edges.ensures) (sym c.edges-2.ensures) c.find_pair_with.ensures))
