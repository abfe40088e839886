use Rattle.std.proofs.Common.{◌≡◌, refl, ap, sym, ◌∙◌, ◌+◌, ◌++◌, List, ◌∷◌, drop}
use Rattle.std.proofs.lemmas.List.{append-nil, drop_all, drop_more}
use Rattle.sf_grid.specs.Plane.{Coordinates}
use Rattle.sf_geometry.specs.Lists.{edges_of as edges_of_list}
use Rattle.sf_edge_tree.specs.Meeting.{ends_meeting}
use Rattle.sf_edge_tree.proofs.MeetingLaws.{passed-meeting, passed-other}
use Rattle.sf_edge_tree.proofs.meeting.push_meeting.Goals as goal
use Rattle.sf_edge_tree.proofs.meeting.push_meeting.Goals.{then-is_edge_meeting+in_ok-push, else-is_edge_meeting}

pub loop-to-init : goal.loop-to-init
loop-to-init c = refl

pub loop-to-preserved : goal.loop-to-preserved
loop-to-preserved c =
    let others : List Coordinates = c.in-Some.others.now in
    let from : Coordinates = c.loop-to.from in
    let to : Coordinates = c.to-item.result in
    let rest : List Coordinates = drop (c.loop-to.to-index + 1) others in
    let box = c.args.extent.now in
    let next : drop c.loop-to.to-index others ≡ to ∷ rest =
    drop_more others c.loop-to.to-index to c.loop-to-test.true ∙ ap (λ p. p ∷ rest) (sym c.to-item.is) in
    let before : c.loop-to.found.items ++ ends_meeting box (edges_of_list (from ∷ to ∷ rest)) ≡ c.args.found.now.items ++ ends_meeting box (edges_of_list (c.in-Some.first.now ∷ others)) =
    ap (λ ps. c.loop-to.found.items ++ ends_meeting box (edges_of_list (from ∷ ps))) (sym next) ∙ c.loop-to.invariant in
    elim c.if-is_edge_meeting.branch [
      | then-is_edge_meeting+in_ok-push w ↦
          passed-meeting box c.loop-to.found.items _ from to rest (ap (λ found. found.items) w.found-is ∙ w.in_ok-push.ensures.items) (sym c.is_edge_meeting.ensures ∙ w.if-is_edge_meeting.true) ∙ before
      | else-is_edge_meeting w ↦
          ap (λ found. found.items ++ ends_meeting box (edges_of_list (to ∷ rest))) w.found-is
          ∙ passed-other box c.loop-to.found.items from to rest (sym c.is_edge_meeting.ensures ∙ w.if-is_edge_meeting.false)
          ∙ before
    ]

pub returns : goal.returns
returns c =
    sym (append-nil c.loop-to.found.items)
    ∙ ap (λ ps. c.loop-to.found.items ++ ends_meeting c.args.extent.now (edges_of_list (c.loop-to.from ∷ ps))) (sym (drop_all c.loop-to.to-index c.in-Some.others.now c.loop-to-test.false))
    ∙ c.loop-to.invariant
    ∙ ap (λ ps. c.args.found.now.items ++ ends_meeting c.args.extent.now (edges_of_list ps)) (sym c.in-Some.ensures.cases.0)
