use Rattle.std.proofs.Common.{ap, sym, ◌∙◌, ◌++◌, List}
use Rattle.std.specs.List.{flat_map}
use Rattle.std.proofs.lemmas.List.{append-nil, take_all}
use Rattle.sf_grid.specs.Plane.{Coordinates}
use Rattle.sf_geometry.specs.declared.extent.Extent.{Extent}
use Rattle.sf_geometry.specs.Lists.{edges_of as edges_of_list}
use Rattle.sf_geometry.proofs.ListLaws.{pushed-more}
use Rattle.sf_edge_tree.specs.Meeting.{ends_meeting}
use Rattle.sf_edge_tree.proofs.MeetingLaws.{meeting-flat}
use Rattle.sf_edge_tree.proofs.meeting.push_all_meeting.Goals as goal

abbrev of_list : Extent → List Coordinates → List (Coordinates × Coordinates)
of_list box ps = ends_meeting box (edges_of_list ps)

pub loop-points-init : goal.loop-points-init
loop-points-init c = sym (append-nil c.args.found.now.items)

pub loop-points-preserved : goal.loop-points-preserved
loop-points-preserved c =
    pushed-more (of_list c.args.extent.now) c.args.found.now.items c.loop-points.found.items c.push_meeting.new.found.items c.args.lists.now c.loop-points.points-index c.points-item.result
    c.loop-points-test.true c.points-item.is c.loop-points.invariant
    (c.in_ok-push_meeting.ensures ∙ ap (λ ps. c.loop-points.found.items ++ of_list c.args.extent.now ps) c.as_slice.ensures)

pub returns : goal.returns
returns c =
    c.loop-points.invariant
    ∙ ap (λ xs. c.args.found.now.items ++ flat_map (of_list c.args.extent.now) xs) (take_all c.loop-points.points-index c.args.lists.now c.loop-points-test.false)
    ∙ ap (λ ps. c.args.found.now.items ++ ps) (meeting-flat c.args.extent.now edges_of_list c.args.lists.now)
