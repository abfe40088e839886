use Rattle.std.proofs.Common.{ap, sym, ◌∙◌, ◌++◌, List}
use Rattle.std.specs.List.{flat_map}
use Rattle.std.proofs.lemmas.List.{append-nil, take_all}
use Rattle.sf_grid.specs.Plane.{Coordinates}
use Rattle.sf_geometry.specs.declared.extent.Extent.{Extent}
use Rattle.sf_geometry.specs.Lists.{edges_of as edges_of_list}
use Rattle.sf_geometry.proofs.ListLaws.{flat_map-joined, pushed-more}
use Rattle.sf_edge_tree.specs.Meeting.{ends_meeting}
use Rattle.sf_edge_tree.proofs.MeetingLaws.{meeting-flat}
use Rattle.sf_edge_tree.proofs.meeting.push_polygons_meeting.Goals as goal

abbrev of_rings : Extent → List (List Coordinates) → List (Coordinates × Coordinates)
of_rings box rings = ends_meeting box (flat_map edges_of_list rings)

pub loop-rings-init : goal.loop-rings-init
loop-rings-init c = sym (append-nil c.args.found.now.items)

pub loop-rings-preserved : goal.loop-rings-preserved
loop-rings-preserved c =
    pushed-more (of_rings c.args.extent.now) c.args.found.now.items c.loop-rings.found.items c.push_all_meeting.new.found.items c.args.polygons.now c.loop-rings.rings-index c.rings-item.result
    c.loop-rings-test.true c.rings-item.is c.loop-rings.invariant
    (c.in_ok-push_all_meeting.ensures ∙ ap (λ rings. c.loop-rings.found.items ++ of_rings c.args.extent.now rings) c.as_slice.ensures)

pub returns : goal.returns
returns c =
    c.loop-rings.invariant
    ∙ ap (λ xs. c.args.found.now.items ++ flat_map (of_rings c.args.extent.now) xs) (take_all c.loop-rings.rings-index c.args.polygons.now c.loop-rings-test.false)
    ∙ ap (λ ps. c.args.found.now.items ++ ps) (meeting-flat c.args.extent.now (λ rings. flat_map edges_of_list rings) c.args.polygons.now)
    ∙ ap (λ es. c.args.found.now.items ++ ends_meeting c.args.extent.now es) (flat_map-joined edges_of_list c.args.polygons.now)
