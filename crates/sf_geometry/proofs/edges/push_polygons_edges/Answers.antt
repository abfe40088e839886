use Rattle.std.proofs.Common.{ap, sym, ◌∙◌, ◌++◌, List, map}
use Rattle.std.specs.List.{flat_map}
use Rattle.std.proofs.lemmas.List.{append-nil, take_all}
use Rattle.sf_grid.specs.Plane.{Coordinates}
use Rattle.sf_grid.specs.Edge.{Edge}
use Rattle.sf_geometry.specs.Lists.{edges_of as edges_of_list}
use Rattle.sf_geometry.specs.Parts.{edge_of}
use Rattle.sf_geometry.proofs.ListLaws.{flat_map-joined, pushed-more}
use Rattle.sf_geometry.proofs.edges.push_polygons_edges.Goals as goal

abbrev edges_of_rings : List (List Coordinates) → List Edge
edges_of_rings rings = flat_map edges_of_list rings

pub loop-rings-init : goal.loop-rings-init
loop-rings-init c = sym (append-nil (map edge_of c.args.found.now.items))

pub loop-rings-preserved : goal.loop-rings-preserved
loop-rings-preserved c =
    pushed-more edges_of_rings (map edge_of c.args.found.now.items) (map edge_of c.loop-rings.found.items) (map edge_of c.push_all_edges.new.found.items) c.args.polygons.now c.loop-rings.rings-index c.rings-item.result
    c.loop-rings-test.true c.rings-item.is c.loop-rings.invariant
    (c.in_ok-push_all_edges.ensures ∙ ap (λ rings. map edge_of c.loop-rings.found.items ++ edges_of_rings rings) c.as_slice.ensures)

pub returns : goal.returns
returns c =
    c.loop-rings.invariant
    ∙ ap (λ polygons. map edge_of c.args.found.now.items ++ flat_map edges_of_rings polygons) (take_all c.loop-rings.rings-index c.args.polygons.now c.loop-rings-test.false)
    ∙ ap (λ es. map edge_of c.args.found.now.items ++ es) (flat_map-joined edges_of_list c.args.polygons.now)
