use Rattle.std.proofs.Common.{◌∙◌, ap, sym, ◌+◌, ◌∷◌, drop, List}
use Rattle.std.specs.List.{flat_map}
use Rattle.std.proofs.lemmas.Grind.{flat_map-append}
use Rattle.std.proofs.lemmas.List.{drop_more}
use Rattle.sf_grid.specs.Plane.{Coordinates, grid_point}
use Rattle.sf_geometry.specs.Lists.{edges_of}
use Rattle.sf_geometry.specs.Parts.{joined}
use Rattle.sf_relate.specs.Locating.{edges_place}
use Rattle.sf_relate.proofs.NeighbourLaws.{lists-turn}
use Rattle.sf_relate.proofs.locating.place_in_polygons.Goals as goal

pub loop-rings-preserved : goal.loop-rings-preserved
loop-rings-preserved c =
    let polygons : List (List (List Coordinates)) = c.args.polygons.now in
    let rings : List (List Coordinates) = c.rings-item.result in
    let rest : List (List (List Coordinates)) = drop (c.loop-rings.rings-index + 1) polygons in
    lists-turn c.loop-rings.place c.place_in_rings.result c.in_one_alone-place.result (edges_place (flat_map edges_of (joined polygons)) (grid_point c.args.point))
    (flat_map edges_of rings) (flat_map edges_of (joined rest)) (flat_map edges_of (joined (drop c.loop-rings.rings-index polygons))) (grid_point c.args.point)
    c.in_one_alone-place.ensures
    (c.place_in_rings.ensures ∙ ap (λ rs. edges_place (flat_map edges_of rs) (grid_point c.args.point)) c.as_slice.ensures)
    (ap (λ ps. flat_map edges_of (joined ps)) (drop_more polygons c.loop-rings.rings-index rings c.loop-rings-test.true ∙ ap (λ r. r ∷ rest) (sym c.rings-item.is))
    ∙ flat_map-append edges_of rings (joined rest))
    c.loop-rings.invariant
