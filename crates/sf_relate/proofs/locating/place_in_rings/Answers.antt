use Rattle.std.proofs.Common.{◌∙◌, ap, sym, ◌+◌, ◌∷◌, drop, List}
use Rattle.std.specs.List.{flat_map}
use Rattle.std.proofs.lemmas.List.{drop_more}
use Rattle.sf_grid.specs.Plane.{Coordinates, grid_point}
use Rattle.sf_geometry.specs.Lists.{edges_of}
use Rattle.sf_relate.specs.Locating.{edges_place}
use Rattle.sf_relate.proofs.NeighbourLaws.{lists-turn}
use Rattle.sf_relate.proofs.locating.place_in_rings.Goals as goal

pub loop-ring-preserved : goal.loop-ring-preserved
loop-ring-preserved c =
    let rings : List (List Coordinates) = c.args.rings.now in
    let ring : List Coordinates = c.ring-item.result in
    let rest : List (List Coordinates) = drop (c.loop-ring.ring-index + 1) rings in
    lists-turn c.loop-ring.place c.place_in_ring.result c.in_one_alone-place.result (edges_place (flat_map edges_of rings) (grid_point c.args.point))
    (edges_of ring) (flat_map edges_of rest) (flat_map edges_of (drop c.loop-ring.ring-index rings)) (grid_point c.args.point)
    c.in_one_alone-place.ensures
    (c.place_in_ring.ensures ∙ ap (λ ps. edges_place (edges_of ps) (grid_point c.args.point)) c.as_slice.ensures)
    (ap (flat_map edges_of) (drop_more rings c.loop-ring.ring-index ring c.loop-ring-test.true ∙ ap (λ r. r ∷ rest) (sym c.ring-item.is)))
    c.loop-ring.invariant
