use Rattle.std.proofs.Common.{◌≡◌, ◌∙◌, ap, sym, ◌+◌, ◌∷◌, drop, List}
use Rattle.std.proofs.lemmas.List.{drop_more}
use Rattle.sf_grid.specs.Plane.{Coordinates, grid_point}
use Rattle.sf_geometry.specs.Lists.{edges_of}
use Rattle.sf_relate.specs.Locating.{edges_place, in_one_alone}
use Rattle.sf_relate.proofs.NeighbourLaws.{decided, ring-turn}
use Rattle.sf_relate.proofs.locating.place_in_ring.Goals as goal
use Rattle.sf_relate.proofs.locating.place_in_ring.Goals.{After-in_one_alone-place}

turned : (c : After-in_one_alone-place) →
    in_one_alone c.in_one_alone-place.result (edges_place (edges_of (c.to-item.result ∷ drop (c.loop-to.to-index + 1) c.in-Some.others.now)) (grid_point c.args.point))
    ≡ edges_place (edges_of (c.in-Some.first.now ∷ c.in-Some.others.now)) (grid_point c.args.point)
turned c =
    let others : List Coordinates = c.in-Some.others.now in
    let rest : List Coordinates = drop (c.loop-to.to-index + 1) others in
    ring-turn c.loop-to.place c.place_by_neighbours.result c.in_one_alone-place.result
    (edges_place (edges_of (c.in-Some.first.now ∷ others)) (grid_point c.args.point)) c.loop-to.from c.to-item.result rest
    (drop c.loop-to.to-index others) (grid_point c.args.point) c.in_one_alone-place.ensures c.place_by_neighbours.ensures
    (drop_more others c.loop-to.to-index c.to-item.result c.loop-to-test.true ∙ ap (λ p. p ∷ rest) (sym c.to-item.is))
    c.loop-to.invariant

pub loop-to-preserved : goal.loop-to-preserved
loop-to-preserved c = turned (goal.at.loop-to-preserved c).After-in_one_alone-place

pub returns-in-Boundary : goal.returns-in-Boundary
returns-in-Boundary c =
    decided c.in_one_alone-place.result
    (edges_place (edges_of (c.to-item.result ∷ drop (c.loop-to.to-index + 1) c.in-Some.others.now)) (grid_point c.args.point))
    (edges_place (edges_of (c.in-Some.first.now ∷ c.in-Some.others.now)) (grid_point c.args.point)) c.in-Boundary.is
    (turned (goal.at.returns-in-Boundary c).After-in_one_alone-place)
    ∙ ap (λ ps. edges_place (edges_of ps) (grid_point c.args.point)) (sym c.in-Some.ensures.cases.0)
