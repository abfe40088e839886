use Rattle.std.proofs.Common.{◌∙◌, ap, sym, ◌+◌, ◌∷◌, drop}
use Rattle.std.specs.List.{AllByRecursion}
use Rattle.std.proofs.lemmas.List.{drop_more}
use Rattle.sf_geometry.specs.Lists.{edges_of}
use Rattle.sf_interiors.specs.Paths.{IsOffBox}
use Rattle.sf_validity.specs.Beside.{box_of_extent}
use Rattle.sf_validity.proofs.BesideLaws.{edge-next}
use Rattle.sf_validity.proofs.beside.are_edges_apart.Goals as goal

pub loop-to-preserved : goal.loop-to-preserved
loop-to-preserved c =
    let box = box_of_extent c.args.extent in
    let all = c.in-Some.others.now in
    let index = c.loop-to.to-index in
    let item = c.to-item.result in
    edge-next box (AllByRecursion (IsOffBox box) (edges_of c.args.points.now)) c.loop-to.from item (drop (index + 1) all) (drop index all)
    (drop_more all index item c.loop-to-test.true ∙ ap (λ x. x ∷ drop (index + 1) all) (sym c.to-item.is)) (c.is_edge_apart.ensures c.if-not-is_edge_apart.false) c.loop-to.invariant
