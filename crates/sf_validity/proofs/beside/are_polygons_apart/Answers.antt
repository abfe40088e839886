use Rattle.std.proofs.Common.{◌∙◌, ap, sym, subst, ◌+◌, ◌∷◌, drop}
use Rattle.std.specs.List.{AllByRecursion}
use Rattle.std.proofs.lemmas.List.{drop_more}
use Rattle.sf_validity.specs.Beside.{IsApart, box_of_extent}
use Rattle.sf_validity.proofs.BesideLaws.{each-next}
use Rattle.sf_validity.proofs.beside.are_polygons_apart.Goals as goal

pub loop-rings-preserved : goal.loop-rings-preserved
loop-rings-preserved c =
    let all = c.args.polygons.now in
    let index = c.loop-rings.rings-index in
    let item = c.rings-item.result in
    each-next (AllByRecursion (IsApart (box_of_extent c.args.extent))) (AllByRecursion (AllByRecursion (IsApart (box_of_extent c.args.extent))) all) item (drop (index + 1) all) (drop index all)
    (drop_more all index item c.loop-rings-test.true ∙ ap (λ x. x ∷ drop (index + 1) all) (sym c.rings-item.is))
    (subst (AllByRecursion (IsApart (box_of_extent c.args.extent))) c.as_slice.ensures (c.are_apart.ensures c.if-not-are_apart.false)) c.loop-rings.invariant
