use Rattle.std.proofs.Common.{◌∙◌, ap, sym, subst, ◌+◌, ◌∷◌, drop}
use Rattle.std.specs.List.{AllByRecursion}
use Rattle.std.proofs.lemmas.List.{drop_more}
use Rattle.sf_validity.specs.Beside.{IsApart, box_of_extent}
use Rattle.sf_validity.proofs.BesideLaws.{each-next}
use Rattle.sf_validity.proofs.beside.are_apart.Goals as goal

pub loop-points-preserved : goal.loop-points-preserved
loop-points-preserved c =
    let all = c.args.rings.now in
    let index = c.loop-points.points-index in
    let item = c.points-item.result in
    each-next (IsApart (box_of_extent c.args.extent)) (AllByRecursion (IsApart (box_of_extent c.args.extent)) all) item (drop (index + 1) all) (drop index all)
    (drop_more all index item c.loop-points-test.true ∙ ap (λ x. x ∷ drop (index + 1) all) (sym c.points-item.is))
    (subst (IsApart (box_of_extent c.args.extent)) c.as_slice.ensures (c.is_apart.ensures c.if-not-is_apart.false)) c.loop-points.invariant
