use Rattle.std.proofs.Common.{◌≡◌, ◌∙◌, ap, sym, arith, ◌+◌, ◌∷◌, drop, length, List}
use Rattle.std.proofs.lemmas.List.{drop_more}
use Rattle.sf_grid.specs.Plane.{Coordinates}
use Rattle.sf_geometry.specs.Lists.{is_same, tight}
use Rattle.sf_geometry.proofs.ListLaws.{not-false, not-true, tight_length-other, tight_length-same}
use Rattle.sf_geometry.proofs.edges.tight_length.Goals as goal
use Rattle.sf_geometry.proofs.edges.tight_length.Goals.{then-ne, else-ne}

pub loop-to-preserved : goal.loop-to-preserved
loop-to-preserved c =
    let others : List Coordinates = c.in-Some.others.now in
    let from : Coordinates = c.loop-to.from in
    let to : Coordinates = c.to-item.result in
    let rest : List Coordinates = drop (c.loop-to.to-index + 1) others in
    let next : drop c.loop-to.to-index others ≡ to ∷ rest =
    drop_more others c.loop-to.to-index to c.loop-to-test.true ∙ ap (λ p. p ∷ rest) (sym c.to-item.is) in
    let left : length (tight (from ∷ drop c.loop-to.to-index others)) ≡ length (tight (from ∷ to ∷ rest)) = ap (λ ps. length (tight (from ∷ ps))) next in
    elim c.if-ne.branch [
      | then-ne w ↦
          let longer : length (tight (from ∷ to ∷ rest)) ≡ length (tight (to ∷ rest)) + 1 =
          tight_length-other from to rest (not-true (is_same from to) (sym c.ne.ensures ∙ w.if-ne.true)) in
          (omega (arith, left, longer, w.length-is, c.loop-to.invariant.0), omega (arith, w.length-is, c.loop-to.invariant.1))
      | else-ne w ↦
          let as_long : length (tight (from ∷ to ∷ rest)) ≡ length (tight (to ∷ rest)) =
          tight_length-same from to rest (not-false (is_same from to) (sym c.ne.ensures ∙ w.if-ne.false)) in
          (omega (arith, left, as_long, w.length-is, c.loop-to.invariant.0), omega (arith, w.length-is, c.loop-to.invariant.1))
    ]
