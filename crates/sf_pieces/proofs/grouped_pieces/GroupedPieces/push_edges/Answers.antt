use Rattle.std.proofs.Common.{◌≡◌, ◌∙◌, ap, sym, ◌+◌, ◌++◌, ◌∷◌, drop, List}
use Rattle.std.proofs.lemmas.List.{drop_more}
use Rattle.sf_grid.specs.Plane.{Coordinates}
use Rattle.sf_geometry.specs.Lists.{is_same}
use Rattle.sf_geometry.proofs.ListLaws.{not-false, not-true}
use Rattle.sf_pieces.proofs.PairLaws.{edges_in, edges_in-other, edges_in-same}
use Rattle.sf_pieces.proofs.grouped_pieces.GroupedPieces.push_edges.Goals as goal
use Rattle.sf_pieces.proofs.grouped_pieces.GroupedPieces.push_edges.Goals.{then-ne+in_ok-push, else-ne}

pub loop-to-preserved : goal.loop-to-preserved
loop-to-preserved c =
    let others : List Coordinates = c.in-Some.others.now in
    let from : Coordinates = c.loop-to.from in
    let to : Coordinates = c.to-item.result in
    let rest : List Coordinates = drop (c.loop-to.to-index + 1) others in
    let next : drop c.loop-to.to-index others ≡ to ∷ rest =
    drop_more others c.loop-to.to-index to c.loop-to-test.true ∙ ap (λ p. p ∷ rest) (sym c.to-item.is) in
    let before : c.loop-to.self ++ edges_in c.args.group (from ∷ to ∷ rest) ≡ c.args.self.now ++ edges_in c.args.group (c.in-Some.first.now ∷ others) =
    ap (λ ps. c.loop-to.self ++ edges_in c.args.group (from ∷ ps)) (sym next) ∙ c.loop-to.invariant in
    elim c.if-ne.branch [
      | then-ne+in_ok-push w ↦
          ap (λ ms. ms ++ edges_in c.args.group (to ∷ rest)) (w.self-is ∙ w.in_ok-push.ensures.added)
          ∙ edges_in-other c.loop-to.self c.args.group from to rest (not-true (is_same from to) (sym c.ne.ensures ∙ w.if-ne.true))
          ∙ before
      | else-ne w ↦
          ap (λ ms. ms ++ edges_in c.args.group (to ∷ rest)) w.self-is
          ∙ edges_in-same c.loop-to.self c.args.group from to rest (not-false (is_same from to) (sym c.ne.ensures ∙ w.if-ne.false))
          ∙ before
    ]
