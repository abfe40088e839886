use Rattle.std.proofs.Common.{◌≡◌, refl, ap, sym, ◌∙◌, ◌+◌, ◌++◌, List, [], ◌∷◌, drop, map}
use Rattle.std.proofs.lemmas.List.{append-nil, drop_all, drop_more, map-append}
use Rattle.sf_grid.specs.Plane.{Coordinates}
use Rattle.sf_geometry.specs.Lists.{edges_of as edges_of_list, is_same}
use Rattle.sf_geometry.specs.Parts.{edge_of}
use Rattle.sf_geometry.proofs.ListLaws.{edges-other, edges-same, not-false, not-true}
use Rattle.sf_geometry.proofs.edges.push_edges.Goals as goal
use Rattle.sf_geometry.proofs.edges.push_edges.Goals.{then-ne+in_ok-push, else-ne}

pub loop-to-init : goal.loop-to-init
loop-to-init c = refl

pub loop-to-preserved : goal.loop-to-preserved
loop-to-preserved c =
    let others : List Coordinates = c.in-Some.others.now in
    let from : Coordinates = c.loop-to.from in
    let to : Coordinates = c.to-item.result in
    let rest : List Coordinates = drop (c.loop-to.to-index + 1) others in
    let next : drop c.loop-to.to-index others ≡ to ∷ rest =
    drop_more others c.loop-to.to-index to c.loop-to-test.true ∙ ap (λ p. p ∷ rest) (sym c.to-item.is) in
    let before : map edge_of c.loop-to.found.items ++ edges_of_list (from ∷ to ∷ rest) ≡ map edge_of c.args.found.now.items ++ edges_of_list (c.in-Some.first.now ∷ others) =
    ap (λ ps. map edge_of c.loop-to.found.items ++ edges_of_list (from ∷ ps)) (sym next) ∙ c.loop-to.invariant in
    elim c.if-ne.branch [
      | then-ne+in_ok-push w ↦
          ap (λ found. map edge_of found.items ++ edges_of_list (to ∷ rest)) w.found-is
          ∙ ap (λ pairs. map edge_of pairs ++ edges_of_list (to ∷ rest)) w.in_ok-push.ensures.items
          ∙ ap (λ es. es ++ edges_of_list (to ∷ rest)) (map-append edge_of c.loop-to.found.items ((from, to) ∷ []))
          ∙ edges-other (map edge_of c.loop-to.found.items) from to rest (not-true (is_same from to) (sym c.ne.ensures ∙ w.if-ne.true))
          ∙ before
      | else-ne w ↦
          ap (λ found. map edge_of found.items ++ edges_of_list (to ∷ rest)) w.found-is
          ∙ edges-same (map edge_of c.loop-to.found.items) from to rest (not-false (is_same from to) (sym c.ne.ensures ∙ w.if-ne.false))
          ∙ before
    ]

pub returns : goal.returns
returns c =
    sym (append-nil (map edge_of c.loop-to.found.items))
    ∙ ap (λ ps. map edge_of c.loop-to.found.items ++ edges_of_list (c.loop-to.from ∷ ps)) (sym (drop_all c.loop-to.to-index c.in-Some.others.now c.loop-to-test.false))
    ∙ c.loop-to.invariant
    ∙ ap (λ ps. map edge_of c.args.found.now.items ++ edges_of_list ps) (sym c.in-Some.ensures.cases.0)
