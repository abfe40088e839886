use Rattle.std.proofs.Common.{◌≡◌, ap, sym, ◌∙◌, ◌+◌, ◌++◌, List, ◌∷◌, drop, map}
use Rattle.std.proofs.lemmas.List.{drop_more, map-append}
use Rattle.sf_grid.specs.Plane.{Coordinates}
use Rattle.sf_geometry.specs.Lists.{is_same}
use Rattle.sf_geometry.proofs.ListLaws.{not-false, not-true}
use Rattle.sf_faults.specs.Orders.{written_edges}
use Rattle.sf_faults.specs.Written.{written}
use Rattle.sf_faults.proofs.WrittenLaws.{written-other, written-same, written_from}
use Rattle.sf_faults.proofs.edges.edges_of.Goals as goal
use Rattle.sf_faults.proofs.edges.edges_of.Goals.{then-ne+in_ok-push, else-ne}

pub loop-number-preserved : goal.loop-number-preserved
loop-number-preserved c =
    let others : List Coordinates = c.in-Some.others.now in
    let from : Coordinates = c.loop-number.from in
    let to : Coordinates = c.index-others-number.result in
    let n = c.loop-number.number in
    let rest : List Coordinates = drop (n + 1) others in
    let next : drop n others ≡ to ∷ rest = drop_more others n to c.loop-number-test.true ∙ ap (λ p. p ∷ rest) (sym c.index-others-number.is) in
    let before : map written c.loop-number.edges.items ++ written_from n from (to ∷ rest) ≡ written_edges c.args.points.now =
    ap (λ ps. map written c.loop-number.edges.items ++ written_from n from ps) (sym next) ∙ c.loop-number.invariant in
    elim c.if-ne.branch [
      | then-ne+in_ok-push w ↦
          ap (λ edges. map written edges.items ++ written_from (n + 1) to rest) w.edges-is
          ∙ ap (λ es. map written es ++ written_from (n + 1) to rest) w.in_ok-push.ensures.items
          ∙ ap (λ es. es ++ written_from (n + 1) to rest) (map-append written c.loop-number.edges.items _)
          ∙ written-other (map written c.loop-number.edges.items) n from to rest (not-true (is_same from to) (sym c.ne.ensures ∙ w.if-ne.true))
          ∙ before
      | else-ne w ↦
          ap (λ edges. map written edges.items ++ written_from (n + 1) to rest) w.edges-is
          ∙ written-same (map written c.loop-number.edges.items) n from to rest (not-false (is_same from to) (sym c.ne.ensures ∙ w.if-ne.false))
          ∙ before
    ]
