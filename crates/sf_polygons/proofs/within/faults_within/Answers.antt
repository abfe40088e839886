use Rattle.std.proofs.Common.{◌≡◌, refl, ap, sym, ◌∙◌, subst, ◌<◌, ◌≤◌, ◌+◌, ◌^◌, ℕ, List, ◌++◌, length}
use Rattle.std.specs.List.{All}
use Rattle.sf_pieces.specs.Marked.{HasGroups, Marked}
use Rattle.sf_polygons.specs.Colours.{IsColouring}
use Rattle.sf_polygons.specs.Rings.{edges_in, holes_in, pieces_in}
use Rattle.sf_polygons.proofs.SizeLaws.{rings_in}
use Rattle.sf_polygons.proofs.WithinLaws.{IsReady, few-hole_boxes, few-ring_pieces, found-within, grouped-rings, small-colours}
use Rattle.sf_polygons.proofs.within.faults_within.Goals as goal
use Rattle.sf_polygons.proofs.within.faults_within.Goals.{After-deref-2, After-found-1}

pub colours_of-requires : goal.colours_of-requires
colours_of-requires c =
    few-hole_boxes c.args.rings.now c.in-Some.shell.now c.in-Some.holes.now c.deref.result.now c.in-Some.ensures.cases.0 c.requires.few (c.deref.ensures.value ∙ c.in_ok-boxes.ensures)

ready : (c : After-deref-2) → IsReady c.args.rings.now c.in-Some.shell.now c.in-Some.holes.now c.in_ok-colours.colours.items
ready c =
    record {
      split = c.in-Some.ensures.cases.0;
      few = c.requires.few;
      sound = c.requires.sound;
      colouring = subst (λ boxes. IsColouring boxes c.in_ok-colours.colours.items) (c.deref.ensures.value ∙ c.in_ok-boxes.ensures) c.in_ok-colours.ensures;
    }

-- the pieces are those of the shell and the holes
pieces : (c : After-found-1) → c.push_holes.new.pieces ≡ pieces_in (rings_in c.in-Some.shell.now c.in-Some.holes.now c.in_ok-colours.colours.items)
pieces c =
    c.in_ok-push_holes.ensures
    ∙ ap (λ ms. ms ++ pieces_in (holes_in c.in-Some.holes.now c.deref-2.result.now))
    (c.in_ok-push_edges.ensures ∙ ap (λ ms. ms ++ edges_in 0 c.as_slice.result.now) c.new-pieces.ensures ∙ ap (edges_in 0) c.as_slice.ensures)
    ∙ ap (λ colours. edges_in 0 c.in-Some.shell.now ++ pieces_in (holes_in c.in-Some.holes.now colours)) c.deref-2.ensures.value

pub push_holes-requires-clause-small : goal.push_holes-requires-clause-small
push_holes-requires-clause-small c =
    let P : List ℕ → Type 0 = All (λ colour. colour + 1 < 2 ^ 32) in
    subst P (sym c.deref-2.ensures.value) (small-colours c.args.rings.now c.in-Some.shell.now c.in-Some.holes.now c.in_ok-colours.colours.items (ready c))

pub walk-requires-clause-few : goal.walk-requires-clause-few
walk-requires-clause-few c =
    let at = goal.at.walk-requires-clause-few c in
    subst (λ (ms : List Marked). length ms ≤ 16777215) (sym (pieces c)) (few-ring_pieces c.args.rings.now c.in-Some.shell.now c.in-Some.holes.now c.in_ok-colours.colours.items (ready at.After-deref-2))

pub walk-requires-clause-groups_in_range : goal.walk-requires-clause-groups_in_range
walk-requires-clause-groups_in_range c =
    let at = goal.at.walk-requires-clause-groups_in_range c in
    subst HasGroups (sym (pieces c)) (grouped-rings c.args.rings.now c.in-Some.shell.now c.in-Some.holes.now c.in_ok-colours.colours.items (ready at.After-deref-2))

pub returns : goal.returns
returns c =
    let at = goal.at.returns c in
    found-within c.args.rings.now c.in-Some.shell.now c.in-Some.holes.now c.in_ok-colours.colours.items c.push_holes.new.pieces c.deref-3.result.now (length c.args.rings.now) c.walk.new.sink
    (ready at.After-deref-2) (pieces at.After-found-1) (c.deref-3.ensures.value ∙ c.in_ok-areal.ensures.items_if_clones_equal (λ y e. e)) refl c.in_ok-walk.ensures.ok
