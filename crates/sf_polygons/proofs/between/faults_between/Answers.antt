use Rattle.std.proofs.Common.{◌≡◌, ap, sym, ◌∙◌, subst, ◌≤◌, ◌==◌, List, ◌++◌, length}
use Rattle.std.specs.List.{list_all}
use Rattle.sf_pieces.specs.Marked.{HasGroups, Marked}
use Rattle.sf_polygons.specs.Colours.{IsColouring}
use Rattle.sf_polygons.specs.Rings.{pieces_in, polygons_in}
use Rattle.sf_polygons.proofs.BetweenLaws.{IsReady, few-polygon_boxes, few-polygon_pieces, found-between, grouped-polygons, lone, no-faults}
use Rattle.sf_polygons.proofs.MeetLaws.{all-sound}
use Rattle.sf_geometry.specs.Parts.{joined}
use Rattle.sf_polygons.proofs.between.faults_between.Goals as goal
use Rattle.sf_polygons.proofs.between.faults_between.Goals.{After-deref-2, After-found-1}

pub colours_of-requires : goal.colours_of-requires
colours_of-requires c = few-polygon_boxes c.args.polygons.now c.deref.result.now c.requires.few (c.deref.ensures.value ∙ c.in_ok-boxes.ensures)

ready : (c : After-deref-2) → IsReady c.args.polygons.now c.in_ok-colours.colours.items
ready c =
    record {
      few = c.requires.few;
      sound = c.requires.sound;
      colouring = subst (λ boxes. IsColouring boxes c.in_ok-colours.colours.items) (c.deref.ensures.value ∙ c.in_ok-boxes.ensures) c.in_ok-colours.ensures;
    }

-- the pieces are those of the polygons
pieces : (c : After-found-1) → c.push_polygons.new.pieces ≡ pieces_in (polygons_in c.args.polygons.now c.in_ok-colours.colours.items)
pieces c =
    c.in_ok-push_polygons.ensures
    ∙ ap (λ ms. ms ++ pieces_in (polygons_in c.args.polygons.now c.deref-3.result.now)) c.new-pieces.ensures
    ∙ ap (λ colours. pieces_in (polygons_in c.args.polygons.now colours)) c.deref-3.ensures.value

pub returns-then-polygons-lt2 : goal.returns-then-polygons-lt2
returns-then-polygons-lt2 c = lone c.args.polygons.now c.if-polygons-lt2.true c.requires.sound

pub returns-then-are_zero : goal.returns-then-are_zero
returns-then-are_zero c =
    let at = goal.at.returns-then-are_zero c in
    let r = ready at.After-deref-2 in
    no-faults c.args.polygons.now c.in_ok-colours.colours.items (all-sound (joined c.args.polygons.now) r.sound) r.colouring
    (ap (list_all (λ number. number == 0)) (sym c.deref-2.ensures.value) ∙ sym c.are_zero.ensures ∙ c.if-are_zero.true)

pub walk-requires-clause-few : goal.walk-requires-clause-few
walk-requires-clause-few c =
    let at = goal.at.walk-requires-clause-few c in
    subst (λ (ms : List Marked). length ms ≤ 16777215) (sym (pieces c)) (few-polygon_pieces c.args.polygons.now c.in_ok-colours.colours.items (ready at.After-deref-2))

pub walk-requires-clause-groups_in_range : goal.walk-requires-clause-groups_in_range
walk-requires-clause-groups_in_range c =
    let at = goal.at.walk-requires-clause-groups_in_range c in
    subst HasGroups (sym (pieces c)) (grouped-polygons c.args.polygons.now c.in_ok-colours.colours.items (ready at.After-deref-2))

pub returns : goal.returns
returns c =
    let at = goal.at.returns c in
    found-between c.args.polygons.now c.in_ok-colours.colours.items c.push_polygons.new.pieces c.deref-4.result.now c.walk.new.sink
    (ready at.After-deref-2) (pieces at.After-found-1) (c.deref-4.ensures.value ∙ c.in_ok-areal.ensures.items_if_clones_equal (λ y e. e)) c.in_ok-walk.ensures.ok
