use Rattle.std.proofs.Common.{ap, ◌∙◌, ◌++◌}
use Rattle.std.proofs.lemmas.Slice.Zip.{zip_turn}
use Rattle.sf_polygons.specs.Rings.{grouped, pieces_in}
use Rattle.sf_polygons.proofs.PushLaws.{polygons-more}
use Rattle.sf_polygons.proofs.between.push_polygons.Goals as goal

pub loop-rings-preserved : goal.loop-rings-preserved
loop-rings-preserved c =
    let turn =
    zip_turn c.args.polygons.now c.args.colours.now c.loop-rings.yielded c.into_iter-rings-iterator.result c.loop-rings.rings-iterator c.next.new.self c.next.result (cc) (cc)
    c.loop-rings.yielded_by (c.in-Some.rings, c.in-Some.colour) c.in-Some.is c.next.ensures.steps in
    polygons-more c.args.pieces.now c.loop-rings.pieces c.push_rings.new.pieces c.args.polygons.now c.args.colours.now c.loop-rings.yielded (c.in-Some.rings, c.in-Some.colour) c.in-Some.rings.now c.in-Some.colour.now
    turn.0 turn.1 (turn.2 c.in-Some.rings.now) (turn.3 c.in-Some.colour.now) c.loop-rings.invariant
    (c.in_ok-push_rings.ensures ∙ ap (λ rs. c.loop-rings.pieces ++ pieces_in (grouped c.in-Some.colour.now rs)) c.as_slice.ensures)
