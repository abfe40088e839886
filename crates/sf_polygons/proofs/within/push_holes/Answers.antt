use Rattle.std.proofs.Common.{ap, ◌∙◌, ◌+◌, ◌++◌}
use Rattle.std.proofs.lemmas.Slice.Zip.{zip_turn}
use Rattle.sf_polygons.specs.Rings.{edges_in}
use Rattle.sf_polygons.proofs.PushLaws.{holes-more}
use Rattle.sf_polygons.proofs.within.push_holes.Goals as goal

pub loop-hole-preserved : goal.loop-hole-preserved
loop-hole-preserved c =
    let turn =
    zip_turn c.args.holes.now c.args.colours.now c.loop-hole.yielded c.into_iter-hole-iterator.result c.loop-hole.hole-iterator c.next.new.self c.next.result (cc) (cc)
    c.loop-hole.yielded_by (c.in-Some.hole, c.in-Some.colour) c.in-Some.is c.next.ensures.steps in
    holes-more c.args.pieces.now c.loop-hole.pieces c.push_edges.new.self c.args.holes.now c.args.colours.now c.loop-hole.yielded (c.in-Some.hole, c.in-Some.colour) c.in-Some.hole.now c.in-Some.colour.now
    turn.0 turn.1 (turn.2 c.in-Some.hole.now) (turn.3 c.in-Some.colour.now) c.loop-hole.invariant
    (c.in_ok-push_edges.ensures ∙ ap (λ ps. c.loop-hole.pieces ++ edges_in (c.in-Some.colour.now + 1) ps) c.as_slice.ensures)
