use Rattle.std.proofs.Common.{[], ap, arith, length, subst, sym, ◌^◌, ◌∙◌}
use Rattle.sf_strips.specs.Fronts.{pieces_of}
use Rattle.sf_cells.proofs.HandSteps.{room_none}
use Rattle.sf_cells.proofs.TallyLaws.{HasRoom, counts-append, length-counts}
use Rattle.sf_cells.specs.Groups.{counts}
use Rattle.sf_cells.specs.Hands.{plus}
use Rattle.sf_cells.proofs.column.hand_out.Goals as goal

pub hand_parts-requires-clause-counted_above : goal.hand_parts-requires-clause-counted_above
hand_parts-requires-clause-counted_above g c = ap length c.requires.none_above ∙ length-counts c.args.groups.now []

pub hand_parts-requires-clause-room_above : goal.hand_parts-requires-clause-room_above
hand_parts-requires-clause-room_above g c =
    let onward = c.args.column.now.onward.now in
    subst (λ ns. HasRoom (2 ^ 32) (length onward) ns) (sym c.requires.none_above)
    (room_none (2 ^ 32) (length onward) c.args.groups.now (omega (arith, c.requires.few)))

pub clear_edges-requires-clause-counted : goal.clear_edges-requires-clause-counted
clear_edges-requires-clause-counted g c =
    let onward = pieces_of c.args.column.now.onward.now in
    c.hand_parts.ensures.above
    ∙ ap (λ ns. plus ns (counts c.args.groups.now onward)) c.requires.none_above
    ∙ sym (counts-append c.args.groups.now [] onward)
