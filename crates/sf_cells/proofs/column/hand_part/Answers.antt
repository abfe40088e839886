use Rattle.std.proofs.Common.{ap, length, subst, sym, ◌∙◌}
use Rattle.std.proofs.lemmas.List.{with_items_is}
use Rattle.sf_strips.specs.Fronts.{pieces_of}
use Rattle.sf_cells.proofs.TallyLaws.{added_taken, added_there, length-added}
use Rattle.sf_cells.specs.Groups.{counts}
use Rattle.sf_cells.specs.Hands.{AtMost, minus}
use Rattle.sf_cells.proofs.column.hand_part.Goals as goal

pub take_edges-requires-clause-counted : goal.take_edges-requires-clause-counted
take_edges-requires-clause-counted g c =
    ap length (c.deref_mut.ensures.value ∙ c.hand_parts.ensures.above)
    ∙ length-added c.args.groups.now c.args.tallies.now.above.items (pieces_of c.args.column.now.onward.now) c.requires.counted_above

pub take_edges-requires-clause-there : goal.take_edges-requires-clause-there
take_edges-requires-clause-there g c =
    subst (AtMost (counts c.args.groups.now (pieces_of c.args.column.now.onward.now))) (sym (c.deref_mut.ensures.value ∙ c.hand_parts.ensures.above))
    (added_there c.args.groups.now c.args.tallies.now.above.items (pieces_of c.args.column.now.onward.now) c.requires.counted_above)

pub returns-clause-above : goal.returns-clause-above
returns-clause-above g c =
    with_items_is c.hand_parts.new.tallies.above c.take_edges.new.tally (c.take_edges.auto.tally ∙ c.deref_mut.ensures.len)
    ∙ c.take_edges.ensures
    ∙ ap (λ ns. minus ns (counts c.args.groups.now (pieces_of c.args.column.now.onward.now))) (c.deref_mut.ensures.value ∙ c.hand_parts.ensures.above)
    ∙ added_taken c.args.groups.now c.args.tallies.now.above.items (pieces_of c.args.column.now.onward.now)
