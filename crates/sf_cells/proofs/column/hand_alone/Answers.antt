use Rattle.std.proofs.Common.{ap, sym, ◌∙◌, subst, arith, ◌^◌, ◌≡◌, ◌<◌, ◌+◌, slice_index, length, take, List, ℕ, ◌∷◌, [], ◌++◌}
use Rattle.std.proofs.lemmas.List.{length-append, with_items_is}
use Rattle.std.proofs.lemmas.List.Elements.{All-get_or}
use Rattle.std.specs.Vec.{with_items}
use Rattle.std.proofs.lemmas.Slice.Zip.{zip_end, zip_turn}
use Rattle.sf_strips.specs.declared.active.Active.{Active}
use Rattle.sf_strips.specs.Fronts.{pieces_of}
use Rattle.sf_cells.specs.Groups.{counts, group_count}
use Rattle.sf_cells.specs.Hands.{minus, plus}
use Rattle.sf_strips.specs.Strips.{is_column}
use Rattle.sf_cells.proofs.TallyLaws.{HasRoom, length-added, one_more, room_fewer}
use Rattle.sf_cells.proofs.TallySteps.{length-pieces_of, next_has_room}
use Rattle.sf_cells.proofs.AloneSteps.{AreNext, WasAlone, same_item, Alone-start, Alone-step, alone-above, alone-handed}
use Rattle.sf_cells.proofs.column.hand_alone.Given.{Over}
use Rattle.sf_cells.proofs.column.hand_alone.Goals as goal
use Rattle.sf_cells.proofs.column.hand_alone.Goals.{In-Some, After-deref_mut-in-loop-edge}

-- the edges of this turn
next_pair : (g : Over) (c : In-Some g) → AreNext c.args.edges.now c.args.onward.now (length c.loop-edge.yielded) c.in-Some.edge.now c.in-Some.next.now
next_pair g c =
    let turn = zip_turn c.args.edges.now c.args.onward.now c.loop-edge.yielded c.into_iter-edge-iterator.result c.loop-edge.edge-iterator c.next.new.self c.next.result
    (cc) (cc) c.loop-edge.yielded_by (c.in-Some.edge, c.in-Some.next) c.in-Some.is c.next.ensures.steps in
    record { below = turn.0; onward_below = turn.1; edge = turn.2 c.in-Some.edge.now; onward = turn.3 c.in-Some.next.now }

-- what is on the edge's level
entered : (g : Over) (c : After-deref_mut-in-loop-edge g) →
    c.add_piece.new.tally ≡ plus c.loop-edge.tallies.on.items (counts c.args.groups.now (c.in-Some.edge.now.piece ∷ []))
entered g c = c.add_piece.ensures ∙ ap (λ t. plus t (counts c.args.groups.now (c.in-Some.edge.now.piece ∷ []))) c.deref_mut.ensures.value

-- the tally is put back
stored : (g : Over) (c : After-deref_mut-in-loop-edge g) →
    (with_items c.loop-edge.tallies.on c.add_piece.new.tally).items ≡ c.add_piece.new.tally
stored g c = with_items_is c.loop-edge.tallies.on c.add_piece.new.tally (c.add_piece.auto.tally ∙ c.deref_mut.ensures.len)

-- there is a count for each group
counted : (g : Over) (c : After-deref_mut-in-loop-edge g) → length c.loop-edge.tallies.on.items ≡ group_count c.args.groups.now
counted g c = ap length c.loop-edge.invariant.unchanged ∙ c.requires.counted_on

pub loop-edge-init : goal.loop-edge-init
loop-edge-init g c =
    Alone-start g.S.CellSink.after c.args.groups.now (is_column c.args.strip.now) c.args.edges.now c.args.onward.now (g.S.CellSink.content c.args.sink.now)
    c.args.tallies.now.on.items c.args.tallies.now.above.items

pub add_piece-requires-clause-counted : goal.add_piece-requires-clause-counted
add_piece-requires-clause-counted g c =
    ap length (c.deref_mut.ensures.value ∙ c.loop-edge.invariant.unchanged) ∙ c.requires.counted_on

pub add_piece-requires-clause-room : goal.add_piece-requires-clause-room
add_piece-requires-clause-room g c =
    let next = next_pair g (goal.at.add_piece-requires-clause-room g c).In-Some in
    let P : List ℕ → Type 0 = HasRoom (2 ^ 32) 1 in
    subst P (sym (c.deref_mut.ensures.value ∙ c.loop-edge.invariant.unchanged))
    (room_fewer (2 ^ 32) (length c.args.edges.now) 1 c.args.tallies.now.on.items (omega (arith, next.below)) c.requires.room_on)

pub put_back-requires-clause-counted : goal.put_back-requires-clause-counted
put_back-requires-clause-counted g c =
    ap length (c.deref_mut-in-loop-edge.ensures.value ∙ stored g c ∙ entered g c)
    ∙ length-added c.args.groups.now c.loop-edge.tallies.on.items (c.in-Some.edge.now.piece ∷ []) (counted g c)

pub count_of-count-requires-clause-counted : goal.count_of-count-requires-clause-counted
count_of-count-requires-clause-counted g c =
    ap length (c.deref-in-loop-edge-2.ensures.value ∙ c.loop-edge.invariant.unchanged) ∙ c.requires.counted_on

pub put_back-requires-clause-left : goal.put_back-requires-clause-left
put_back-requires-clause-left g c =
    let groups = c.args.groups.now in
    let piece = c.in-Some.edge.now.piece in
    let group = slice_index groups piece in
    let next = next_pair g (goal.at.put_back-requires-clause-left g c).In-Some in
    let Below : Active → Type 0 = λ e. e.piece < length groups in
    let below : piece < length groups =
    subst Below (sym next.edge) (All-get_or Below c.args.edges.now (length c.loop-edge.yielded) c.in-Some.edge.now next.below c.requires.edges) in
    ap (λ t. slice_index t group) (c.deref_mut-in-loop-edge.ensures.value ∙ stored g c ∙ entered g c)
    ∙ one_more groups c.loop-edge.tallies.on.items piece (counted g c) below
    ∙ ap (λ n. n + 1) (sym (c.count_of-count.ensures ∙ ap (λ t. slice_index t group) c.deref-in-loop-edge-2.ensures.value))

pub add_piece-requires-in-loop-edge-clause-counted :
    goal.add_piece-requires-in-loop-edge-clause-counted
add_piece-requires-in-loop-edge-clause-counted g c =
    ap length (c.deref_mut-in-loop-edge-2.ensures.value ∙ c.loop-edge.invariant.grown)
    ∙ length-added c.args.groups.now c.args.tallies.now.above.items (pieces_of (take (length c.loop-edge.yielded) c.args.onward.now)) c.requires.counted_above

pub add_piece-requires-in-loop-edge-clause-room : goal.add_piece-requires-in-loop-edge-clause-room
add_piece-requires-in-loop-edge-clause-room g c =
    let next = next_pair g (goal.at.add_piece-requires-in-loop-edge-clause-room g c).In-Some in
    let os = c.args.onward.now in
    let i = length c.loop-edge.yielded in
    next_has_room (2 ^ 32) (length os) c.args.groups.now c.args.tallies.now.above.items c.deref_mut-in-loop-edge-2.result.now (pieces_of (take i os))
    (c.deref_mut-in-loop-edge-2.ensures.value ∙ c.loop-edge.invariant.grown) (omega (arith, length-pieces_of os i, next.onward_below)) c.requires.room_above

pub loop-edge-preserved : goal.loop-edge-preserved
loop-edge-preserved g c =
    let here = (goal.at.loop-edge-preserved g c).After-deref_mut-in-loop-edge in
    let after = g.S.CellSink.after in
    let content = g.S.CellSink.content in
    let groups = c.args.groups.now in
    let i = length c.loop-edge.yielded in
    let on = c.loop-edge.tallies.on.items in
    let above = c.loop-edge.tallies.above.items in
    let was : WasAlone after groups (is_column c.args.strip.now) c.in-Some.edge.now c.in-Some.next.now (content c.loop-edge.sink) on above
    (content c.cell-in-loop-edge.new.self) (with_items (with_items c.loop-edge.tallies.on c.add_piece.new.tally) c.put_back.new.tally).items
    (with_items c.loop-edge.tallies.above c.add_piece-in-loop-edge.new.tally).items =
    record {
      between = content c.cell.new.self;
      entered = c.add_piece.new.tally;
      gap = c.cell.ensures ∙ ap (after (content c.loop-edge.sink))
          (same_item _ _ _ _ _ _ c.gap_dimension-gap.ensures c.deref.ensures.value c.deref-in-loop-edge.ensures.value);
      enters = entered g here;
      level = c.cell-in-loop-edge.ensures ∙ ap (after (content c.cell.new.self))
          (same_item _ _ _ _ _ _ c.level_dimension-level.ensures (c.deref-in-loop-edge-3.ensures.value ∙ stored g here) c.deref-in-loop-edge-4.ensures.value);
      leaves = with_items_is (with_items c.loop-edge.tallies.on c.add_piece.new.tally) c.put_back.new.tally (c.put_back.auto.tally ∙ c.deref_mut-in-loop-edge.ensures.len)
          ∙ c.put_back.ensures ∙ ap (λ t. minus t (counts groups (c.in-Some.edge.now.piece ∷ []))) (c.deref_mut-in-loop-edge.ensures.value ∙ stored g here);
      goes_on = with_items_is c.loop-edge.tallies.above c.add_piece-in-loop-edge.new.tally (c.add_piece-in-loop-edge.auto.tally ∙ c.deref_mut-in-loop-edge-2.ensures.len)
          ∙ c.add_piece-in-loop-edge.ensures ∙ ap (λ t. plus t (counts groups (c.in-Some.next.now.piece ∷ []))) c.deref_mut-in-loop-edge-2.ensures.value;
    } in
    Alone-step i (length (c.loop-edge.yielded ++ (c.in-Some.edge, c.in-Some.next) ∷ [])) (length-append c.loop-edge.yielded ((c.in-Some.edge, c.in-Some.next) ∷ []))
    (next_pair g (goal.at.loop-edge-preserved g c).In-Some) was c.loop-edge.invariant

pub returns-clause-handed : goal.returns-clause-handed
returns-clause-handed g c =
    let end = zip_end c.args.edges.now c.args.onward.now c.loop-edge.yielded c.into_iter-edge-iterator.result c.loop-edge.edge-iterator c.next.new.self c.next.result
    (cc) (cc) c.loop-edge.yielded_by c.in-None.is c.next.ensures.steps in
    alone-handed (length c.loop-edge.yielded) (omega (arith, end, c.requires.pairs)) c.requires.pairs c.loop-edge.invariant

pub returns-clause-on : goal.returns-clause-on
returns-clause-on g c = c.loop-edge.invariant.unchanged

pub returns-clause-above : goal.returns-clause-above
returns-clause-above g c =
    let end = zip_end c.args.edges.now c.args.onward.now c.loop-edge.yielded c.into_iter-edge-iterator.result c.loop-edge.edge-iterator c.next.new.self c.next.result
    (cc) (cc) c.loop-edge.yielded_by c.in-None.is c.next.ensures.steps in
    alone-above (length c.loop-edge.yielded) (omega (arith, end, c.requires.pairs)) c.requires.pairs c.loop-edge.invariant
