use Rattle.std.proofs.Common.{ap, sym, subst, ◌≡◌, ◌∙◌, ◌++◌, ℕ, List, length, ◌^◌, [], map, take}
use Rattle.std.proofs.Math.Seq.{take-append_seam}
use Rattle.sf_strips.specs.Fronts.{pieces_of}
use Rattle.sf_cells.specs.Groups.{counts}
use Rattle.sf_cells.specs.Hands.{AtMost, item, minus, plus}
use Rattle.sf_cells.proofs.HandSteps.{room_none}
use Rattle.sf_cells.proofs.TallyLaws.{HasRoom, added_taken, added_there, length-added, length-counts}
use Rattle.sf_sweep.specs.Parities.{as_count}
use Rattle.sf_sweep.proofs.WindowLaws.{none-enters}
use Rattle.sf_sweep.proofs.repair.hand_bundle.Goals as goal

pub add_edges-requires-clause-counted : goal.add_edges-requires-clause-counted
add_edges-requires-clause-counted g c = ap length (c.deref_mut-2.ensures.value ∙ c.requires.none_on) ∙ length-counts c.args.groups.now []

pub add_edges-requires-clause-room : goal.add_edges-requires-clause-room
add_edges-requires-clause-room g c =
    subst (HasRoom (2 ^ 32) (length c.args.bundle.now)) (sym (c.deref_mut-2.ensures.value ∙ c.requires.none_on)) (room_none (2 ^ 32) (length c.args.bundle.now) c.args.groups.now c.requires.few)

whole : (n : ℕ) (ws xs : List ℕ) → length ws ≡ n → take n (ws ++ xs) ≡ ws
whole n ws xs h = subst (λ m. take m (ws ++ xs) ≡ ws) h (take-append_seam ws xs)

pub take_edges-requires-clause-counted : goal.take_edges-requires-clause-counted
take_edges-requires-clause-counted g c =
    let e = c.deref_mut-3.ensures.value
    ∙ whole c.args.tallies.now.on.len c.add_edges.new.tally _ (c.add_edges.auto.tally ∙ c.deref_mut-2.ensures.len)
    ∙ c.add_edges.ensures
    ∙ ap (λ ns. plus ns (counts c.args.groups.now (pieces_of c.args.bundle.now))) (c.deref_mut-2.ensures.value ∙ c.requires.none_on) in
    ap length e ∙ length-added c.args.groups.now (counts c.args.groups.now []) (pieces_of c.args.bundle.now) (length-counts c.args.groups.now [])

pub take_edges-requires-clause-there : goal.take_edges-requires-clause-there
take_edges-requires-clause-there g c =
    let e = c.deref_mut-3.ensures.value
    ∙ whole c.args.tallies.now.on.len c.add_edges.new.tally _ (c.add_edges.auto.tally ∙ c.deref_mut-2.ensures.len)
    ∙ c.add_edges.ensures
    ∙ ap (λ ns. plus ns (counts c.args.groups.now (pieces_of c.args.bundle.now))) (c.deref_mut-2.ensures.value ∙ c.requires.none_on) in
    subst (AtMost (counts c.args.groups.now (pieces_of c.args.bundle.now))) (sym e)
    (added_there c.args.groups.now (counts c.args.groups.now []) (pieces_of c.args.bundle.now) (length-counts c.args.groups.now []))

pub returns-clause-handed : goal.returns-clause-handed
returns-clause-handed g c =
    let on = c.deref.ensures.value
    ∙ whole c.args.tallies.now.on.len c.add_edges.new.tally _ (c.add_edges.auto.tally ∙ c.deref_mut-2.ensures.len)
    ∙ c.add_edges.ensures
    ∙ ap (λ ns. plus ns (counts c.args.groups.now (pieces_of c.args.bundle.now))) (c.deref_mut-2.ensures.value ∙ c.requires.none_on)
    ∙ none-enters c.args.groups.now (pieces_of c.args.bundle.now) in
    let above = c.deref-2.ensures.value
    ∙ whole c.args.tallies.now.above.len c.put_counts.new.counts _ (c.put_counts.auto.counts ∙ c.deref_mut.ensures.len)
    ∙ c.put_counts.ensures
    ∙ ap (λ ns. map as_count (take (length ns) c.args.odd.now)) c.deref_mut.ensures.value in
    c.cell.ensures
    ∙ ap (λ ns. g.S.CellSink.after (g.S.CellSink.content c.args.sink.now) (item 1 ns c.deref-2.result.now)) on
    ∙ ap (λ ns. g.S.CellSink.after (g.S.CellSink.content c.args.sink.now) (item 1 (counts c.args.groups.now (pieces_of c.args.bundle.now)) ns)) above

pub returns-clause-none_on : goal.returns-clause-none_on
returns-clause-none_on g c =
    let e = c.deref_mut-3.ensures.value
    ∙ whole c.args.tallies.now.on.len c.add_edges.new.tally _ (c.add_edges.auto.tally ∙ c.deref_mut-2.ensures.len)
    ∙ c.add_edges.ensures
    ∙ ap (λ ns. plus ns (counts c.args.groups.now (pieces_of c.args.bundle.now))) (c.deref_mut-2.ensures.value ∙ c.requires.none_on) in
    whole c.args.tallies.now.on.len c.take_edges.new.tally _ (c.take_edges.auto.tally ∙ c.deref_mut-3.ensures.len)
    ∙ c.take_edges.ensures
    ∙ ap (λ ns. minus ns (counts c.args.groups.now (pieces_of c.args.bundle.now))) e
    ∙ added_taken c.args.groups.now (counts c.args.groups.now []) (pieces_of c.args.bundle.now)
