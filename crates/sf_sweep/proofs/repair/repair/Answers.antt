use Rattle.std.proofs.Common.{sym, ◌<◌, arith, rules, ap, ◌∙◌, length, map, take}
use Rattle.sf_strips.specs.Fronts.{pieces_of}
use Rattle.sf_cells.specs.Groups.{counts}
use Rattle.sf_sweep.specs.Parities.{as_count}
use Rattle.sf_cells.specs.Hands.{item}
use Rattle.sf_sweep.proofs.RepairLaws.{agrees-at, repaired-none, repaired-turn, run-within}
use Rattle.sf_sweep.proofs.repair.repair.Goals as goal

pub loop-first-init : goal.loop-first-init
loop-first-init g c =
    record {
      so_far = repaired-none c.args.areal.now c.args.groups.now c.args.contacts.now c.args.order.now (g.R.Row.bits c.args.above.now) c.args.table.now g.S.CellSink.after (g.S.CellSink.content c.args.sink.now) c.requires.apart;
      grouped = c.requires.grouped;
      few = c.requires.few;
      ready = c.requires.ready;
    }

pub returns-then-is_same-clause-repaired : goal.returns-then-is_same-clause-repaired
returns-then-is_same-clause-repaired g c =
    record {
      done = c.loop-first.invariant.so_far.done;
      left = c.loop-first.rest.now;
      handed = c.loop-first.invariant.so_far.handed;
      agrees = agrees-at c.loop-first.table _ (g.R.Row.bits c.loop-first.odd) c.loop-first.rest.now c.in-Some.first.now (search rules) (search rules) (sym c.at.ensures ∙ c.is_same.ensures.0 c.if-is_same.true) c.loop-first.invariant.so_far.row;
    }

pub split_at-requires : goal.split_at-requires
split_at-requires g c =
    let some : 0 < length c.loop-first.rest.now = search rules in
    omega (arith, run-within c.args.contacts.now c.loop-first.rest.now some, c.bundle_len.ensures)

pub loop-first-preserved : goal.loop-first-preserved
loop-first-preserved g c =
    record {
      so_far = repaired-turn c.args.areal.now c.args.groups.now c.args.contacts.now c.args.order.now (g.R.Row.bits c.args.above.now) c.args.table.now c.loop-first.table c.store-odd.new.table
          g.S.CellSink.after (g.S.CellSink.content c.args.sink.now) (g.S.CellSink.content c.loop-first.sink) (g.S.CellSink.content c.hand_bundle.new.sink) (g.S.CellSink.content c.hand_gap.new.sink)
          (g.R.Row.bits c.loop-first.odd) (g.R.Row.bits c.store-odd.result) c.loop-first.rest.now c.split_at.result.0.now c.split_at.result.1.now c.bundle_len.result
          (length c.loop-first.tallies.above.items) (length c.hand_bundle.new.tallies.above.items) (search rules) c.requires.grouped c.loop-first.invariant.ready.counted
          (c.hand_bundle.ensures.counted ∙ c.loop-first.invariant.ready.counted) c.bundle_len.ensures c.split_at.ensures.front c.split_at.ensures.back
          (c.hand_bundle.ensures.handed ∙ ap (λ bits. g.S.CellSink.after (g.S.CellSink.content c.loop-first.sink) (item 1 (counts c.args.groups.now (pieces_of c.split_at.result.0.now)) (map as_count (take (length c.loop-first.tallies.above.items) bits)))) c.as_slice.ensures.bits)
          (c.hand_gap.ensures.handed ∙ ap (λ bits. g.S.CellSink.after (g.S.CellSink.content c.hand_bundle.new.sink) (item 2 c.hand_bundle.new.tallies.on.items (map as_count (take (length c.hand_bundle.new.tallies.above.items) bits)))) c.as_slice-in-Some.ensures.bits ∙ ap (λ ns. g.S.CellSink.after (g.S.CellSink.content c.hand_bundle.new.sink) (item 2 ns (map as_count (take (length c.hand_bundle.new.tallies.above.items) (g.R.Row.bits c.store-odd.result))))) c.hand_bundle.ensures.none_on) c.store-odd.ensures.table c.store-odd.ensures.below c.loop-first.invariant.so_far;
      grouped = search rules;
      few = omega (arith, c.loop-first.invariant.few, ap length c.split_at.ensures.back);
      ready = record {
        wide = c.requires.ready.wide;
        few_groups = c.requires.ready.few_groups;
        few_counts = c.requires.ready.few_counts;
        odd = c.store-odd.ensures.len ∙ c.loop-first.invariant.ready.odd;
        none_on = ap (λ t. t.items) c.hand_gap.ensures.on ∙ c.hand_bundle.ensures.none_on;
        counted = c.hand_gap.ensures.counted ∙ c.hand_bundle.ensures.counted ∙ c.loop-first.invariant.ready.counted;
      };
    }
