use Rattle.std.proofs.Common.{ap, sym, subst, ◌∙◌, arith, rules, ◌<◌, length, take}
use Rattle.std.specs.List.{All}
use Rattle.std.proofs.lemmas.List.{with_items_is}
use Rattle.sf_sweep.proofs.CutLaws.{parities-few}
use Rattle.sf_sweep.proofs.GoingLaws.{onward-below, onward-few}
use Rattle.sf_sweep.proofs.class_sweep.ClassSweep.cut.Goals as goal

pub hand_window-requires-clause-few_above : goal.hand_window-requires-clause-few_above
hand_window-requires-clause-few_above g c =
    parities-few _ (take (length c.deref_mut.result.now) c.as_slice-2.result.now)
    (with_items_is c.args.self.now.tallies.above c.put_counts.new.counts (c.put_counts.auto.counts ∙ c.deref_mut.ensures.len) ∙ c.put_counts.ensures)

pub exchange-requires-clause-room : goal.exchange-requires-clause-room
exchange-requires-clause-room g c =
    let h = c.hand_window.ensures.handed in
    let few = onward-few c.split_at-2.result.1.now c.args.here.now c.hand_window.new.bench.order.items h.levels h.cut.onward in
    omega (arith, few, ap length c.as_slice-went.ensures.value, c.requires.places.order, c.requires.in_turn, c.requires.within, c.split_at-2.ensures.back_len, c.split_at.ensures.front_len)

pub exchange-requires-clause-went : goal.exchange-requires-clause-went
exchange-requires-clause-went g c =
    let h = c.hand_window.ensures.handed in
    let came : All (λ e. e.piece < length c.args.groups.now) c.split_at-2.result.1.now = search rules in
    subst (λ n. All (λ e. e.piece < n) c.as_slice-went.result.now) (sym c.requires.places.meetings)
    (subst (All (λ e. e.piece < length c.args.groups.now)) (sym c.as_slice-went.ensures.value)
    (onward-below (length c.args.groups.now) c.split_at-2.result.1.now c.args.here.now c.hand_window.new.bench.order.items h.levels came c.requires.here h.cut.onward))

pub store-requires-clause-grouped : goal.store-requires-clause-grouped
store-requires-clause-grouped g c =
    let h = c.hand_window.ensures.handed in
    let came : All (λ e. e.piece < length c.args.groups.now) c.split_at-2.result.1.now = search rules in
    subst (All (λ e. e.piece < length c.args.groups.now)) (sym c.as_slice-went.ensures.value)
    (onward-below (length c.args.groups.now) c.split_at-2.result.1.now c.args.here.now c.hand_window.new.bench.order.items h.levels came c.requires.here h.cut.onward)

pub returns-clause-places : goal.returns-clause-places
returns-clause-places g c =
    record {
      meetings = c.exchange.ensures.len;
      order = c.exchange.ensures.room;
      below = c.exchange.ensures.tail_room;
      bench = λ levels edges room.
          c.hand_window.ensures.room levels edges
          (record {
            cut = room.cut;
            order = room.order;
            contacts = omega (arith, c.gather.ensures.room, room.contacts);
          });
    }
