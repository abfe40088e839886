use Rattle.std.proofs.Common.{◌≡◌, ap, sym, subst, ◌∙◌, arith, ◌+◌, ◌≤◌, ◌++◌, [], length, map, take, drop, vec_capacity, vec_len}
use Rattle.std.specs.List.Sorted.{IsPartitionedBy}
use Rattle.sf_strips.specs.Fronts.{AreApart, pieces_of}
use Rattle.sf_strips.specs.Vertices.{begins, pieces_with}
use Rattle.sf_cells.specs.Groups.{counts, group_count}
use Rattle.sf_sweep.specs.declared.front.Front.{Front}
use Rattle.sf_sweep.specs.Cuts.{HasBenchRoom, IsBalancedWindow, WasWindowHanded}
use Rattle.sf_sweep.specs.Parities.{AreParities, as_count, parities, stored}
use Rattle.sf_sweep.specs.Settled.{WereSettled, forgotten}
use Rattle.sf_sweep.specs.Sides.{is_below_edge, is_not_above}
use Rattle.sf_sweep.specs.Tables.{contacts_of}
use Rattle.sf_sweep.proofs.ReachLaws.{falls-above, falls-below, reach-by}
use Rattle.sf_sweep.proofs.ReadyLaws.{places-both, places-passed}
use Rattle.sf_sweep.proofs.StepLaws.{step-apart, step-balanced, step-behind, step-here, step-stored, step-window}
use Rattle.sf_sweep.proofs.class_sweep.ClassSweep.advance.Goals as goal

pub above_len-requires : goal.above_len-requires
above_len-requires g c =
    let q = c.args.self.now in
    let back : c.split_at.result.1.now ≡ drop c.args.from q.front.order.items = c.split_at.ensures.back ∙ ap (drop c.args.from) c.as_slice.ensures.value in
    record {
      falling = subst (IsPartitionedBy (is_below_edge c.args.window.now.top)) (sym back)
          (falls-above c.args.x.now c.args.groups.now c.args.areal.now q.front.order.items q.front.meetings q.odd c.args.from c.args.here.now c.args.window.now c.requires.at);
    }

pub reached_len-requires : goal.reached_len-requires
reached_len-requires g c =
    let q = c.args.self.now in
    let back : c.split_at.result.1.now ≡ drop c.args.from q.front.order.items = c.split_at.ensures.back ∙ ap (drop c.args.from) c.as_slice.ensures.value in
    let lower : c.split_at-2.result.1.now ≡ drop (c.args.from + c.above_len.result) q.front.order.items =
    c.split_at-2.ensures.back ∙ ap (drop (c.args.from + c.above_len.result)) c.as_slice-2.ensures.value in
    record {
      falling = subst (IsPartitionedBy (is_not_above c.args.window.now.bottom)) (sym lower)
          (falls-below c.args.x.now c.args.groups.now c.args.areal.now q.front.order.items q.front.meetings q.odd c.args.from c.above_len.result c.args.here.now c.args.window.now c.requires.at
          (omega (arith, c.above_len.ensures.bound, ap length back)));
    }

pub pass-requires-clause-apart : goal.pass-requires-clause-apart
pass-requires-clause-apart g c =
    let q = c.args.self.now in
    let lo = c.args.from + c.above_len.result in
    let hi = lo + c.reached_len.result in
    let s = c.requires.at in
    let r =
    reach-by c.args.x.now c.args.groups.now c.args.areal.now q.front.order.items q.front.meetings q.odd c.args.from c.above_len.result c.reached_len.result c.args.here.now c.args.window.now s
    c.split_at.result.1.now c.split_at-2.result.1.now (c.split_at.ensures.back ∙ ap (drop c.args.from) c.as_slice.ensures.value)
    (c.split_at-2.ensures.back ∙ ap (drop (c.args.from + c.above_len.result)) c.as_slice-2.ensures.value) c.above_len.ensures.bound c.above_len.ensures.parted c.reached_len.ensures.bound
    c.reached_len.ensures.parted in
    step-apart c.args.x.now c.args.groups.now c.args.areal.now q.front.order.items q.front.meetings q.odd c.args.from lo hi c.args.here.now c.args.window.now s r

pub cut-requires-clause-here : goal.cut-requires-clause-here
cut-requires-clause-here g c =
    let q = c.args.self.now in
    let lo = c.args.from + c.above_len.result in
    let hi = lo + c.reached_len.result in
    let s = c.requires.at in
    let r =
    reach-by c.args.x.now c.args.groups.now c.args.areal.now q.front.order.items q.front.meetings q.odd c.args.from c.above_len.result c.reached_len.result c.args.here.now c.args.window.now s
    c.split_at.result.1.now c.split_at-2.result.1.now (c.split_at.ensures.back ∙ ap (drop c.args.from) c.as_slice.ensures.value)
    (c.split_at-2.ensures.back ∙ ap (drop (c.args.from + c.above_len.result)) c.as_slice-2.ensures.value) c.above_len.ensures.bound c.above_len.ensures.parted c.reached_len.ensures.bound
    c.reached_len.ensures.parted in
    step-here c.args.x.now c.args.groups.now c.args.areal.now q.front.order.items q.front.meetings q.odd c.args.from lo hi c.args.here.now c.args.window.now s r

pub cut-requires-clause-apart : goal.cut-requires-clause-apart
cut-requires-clause-apart g c =
    let q = c.args.self.now in
    let lo = c.args.from + c.above_len.result in
    let hi = lo + c.reached_len.result in
    let s = c.requires.at in
    let r =
    reach-by c.args.x.now c.args.groups.now c.args.areal.now q.front.order.items q.front.meetings q.odd c.args.from c.above_len.result c.reached_len.result c.args.here.now c.args.window.now s
    c.split_at.result.1.now c.split_at-2.result.1.now (c.split_at.ensures.back ∙ ap (drop c.args.from) c.as_slice.ensures.value)
    (c.split_at-2.ensures.back ∙ ap (drop (c.args.from + c.above_len.result)) c.as_slice-2.ensures.value) c.above_len.ensures.bound c.above_len.ensures.parted c.reached_len.ensures.bound
    c.reached_len.ensures.parted in
    subst (λ (f : Front). AreApart c.args.x.now (drop lo (take hi f.order.items)) (contacts_of f.meetings (drop lo (take hi f.order.items)))) (sym c.pass.ensures.front)
    (step-window c.args.x.now c.args.groups.now c.args.areal.now q.front.order.items q.front.meetings q.odd c.args.from lo hi c.args.here.now c.args.window.now s r)

pub cut-requires-clause-balanced : goal.cut-requires-clause-balanced
cut-requires-clause-balanced g c =
    let q = c.args.self.now in
    let lo = c.args.from + c.above_len.result in
    let hi = lo + c.reached_len.result in
    let s = c.requires.at in
    let r =
    reach-by c.args.x.now c.args.groups.now c.args.areal.now q.front.order.items q.front.meetings q.odd c.args.from c.above_len.result c.reached_len.result c.args.here.now c.args.window.now s
    c.split_at.result.1.now c.split_at-2.result.1.now (c.split_at.ensures.back ∙ ap (drop c.args.from) c.as_slice.ensures.value)
    (c.split_at-2.ensures.back ∙ ap (drop (c.args.from + c.above_len.result)) c.as_slice-2.ensures.value) c.above_len.ensures.bound c.above_len.ensures.parted c.reached_len.ensures.bound
    c.reached_len.ensures.parted in
    subst (λ (f : Front). IsBalancedWindow c.args.groups.now c.args.x.now (drop lo (take hi f.order.items)) (contacts_of f.meetings (drop lo (take hi f.order.items))) c.args.here.now) (sym c.pass.ensures.front)
    (step-balanced c.args.x.now c.args.groups.now c.args.areal.now q.front.order.items q.front.meetings q.odd c.args.from lo hi c.args.here.now c.args.window.now s r c.pass.new.self.odd g.S.CellSink.after (g.S.CellSink.content c.args.sink.now) (g.S.CellSink.content c.pass.new.sink) c.requires.ready.odd c.pass.ensures.repaired)

pub cut-requires-clause-stored : goal.cut-requires-clause-stored
cut-requires-clause-stored g c =
    let q = c.args.self.now in
    let lo = c.args.from + c.above_len.result in
    let hi = lo + c.reached_len.result in
    let s = c.requires.at in
    let r =
    reach-by c.args.x.now c.args.groups.now c.args.areal.now q.front.order.items q.front.meetings q.odd c.args.from c.above_len.result c.reached_len.result c.args.here.now c.args.window.now s
    c.split_at.result.1.now c.split_at-2.result.1.now (c.split_at.ensures.back ∙ ap (drop c.args.from) c.as_slice.ensures.value)
    (c.split_at-2.ensures.back ∙ ap (drop (c.args.from + c.above_len.result)) c.as_slice-2.ensures.value) c.above_len.ensures.bound c.above_len.ensures.parted c.reached_len.ensures.bound
    c.reached_len.ensures.parted in
    subst (λ (f : Front). AreParities c.args.areal.now c.args.groups.now c.pass.new.self.odd (counts c.args.groups.now []) (take lo f.order.items)) (sym c.pass.ensures.front)
    (step-stored c.args.x.now c.args.groups.now c.args.areal.now q.front.order.items q.front.meetings q.odd c.args.from lo hi c.args.here.now c.args.window.now s r c.pass.new.self.odd g.S.CellSink.after (g.S.CellSink.content c.args.sink.now) (g.S.CellSink.content c.pass.new.sink) c.requires.ready.odd c.pass.ensures.repaired)

pub returns-clause-behind : goal.returns-clause-behind
returns-clause-behind g c s0 =
    let q = c.args.self.now in
    let lo = c.args.from + c.above_len.result in
    let hi = lo + c.reached_len.result in
    let s = s0 in
    let r =
    reach-by c.args.x.now c.args.groups.now c.args.areal.now q.front.order.items q.front.meetings q.odd c.args.from c.above_len.result c.reached_len.result c.args.here.now c.args.window.now s
    c.split_at.result.1.now c.split_at-2.result.1.now (c.split_at.ensures.back ∙ ap (drop c.args.from) c.as_slice.ensures.value)
    (c.split_at-2.ensures.back ∙ ap (drop (c.args.from + c.above_len.result)) c.as_slice-2.ensures.value) c.above_len.ensures.bound c.above_len.ensures.parted c.reached_len.ensures.bound
    c.reached_len.ensures.parted in
    let x = c.args.x.now in
    let groups = c.args.groups.now in
    let areal = c.args.areal.now in
    let here = c.args.here.now in
    let going = c.cut.new.self.bench.order.items in
    let contacts = c.cut.new.self.bench.contacts.items in
    let odd' = c.pass.new.self.odd in
    let between = g.S.CellSink.content c.pass.new.sink in
    let new = g.S.CellSink.content c.cut.new.sink in
    let e = c.pass.ensures.front in
    step-behind c.args.x.now c.args.groups.now c.args.areal.now q.front.order.items q.front.meetings q.odd c.args.from lo hi c.args.here.now c.args.window.now s r c.pass.new.self.odd g.S.CellSink.after (g.S.CellSink.content c.args.sink.now) (g.S.CellSink.content c.pass.new.sink) c.requires.ready.odd c.pass.ensures.repaired
    going contacts c.cut.new.self.front.meetings c.cut.new.self.odd c.cut.new.self.front.order.items c.cut.result new c.pass.ensures.ready.odd c.requires.places.meetings
    (subst (λ (f : Front). WasWindowHanded x groups (map as_count (take (group_count groups) (parities areal (counts groups (pieces_of (take lo f.order.items)))))) (drop lo (take hi f.order.items))
    (contacts_of f.meetings (drop lo (take hi f.order.items))) here going contacts g.S.CellSink.after between new) e c.cut.ensures.handed)
    c.cut.ensures.contacts
    (subst (λ (f : Front). c.cut.new.self.front.order.items ≡ (take lo f.order.items ++ going) ++ drop hi f.order.items) e c.cut.ensures.order)
    (subst (λ (f : Front). WereSettled x (take lo f.order.items) going (drop hi f.order.items) contacts (forgotten f.meetings (drop lo (take hi f.order.items))) c.cut.new.self.front.meetings) e c.cut.ensures.settled)
    (subst (λ (f : Front). c.cut.new.self.odd ≡ stored areal groups odd' (parities areal (counts groups (pieces_of (take lo f.order.items)))) going) e c.cut.ensures.stored)
    c.cut.ensures.end

pub cut-requires-clause-places : goal.cut-requires-clause-places
cut-requires-clause-places g c =
    let q = c.args.self.now in
    let n = length c.args.here.now in
    let k = length (pieces_with begins c.args.here.now) in
    let e = c.pass.ensures.front in
    let h = c.requires.places in
    record {
      meetings = ap (λ (f : Front). length f.meetings) e ∙ h.meetings;
      order = subst (λ (f : Front). vec_len f.order + k ≤ vec_capacity f.order) (sym e) h.order;
      below = subst (λ (f : Front). vec_len f.order ≤ vec_capacity f.tail) (sym e) h.below;
      bench = subst (λ (f : Front). HasBenchRoom (vec_len f.order + n) (vec_len f.order + k) c.pass.new.self.bench) (sym e)
          (subst (HasBenchRoom (vec_len q.front.order + n) (vec_len q.front.order + k)) (sym c.pass.ensures.bench) h.bench);
    }

pub returns-clause-places : goal.returns-clause-places
returns-clause-places g c =
    let q = c.args.self.now in
    let m = c.pass.new.self in
    places-both q m c.cut.new.self (places-passed q m c.pass.ensures.front c.pass.ensures.bench) c.cut.ensures.places
