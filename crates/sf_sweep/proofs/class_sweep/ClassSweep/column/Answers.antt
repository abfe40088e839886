use Rattle.std.proofs.Common.{sym, subst, ◌∙◌, arith, ◌+◌, length, vec_len}
use Rattle.sf_strips.specs.Vertices.{begins, pieces_with}
use Rattle.sf_sweep.specs.declared.front.Front.{Front}
use Rattle.sf_sweep.specs.Within.{IsBehindColumn}
use Rattle.sf_sweep.proofs.ColumnLaws.{at-since, bench-fewer, column-both, end-apart, end-column, place-edges, place-few, place-stored, place-within, since-nothing, turn-begun, turn-since, turn-smaller, turn-window, window-fits}
use Rattle.sf_sweep.proofs.ReadyLaws.{places-both, places-passed, places-same}
use Rattle.sf_sweep.proofs.class_sweep.ClassSweep.column.Goals as goal

pub loop-window-init : goal.loop-window-init
loop-window-init g c =
    let q = c.args.self.now in
    record {
      since = λ s. since-nothing c.args.x.now c.args.groups.now c.args.areal.now q.front.order.items q.front.meetings q.odd 0 c.args.vertices.now s g.S.CellSink.after (g.S.CellSink.content c.args.sink.now);
      fewer = omega arith;
      places = places-same q;
      ready = c.requires.ready;
    }

pub split_at-requires : goal.split_at-requires
split_at-requires g c =
    window-fits c.first.result c.args.x.now c.loop-window.left.now c.in-Some.window (sym c.next_window.ensures ∙ c.in-Some.is)

pub advance-from-requires-clause-at : goal.advance-from-requires-clause-at
advance-from-requires-clause-at g c =
    let q = c.args.self.now in
    let l = c.loop-window in
    turn-window c.args.x.now c.args.groups.now c.args.areal.now q.front.order.items q.front.meetings q.odd 0 c.args.vertices.now c.requires.at l.self.front.order.items l.self.front.meetings l.self.odd l.from l.left.now
    g.S.CellSink.after (g.S.CellSink.content c.args.sink.now) (g.S.CellSink.content l.sink) (l.invariant.since c.requires.at) c.first.result c.in-Some.window c.first.ensures.some c.first.ensures.none
    (sym c.next_window.ensures ∙ c.in-Some.is) c.split_at.result.0.now c.split_at.ensures.front

pub advance-from-requires-clause-few : goal.advance-from-requires-clause-few
advance-from-requires-clause-few g c =
    let q = c.args.self.now in
    let l = c.loop-window in
    let few = place-few c.args.x.now c.args.groups.now c.args.areal.now l.self.front.order.items l.self.front.meetings l.self.odd l.from l.left.now
    (at-since c.args.x.now c.args.groups.now c.args.areal.now q.front.order.items q.front.meetings q.odd 0 c.args.vertices.now c.requires.at l.self.front.order.items l.self.front.meetings l.self.odd l.from l.left.now
    g.S.CellSink.after (g.S.CellSink.content c.args.sink.now) (g.S.CellSink.content l.sink) (l.invariant.since c.requires.at)) in
    omega (arith, few, c.requires.few, l.invariant.fewer, c.split_at.ensures.front_len, c.split_at.ensures.back_len)

pub advance-from-requires-clause-places : goal.advance-from-requires-clause-places
advance-from-requires-clause-places g c =
    let q = c.args.self.now in
    let l = c.loop-window in
    let begun = turn-begun c.args.x.now c.args.groups.now c.args.areal.now q.front.order.items q.front.meetings q.odd 0 c.args.vertices.now c.requires.at l.self.front.order.items l.self.front.meetings l.self.odd l.from l.left.now
    g.S.CellSink.after (g.S.CellSink.content c.args.sink.now) (g.S.CellSink.content l.sink) (l.invariant.since c.requires.at) c.first.result c.in-Some.window c.first.ensures.some c.first.ensures.none
    (sym c.next_window.ensures ∙ c.in-Some.is) c.split_at.result.0.now c.split_at.ensures.front in
    let h = c.requires.places in
    let i = l.invariant.places in
    let n = length c.args.groups.now in
    record {
      meetings = i.meetings ∙ h.meetings;
      order = omega (arith, begun, h.order, i.order);
      below = omega (arith, begun, h.below, i.below);
      bench = bench-fewer (n + length c.args.vertices.now) (vec_len l.self.front.order + length c.split_at.result.0.now) n
          (vec_len l.self.front.order + length (pieces_with begins c.split_at.result.0.now)) l.self.bench
          (omega (arith, begun, l.invariant.fewer, c.split_at.ensures.front_len, c.split_at.ensures.back_len)) (omega (arith, begun))
          (i.bench (n + length c.args.vertices.now) n h.bench);
    }

pub loop-window-smaller : goal.loop-window-smaller
loop-window-smaller g c =
    let q = c.args.self.now in
    let l = c.loop-window in
    let m = c.advance-from.new.self in
    turn-smaller c.args.x.now c.args.groups.now c.args.areal.now q.front.order.items q.front.meetings q.odd 0 c.args.vertices.now c.requires.at l.self.front.order.items l.self.front.meetings l.self.odd l.from l.left.now
    g.S.CellSink.after (g.S.CellSink.content c.args.sink.now) (g.S.CellSink.content l.sink) (l.invariant.since c.requires.at) c.first.result c.in-Some.window c.first.ensures.some c.first.ensures.none
    (sym c.next_window.ensures ∙ c.in-Some.is) c.split_at.result.0.now c.split_at.ensures.front
    m.front.order.items m.front.meetings m.odd c.advance-from.result c.split_at.result.1.now (g.S.CellSink.content c.advance-from.new.sink) c.split_at.ensures.back c.advance-from.ensures.behind

pub loop-window-preserved : goal.loop-window-preserved
loop-window-preserved g c =
    let q = c.args.self.now in
    let l = c.loop-window in
    let m = c.advance-from.new.self in
    record {
      since = λ s.
          turn-since c.args.x.now c.args.groups.now c.args.areal.now q.front.order.items q.front.meetings q.odd 0 c.args.vertices.now s l.self.front.order.items l.self.front.meetings l.self.odd l.from l.left.now
          g.S.CellSink.after (g.S.CellSink.content c.args.sink.now) (g.S.CellSink.content l.sink) (l.invariant.since s) c.first.result c.in-Some.window c.first.ensures.some c.first.ensures.none
          (sym c.next_window.ensures ∙ c.in-Some.is) c.split_at.result.0.now c.split_at.ensures.front
          m.front.order.items m.front.meetings m.odd c.advance-from.result c.split_at.result.1.now (g.S.CellSink.content c.advance-from.new.sink) c.split_at.ensures.back c.advance-from.ensures.behind;
      fewer = omega (arith, l.invariant.fewer, c.split_at.ensures.back_len);
      places = places-both q l.self m l.invariant.places c.advance-from.ensures.places;
      ready = c.advance-from.ensures.ready;
    }

pub pass-requires-clause-in_turn : goal.pass-requires-clause-in_turn
pass-requires-clause-in_turn g c =
    let q = c.args.self.now in
    let l = c.loop-window in
    let few = place-within c.args.x.now c.args.groups.now c.args.areal.now l.self.front.order.items l.self.front.meetings l.self.odd l.from l.left.now
    (at-since c.args.x.now c.args.groups.now c.args.areal.now q.front.order.items q.front.meetings q.odd 0 c.args.vertices.now c.requires.at l.self.front.order.items l.self.front.meetings l.self.odd l.from l.left.now
    g.S.CellSink.after (g.S.CellSink.content c.args.sink.now) (g.S.CellSink.content l.sink) (l.invariant.since c.requires.at)) in
    omega (arith, few, c.len-end.ensures)

pub pass-requires-clause-order : goal.pass-requires-clause-order
pass-requires-clause-order g c =
    let q = c.args.self.now in
    let l = c.loop-window in
    place-edges c.args.x.now c.args.groups.now c.args.areal.now l.self.front.order.items l.self.front.meetings l.self.odd l.from l.left.now
    (at-since c.args.x.now c.args.groups.now c.args.areal.now q.front.order.items q.front.meetings q.odd 0 c.args.vertices.now c.requires.at l.self.front.order.items l.self.front.meetings l.self.odd l.from l.left.now
    g.S.CellSink.after (g.S.CellSink.content c.args.sink.now) (g.S.CellSink.content l.sink) (l.invariant.since c.requires.at))

pub pass-requires-clause-few : goal.pass-requires-clause-few
pass-requires-clause-few g c =
    let q = c.args.self.now in
    let l = c.loop-window in
    let few = place-few c.args.x.now c.args.groups.now c.args.areal.now l.self.front.order.items l.self.front.meetings l.self.odd l.from l.left.now
    (at-since c.args.x.now c.args.groups.now c.args.areal.now q.front.order.items q.front.meetings q.odd 0 c.args.vertices.now c.requires.at l.self.front.order.items l.self.front.meetings l.self.odd l.from l.left.now
    g.S.CellSink.after (g.S.CellSink.content c.args.sink.now) (g.S.CellSink.content l.sink) (l.invariant.since c.requires.at)) in
    omega (arith, few, c.requires.few)

pub pass-requires-clause-apart : goal.pass-requires-clause-apart
pass-requires-clause-apart g c =
    let q = c.args.self.now in
    let l = c.loop-window in
    end-apart c.args.x.now c.args.groups.now c.args.areal.now l.self.front.order.items l.self.front.meetings l.self.odd l.from l.left.now c.first.result
    (at-since c.args.x.now c.args.groups.now c.args.areal.now q.front.order.items q.front.meetings q.odd 0 c.args.vertices.now c.requires.at l.self.front.order.items l.self.front.meetings l.self.odd l.from l.left.now
    g.S.CellSink.after (g.S.CellSink.content c.args.sink.now) (g.S.CellSink.content l.sink) (l.invariant.since c.requires.at)) c.first.ensures.some c.first.ensures.none
    (sym c.next_window.ensures ∙ c.in_default.is) c.len-end.result (omega (arith, c.len-end.ensures))

pub pass-requires-clause-stored : goal.pass-requires-clause-stored
pass-requires-clause-stored g c =
    let q = c.args.self.now in
    let l = c.loop-window in
    place-stored c.args.x.now c.args.groups.now c.args.areal.now l.self.front.order.items l.self.front.meetings l.self.odd l.from l.left.now
    (at-since c.args.x.now c.args.groups.now c.args.areal.now q.front.order.items q.front.meetings q.odd 0 c.args.vertices.now c.requires.at l.self.front.order.items l.self.front.meetings l.self.odd l.from l.left.now
    g.S.CellSink.after (g.S.CellSink.content c.args.sink.now) (g.S.CellSink.content l.sink) (l.invariant.since c.requires.at))

pub returns-clause-behind : goal.returns-clause-behind
returns-clause-behind g c s =
    let q = c.args.self.now in
    let l = c.loop-window in
    let x = c.args.x.now in
    let groups = c.args.groups.now in
    let areal = c.args.areal.now in
    let after = g.S.CellSink.after in
    let old = g.S.CellSink.content c.args.sink.now in
    let mid = g.S.CellSink.content l.sink in
    let new = g.S.CellSink.content c.pass.new.sink in
    let t = l.invariant.since s in
    let place = at-since x groups areal q.front.order.items q.front.meetings q.odd 0 c.args.vertices.now s l.self.front.order.items l.self.front.meetings l.self.odd l.from l.left.now after old mid t in
    let end : IsBehindColumn place l.self.front.order.items l.self.front.meetings c.pass.new.self.odd after mid new =
    end-column x groups areal l.self.front.order.items l.self.front.meetings l.self.odd l.from l.left.now c.first.result place c.first.ensures.some c.first.ensures.none
    (sym c.next_window.ensures ∙ c.in_default.is) c.len-end.result c.pass.new.self.odd after mid new (omega (arith, c.len-end.ensures)) l.invariant.ready.odd c.pass.ensures.repaired in
    column-both x groups areal q.front.order.items q.front.meetings q.odd 0 c.args.vertices.now s l.self.front.order.items l.self.front.meetings l.self.odd l.from l.left.now
    c.pass.new.self.front.order.items c.pass.new.self.front.meetings c.pass.new.self.odd after old mid new t
    (subst (λ (f : Front). IsBehindColumn place f.order.items f.meetings c.pass.new.self.odd after mid new) (sym c.pass.ensures.front) end)

pub returns-clause-places : goal.returns-clause-places
returns-clause-places g c =
    let l = c.loop-window in
    places-both c.args.self.now l.self c.pass.new.self l.invariant.places (places-passed l.self c.pass.new.self c.pass.ensures.front c.pass.ensures.bench)
