use Rattle.std.proofs.Common.{◌≡◌, ap, sym, subst, ◌∙◌, arith, [], ◌+◌, ◌<◌, length}
use Rattle.sf_cells.specs.Hands.{item}
use Rattle.sf_cells.specs.Groups.{counts}
use Rattle.sf_slabs.proofs.RemainingLaws.{left}
use Rattle.sf_slabs.proofs.RunLaws.{IsComingNext, Stands, StandsBefore, first-stands}
use Rattle.sf_sweep.specs.Tables.{contacts_of}
use Rattle.sf_sweep.proofs.AcrossLaws.{HaveHanded, at-column, fewer-behind, first-handed, first-kept, handed-all, handed-behind, handed-full, kept-behind, stands-behind}
use Rattle.sf_sweep.proofs.ColumnLaws.{bench-fewer}
use Rattle.sf_sweep.proofs.LeastLaws.{next-of_first}
use Rattle.sf_sweep.proofs.ReadyLaws.{places-both, places-same}
use Rattle.sf_sweep.proofs.class_sweep.ClassSweep.run.Goals as goal

pub loop-next-init : goal.loop-next-init
loop-next-init g c =
    let q = c.args.self.now in
    let pieces = c.args.pieces.now in
    let groups = c.args.groups.now in
    let areal = c.args.areal.now in
    let vs = c.args.vertices.now in
    let order = q.front.order.items in
    let table = q.front.meetings in
    let next = c.next_place-next.result in
    let old = g.S.CellSink.content c.args.sink.now in
    let new = g.S.CellSink.content c.cell.new.self in
    let kept = first-kept groups areal order table q.odd (length groups) c.requires.no_edge c.requires.no_meeting in
    let coming : IsComingNext next vs (contacts_of table order) =
    next-of_first table order c.first.result next vs kept.never kept.alone c.first.ensures.some c.first.ensures.none c.next_place-next.ensures.some c.next_place-next.ensures.none in
    let handed : new ≡ g.S.CellSink.after old (item 2 (counts groups []) (counts groups [])) =
    c.cell.ensures
    ∙ ap (λ ns. g.S.CellSink.after old (item 2 ns c.deref-2.result.now)) (c.deref.ensures.value ∙ c.requires.ready.none_on)
    ∙ ap (λ ns. g.S.CellSink.after old (item 2 (counts groups []) ns)) (c.deref-2.ensures.value ∙ c.requires.none_above) in
    record {
      stands = first-stands pieces next order (contacts_of table order) vs c.requires.no_edge (ap (contacts_of table) c.requires.no_edge) c.requires.all c.requires.in_order
          (subst (λ es. IsComingNext next vs (contacts_of table es)) c.requires.no_edge coming);
      kept = kept;
      handed = first-handed pieces groups areal order table next vs g.S.CellSink.after old new c.requires.no_edge c.requires.all c.requires.in_order coming handed;
      fewer = omega arith;
      places = places-same q;
      ready = c.requires.ready;
    }

pub column-requires-clause-at : goal.column-requires-clause-at
column-requires-clause-at g c =
    let l = c.loop-next in
    let pieces = c.args.pieces.now in
    let groups = c.args.groups.now in
    let areal = c.args.areal.now in
    let x = c.in-Some.x in
    let order = l.self.front.order.items in
    let table = l.self.front.meetings in
    let odd = l.self.odd in
    let s : StandsBefore pieces x order (contacts_of table order) l.ahead.now = subst (λ o. Stands pieces o order (contacts_of table order) l.ahead.now) c.in-Some.is l.invariant.stands in
    at-column pieces groups areal x order table odd l.ahead.now c.split_at.result.0.now c.column_len.result c.requires.one_group_each s l.invariant.kept c.column_len.ensures.value c.split_at.ensures.front

pub column-requires-clause-few : goal.column-requires-clause-few
column-requires-clause-few g c =
    omega (arith, c.requires.few, c.requires.few_vertices, c.requires.one_group_each, c.loop-next.invariant.fewer, c.split_at.ensures.front_len, c.column_len.ensures.bound)

pub column-requires-clause-places : goal.column-requires-clause-places
column-requires-clause-places g c =
    let n = length c.args.groups.now in
    let h = c.requires.places in
    let i = c.loop-next.invariant.places in
    record {
      meetings = i.meetings ∙ h.meetings;
      order = omega (arith, h.order, i.order);
      below = omega (arith, h.below, i.below);
      bench = bench-fewer (n + length c.args.vertices.now) (n + length c.split_at.result.0.now) n n c.loop-next.self.bench
          (omega (arith, c.loop-next.invariant.fewer, c.split_at.ensures.front_len, c.column_len.ensures.bound)) (omega arith)
          (i.bench (n + length c.args.vertices.now) n h.bench);
    }

pub loop-next-smaller : goal.loop-next-smaller
loop-next-smaller g c =
    let l = c.loop-next in
    let pieces = c.args.pieces.now in
    let groups = c.args.groups.now in
    let areal = c.args.areal.now in
    let x = c.in-Some.x in
    let order = l.self.front.order.items in
    let table = l.self.front.meetings in
    let odd = l.self.odd in
    let s : StandsBefore pieces x order (contacts_of table order) l.ahead.now = subst (λ o. Stands pieces o order (contacts_of table order) l.ahead.now) c.in-Some.is l.invariant.stands in
    let m = c.column.new.self in
    let old = g.S.CellSink.content c.args.sink.now in
    let mid = g.S.CellSink.content l.sink in
    let new = g.S.CellSink.content c.column.new.sink in
    let at = at-column pieces groups areal x order table odd l.ahead.now c.split_at.result.0.now c.column_len.result c.requires.one_group_each s l.invariant.kept c.column_len.ensures.value c.split_at.ensures.front in
    let b = c.column.ensures.behind at in
    let kept =
    kept-behind pieces groups areal x order table odd l.ahead.now c.split_at.result.0.now c.column_len.result c.requires.one_group_each s l.invariant.kept c.column_len.ensures.value c.split_at.ensures.front
    c.split_at.result.1.now c.split_at.ensures.back m.front.order.items m.front.meetings m.odd g.S.CellSink.after old mid new b in
    let next = c.next_place-next-in-Some.result in
    let coming : IsComingNext next c.split_at.result.1.now (contacts_of m.front.meetings m.front.order.items) =
    next-of_first m.front.meetings m.front.order.items c.first-in-Some.result next c.split_at.result.1.now kept.never kept.alone c.first-in-Some.ensures.some c.first-in-Some.ensures.none
    c.next_place-next-in-Some.ensures.some c.next_place-next-in-Some.ensures.none in
    subst (λ o. left pieces next < left pieces o) (sym c.in-Some.is)
    (fewer-behind pieces groups areal x order table odd l.ahead.now c.split_at.result.0.now c.column_len.result c.requires.one_group_each s l.invariant.kept c.column_len.ensures.value c.split_at.ensures.front
    c.split_at.result.1.now c.split_at.ensures.back m.front.order.items m.front.meetings m.odd g.S.CellSink.after old mid new b next coming)

pub loop-next-preserved : goal.loop-next-preserved
loop-next-preserved g c =
    let l = c.loop-next in
    let pieces = c.args.pieces.now in
    let groups = c.args.groups.now in
    let areal = c.args.areal.now in
    let x = c.in-Some.x in
    let order = l.self.front.order.items in
    let table = l.self.front.meetings in
    let odd = l.self.odd in
    let s : StandsBefore pieces x order (contacts_of table order) l.ahead.now = subst (λ o. Stands pieces o order (contacts_of table order) l.ahead.now) c.in-Some.is l.invariant.stands in
    let m = c.column.new.self in
    let old = g.S.CellSink.content c.args.sink.now in
    let mid = g.S.CellSink.content l.sink in
    let new = g.S.CellSink.content c.column.new.sink in
    let at = at-column pieces groups areal x order table odd l.ahead.now c.split_at.result.0.now c.column_len.result c.requires.one_group_each s l.invariant.kept c.column_len.ensures.value c.split_at.ensures.front in
    let b = c.column.ensures.behind at in
    let kept =
    kept-behind pieces groups areal x order table odd l.ahead.now c.split_at.result.0.now c.column_len.result c.requires.one_group_each s l.invariant.kept c.column_len.ensures.value c.split_at.ensures.front
    c.split_at.result.1.now c.split_at.ensures.back m.front.order.items m.front.meetings m.odd g.S.CellSink.after old mid new b in
    let next = c.next_place-next-in-Some.result in
    let coming : IsComingNext next c.split_at.result.1.now (contacts_of m.front.meetings m.front.order.items) =
    next-of_first m.front.meetings m.front.order.items c.first-in-Some.result next c.split_at.result.1.now kept.never kept.alone c.first-in-Some.ensures.some c.first-in-Some.ensures.none
    c.next_place-next-in-Some.ensures.some c.next_place-next-in-Some.ensures.none in
    record {
      stands = stands-behind pieces groups areal x order table odd l.ahead.now c.split_at.result.0.now c.column_len.result c.requires.one_group_each s l.invariant.kept c.column_len.ensures.value c.split_at.ensures.front
          c.split_at.result.1.now c.split_at.ensures.back m.front.order.items m.front.meetings m.odd g.S.CellSink.after old mid new b next coming;
      kept = kept;
      handed = handed-behind pieces groups areal x order table odd l.ahead.now c.split_at.result.0.now c.column_len.result c.requires.one_group_each s l.invariant.kept c.column_len.ensures.value c.split_at.ensures.front
          c.split_at.result.1.now c.split_at.ensures.back m.front.order.items m.front.meetings m.odd g.S.CellSink.after old mid new b next coming
          (subst (λ o. HaveHanded pieces groups areal order table o g.S.CellSink.after old mid) c.in-Some.is l.invariant.handed);
      fewer = omega (arith, l.invariant.fewer, c.split_at.ensures.back_len);
      places = places-both c.args.self.now l.self m l.invariant.places c.column.ensures.places;
      ready = c.column.ensures.ready;
    }

pub returns-then-is_full : goal.returns-then-is_full
returns-then-is_full g c =
    let l = c.loop-next in
    handed-full c.args.pieces.now c.args.groups.now c.args.areal.now l.self.front.order.items l.self.front.meetings l.next g.S.CellSink.after (g.S.CellSink.content c.args.sink.now)
    (g.S.CellSink.content l.sink) (c.is_full.ensures c.if-is_full.true) l.invariant.handed

pub returns : goal.returns
returns g c =
    let l = c.loop-next in
    handed-all c.args.pieces.now c.args.groups.now c.args.areal.now l.self.front.order.items l.self.front.meetings l.next g.S.CellSink.after (g.S.CellSink.content c.args.sink.now)
    (g.S.CellSink.content l.sink) c.in_default.is l.invariant.handed
