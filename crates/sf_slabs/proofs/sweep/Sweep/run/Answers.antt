use Rattle.std.proofs.Common.{ap, sym, subst, ◌∙◌, ◌<◌, [], Some, length, map, arith}
use Rattle.std.specs.List.{fold}
use Rattle.sf_cells.specs.Cells.{cells}
use Rattle.sf_cells.specs.Groups.{item_of}
use Rattle.sf_cells.specs.Samples.{listed, unlisted}
use Rattle.sf_slabs.specs.Sweeps.{cells_in}
use Rattle.sf_slabs.proofs.Ahead.{IsAhead}
use Rattle.sf_slabs.proofs.RemainingLaws.{ahead_of_all, left, remaining, start-ahead, start-column}
use Rattle.sf_slabs.proofs.RunLaws.{IsComingNext, Stands, StandsBefore, column-ahead, column-apart, column-cells, column-coming, column-vertices, coming-next, fewer-left, first-cells, first-coming, first-slab, first-stands, full-fold, handed-one, handed-two, no_more_ahead, ready-fewer, slab-column, slab-coming, slab-of, slab_place, stands}
use Rattle.sf_slabs.proofs.sweep.Sweep.run.Goals as goal

pub slab-requires-clause-slab : goal.slab-requires-clause-slab
slab-requires-clause-slab g c = first-slab c.args.pieces.now c.args.self.now.order.items c.args.self.now.contacts.items c.requires.no_edge c.requires.no_contact

pub loop-next-init : goal.loop-next-init
loop-next-init g c =
    let pieces = c.args.pieces.now in
    let vs = c.args.vertices.now in
    let next = c.next_column-next.result in
    let no_edge = ap (λ v. v.items) c.slab.ensures.order ∙ c.requires.no_edge in
    let no_contact = ap (λ v. v.items) c.slab.ensures.contacts ∙ c.requires.no_contact in
    let coming : IsComingNext next vs [] =
    coming-next next c.first_place.result c.as_slice.result.now [] vs c.next_column-next.ensures.some c.next_column-next.ensures.none c.first_place.ensures
    (c.as_slice.ensures.value ∙ c.requires.no_contact) in
    record {
      ready = c.slab.ensures.ready (length vs) c.requires.ready;
      stands = first-stands pieces next c.slab.new.self.order.items c.slab.new.self.contacts.items vs no_edge no_contact c.requires.all c.requires.in_order coming;
      fewer = omega arith;
      handed =
          handed-one (item_of c.args.groups.now) g.S.CellSink.after (g.S.CellSink.content c.args.sink.now) (g.S.CellSink.content c.slab.new.sink)
          (cells pieces) (cells_in pieces (unlisted (ahead_of_all pieces))) (remaining pieces next)
          (first-cells pieces next vs (start-ahead pieces vs c.requires.all c.requires.in_order) coming)
          (c.slab.ensures.handed (ahead_of_all pieces)
          (first-coming pieces c.args.self.now.order.items c.args.self.now.contacts.items c.requires.no_edge c.requires.no_contact) (start-column pieces));
    }

pub column-requires-clause-coming : goal.column-requires-clause-coming
column-requires-clause-coming g c =
    let l = c.loop-next in
    let s : StandsBefore c.args.pieces.now c.in-Some.x l.self.order.items l.self.contacts.items l.ahead.now =
    subst (λ o. Stands c.args.pieces.now o l.self.order.items l.self.contacts.items l.ahead.now) c.in-Some.is l.invariant.stands in
    column-coming c.args.pieces.now c.in-Some.x l.self.order.items l.self.contacts.items l.ahead.now s

pub column-requires-clause-apart : goal.column-requires-clause-apart
column-requires-clause-apart g c =
    let l = c.loop-next in
    let s : StandsBefore c.args.pieces.now c.in-Some.x l.self.order.items l.self.contacts.items l.ahead.now =
    subst (λ o. Stands c.args.pieces.now o l.self.order.items l.self.contacts.items l.ahead.now) c.in-Some.is l.invariant.stands in
    column-apart c.args.pieces.now c.in-Some.x l.self.order.items l.self.contacts.items l.ahead.now s

pub column-requires-clause-vertices : goal.column-requires-clause-vertices
column-requires-clause-vertices g c =
    let l = c.loop-next in
    let s : StandsBefore c.args.pieces.now c.in-Some.x l.self.order.items l.self.contacts.items l.ahead.now =
    subst (λ o. Stands c.args.pieces.now o l.self.order.items l.self.contacts.items l.ahead.now) c.in-Some.is l.invariant.stands in
    column-vertices c.args.pieces.now c.in-Some.x l.self.order.items l.self.contacts.items l.ahead.now c.split_at.result.0.now c.column_len.result s c.column_len.ensures.value c.split_at.ensures.front

pub slab-requires-in-Some-clause-ready : goal.slab-requires-in-Some-clause-ready
slab-requires-in-Some-clause-ready g c =
    ready-fewer c.args.pieces.now c.args.groups.now (length c.args.vertices.now) 0 c.column.new.self (omega arith)
    (c.column.ensures.ready (length c.args.vertices.now) c.loop-next.invariant.ready)

pub slab-requires-in-Some-clause-slab : goal.slab-requires-in-Some-clause-slab
slab-requires-in-Some-clause-slab g c =
    let l = c.loop-next in
    let pieces = c.args.pieces.now in
    let x = c.in-Some.x in
    let os = c.column.new.self.order.items in
    let cs = c.column.new.self.contacts.items in
    let s : StandsBefore pieces x l.self.order.items l.self.contacts.items l.ahead.now =
    subst (λ o. Stands pieces o l.self.order.items l.self.contacts.items l.ahead.now) c.in-Some.is l.invariant.stands in
    let ahead : IsAhead pieces x c.split_at.result.1.now =
    column-ahead pieces x l.self.order.items l.self.contacts.items l.ahead.now c.split_at.result.1.now c.column_len.result s c.column_len.ensures.value c.split_at.ensures.back in
    slab-of pieces x c.next_column-next-in-Some.result os cs c.split_at.result.1.now c.column.ensures.front ahead
    (coming-next c.next_column-next-in-Some.result c.first_place-in-Some.result c.as_slice-in-Some.result.now cs c.split_at.result.1.now
    c.next_column-next-in-Some.ensures.some c.next_column-next-in-Some.ensures.none c.first_place-in-Some.ensures c.as_slice-in-Some.ensures.value)

pub loop-next-smaller : goal.loop-next-smaller
loop-next-smaller g c =
    let l = c.loop-next in
    let pieces = c.args.pieces.now in
    let x = c.in-Some.x in
    let os = c.column.new.self.order.items in
    let cs = c.column.new.self.contacts.items in
    let s : StandsBefore pieces x l.self.order.items l.self.contacts.items l.ahead.now =
    subst (λ o. Stands pieces o l.self.order.items l.self.contacts.items l.ahead.now) c.in-Some.is l.invariant.stands in
    let ahead : IsAhead pieces x c.split_at.result.1.now =
    column-ahead pieces x l.self.order.items l.self.contacts.items l.ahead.now c.split_at.result.1.now c.column_len.result s c.column_len.ensures.value c.split_at.ensures.back in
    subst (λ o. left pieces c.next_column-next-in-Some.result < left pieces o) (sym c.in-Some.is)
    (fewer-left pieces x c.next_column-next-in-Some.result os cs c.split_at.result.1.now c.column.ensures.front ahead
    (coming-next c.next_column-next-in-Some.result c.first_place-in-Some.result c.as_slice-in-Some.result.now cs c.split_at.result.1.now
    c.next_column-next-in-Some.ensures.some c.next_column-next-in-Some.ensures.none c.first_place-in-Some.ensures c.as_slice-in-Some.ensures.value))

pub loop-next-preserved : goal.loop-next-preserved
loop-next-preserved g c =
    let l = c.loop-next in
    let pieces = c.args.pieces.now in
    let x = c.in-Some.x in
    let next = c.next_column-next-in-Some.result in
    let later = c.split_at.result.1.now in
    let os = c.column.new.self.order.items in
    let cs = c.column.new.self.contacts.items in
    let s : StandsBefore pieces x l.self.order.items l.self.contacts.items l.ahead.now =
    subst (λ o. Stands pieces o l.self.order.items l.self.contacts.items l.ahead.now) c.in-Some.is l.invariant.stands in
    let ahead : IsAhead pieces x later =
    column-ahead pieces x l.self.order.items l.self.contacts.items l.ahead.now later c.column_len.result s c.column_len.ensures.value c.split_at.ensures.back in
    let coming : IsComingNext next later cs =
    coming-next next c.first_place-in-Some.result c.as_slice-in-Some.result.now cs later
    c.next_column-next-in-Some.ensures.some c.next_column-next-in-Some.ensures.none c.first_place-in-Some.ensures c.as_slice-in-Some.ensures.value in
    record {
      ready = c.slab-in-Some.ensures.ready (length c.args.vertices.now) (c.column.ensures.ready (length c.args.vertices.now) l.invariant.ready);
      stands =
          subst (λ fs. Stands pieces next fs c.slab-in-Some.new.self.contacts.items later) (sym (ap (λ v. v.items) c.slab-in-Some.ensures.order))
          (subst (λ ds. Stands pieces next os ds later) (sym (ap (λ v. v.items) c.slab-in-Some.ensures.contacts))
          (stands pieces x next os cs later c.column.ensures.front ahead coming));
      fewer = no_more_ahead _ _ _ _ c.split_at.ensures.back_len l.invariant.fewer;
      handed =
          handed-two (item_of c.args.groups.now) g.S.CellSink.after (g.S.CellSink.content l.sink) (g.S.CellSink.content c.column.new.sink) (g.S.CellSink.content c.slab-in-Some.new.sink)
          (remaining pieces (Some x)) (cells_in pieces (listed x)) (cells_in pieces (unlisted (slab_place x next))) (remaining pieces next)
          (column-cells pieces x next os cs later c.column.ensures.front ahead coming)
          c.column.ensures.handed
          (c.slab-in-Some.ensures.handed (slab_place x next) (slab-coming pieces x next os cs later c.column.ensures.front ahead coming)
          (slab-column pieces x next os cs later c.column.ensures.front ahead coming))
          ∙ ap (λ o. fold g.S.CellSink.after (g.S.CellSink.content l.sink) (map (item_of c.args.groups.now) (remaining pieces o))) (sym c.in-Some.is)
          ∙ l.invariant.handed;
    }

pub returns-then-is_full : goal.returns-then-is_full
returns-then-is_full g c =
    let l = c.loop-next in
    let held = g.S.CellSink.content l.sink in
    sym (full-fold g.S.CellSink.after held (c.is_full.ensures c.if-is_full.true) (map (item_of c.args.groups.now) (remaining c.args.pieces.now l.next)))
    ∙ l.invariant.handed
