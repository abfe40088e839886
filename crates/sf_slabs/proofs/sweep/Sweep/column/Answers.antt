use Rattle.std.proofs.Common.{ap, sym, subst, ◌∙◌, arith, Some, length, true}
use Rattle.std.specs.List.{fold}
use Rattle.sf_strips.specs.Parts.{levels_of}
use Rattle.sf_slabs.specs.Sweeps.{IsFront}
use Rattle.sf_slabs.proofs.SweepLaws.{WasCut, coming-few, cut-balanced, cut-column, cut-entries, cut-few, cut-front, cut-items, edges-below, few-moved, onward-few, room-fewer, vertices-below}
use Rattle.sf_slabs.proofs.sweep.Sweep.column.Goals as goal

-- the cut is one of the column, where it is handed out
was_cut : (g : _) (c : goal.After-column-1 g) →
    WasCut c.args.pieces.now c.args.x.now (Some c.args.x.now) c.args.self.now.order.items c.as_slice.result.now c.args.self.now.contacts.items c.as_slice-2.result.now
    c.args.vertices.now c.column.new.self.order.items (levels_of c.column.new.self.parts.items)
was_cut g c =
    record {
      coming = c.requires.coming;
      vertices = c.requires.vertices;
      edges_are = c.as_slice.ensures.value;
      contacts_are = c.as_slice-2.ensures.value;
      tops = c.column.ensures.tops;
      onward = c.column.ensures.onward;
    }

pub column-requires-clause-room : goal.column-requires-clause-room
column-requires-clause-room g c =
    let coming = c.requires.coming in
    let few = coming-few c.args.pieces.now c.args.x.now (Some c.args.x.now) c.args.self.now.order.items c.args.self.now.contacts.items coming in
    let onward = onward-few c.args.pieces.now c.args.x.now (Some c.args.x.now) c.args.self.now.order.items c.args.self.now.contacts.items c.args.vertices.now coming c.requires.vertices in
    room-fewer _ _ _ _ _ (omega (arith, few, ap length c.as_slice.ensures.value)) (omega (arith, onward, ap length c.as_slice.ensures.value)) c.requires.ready.cut_room

pub hand_out-requires-clause-edges : goal.hand_out-requires-clause-edges
hand_out-requires-clause-edges g c =
    edges-below c.args.pieces.now (length c.args.groups.now) c.args.self.now.order.items c.as_slice-3.result.now c.requires.one_group_each c.as_slice-3.ensures.value
    c.requires.coming.entries

pub hand_out-requires-clause-vertices : goal.hand_out-requires-clause-vertices
hand_out-requires-clause-vertices g c = vertices-below c.args.pieces.now (length c.args.groups.now) c.args.vertices.now c.requires.one_group_each c.requires.vertices.each

pub hand_out-requires-clause-onward : goal.hand_out-requires-clause-onward
hand_out-requires-clause-onward g c =
    edges-below c.args.pieces.now (length c.args.groups.now) c.column.new.self.order.items c.as_slice-4.result.now c.requires.one_group_each c.as_slice-4.ensures.value
    (cut-entries _ _ _ _ _ _ _ _ _ _ (was_cut g c))

pub hand_out-requires-clause-few : goal.hand_out-requires-clause-few
hand_out-requires-clause-few g c =
    few-moved _ _ _ _ _ (length c.args.pieces.now) (ap length c.as_slice-3.ensures.value) (ap length c.as_slice-4.ensures.value)
    (coming-few c.args.pieces.now c.args.x.now (Some c.args.x.now) c.args.self.now.order.items c.args.self.now.contacts.items c.requires.coming)
    (cut-few _ _ _ _ _ _ _ _ _ _ (was_cut g c))
    c.requires.few c.requires.few_vertices

pub hand_out-requires-clause-balanced : goal.hand_out-requires-clause-balanced
hand_out-requires-clause-balanced g c =
    cut-balanced c.args.pieces.now c.args.x.now c.args.self.now.order.items c.as_slice-3.result.now c.args.vertices.now c.column.new.self.order.items c.as_slice-4.result.now
    (levels_of c.column.new.self.parts.items) (levels_of c.as_slice-5.result.now) (cut-column _ _ _ _ _ _ _ _ _ _ (was_cut g c)) c.as_slice-3.ensures.value c.as_slice-4.ensures.value (ap levels_of c.as_slice-5.ensures.value) c.args.groups.now

-- and is still where the column has been handed out
was_cut_then : (g : _) (c : goal.After-swap-2 g) →
    WasCut c.args.pieces.now c.args.x.now (Some c.args.x.now) c.args.self.now.order.items c.as_slice.result.now c.args.self.now.contacts.items c.as_slice-2.result.now
    c.args.vertices.now c.column.new.self.order.items (levels_of c.column.new.self.parts.items)
was_cut_then g c =
    record {
      coming = c.requires.coming;
      vertices = c.requires.vertices;
      edges_are = c.as_slice.ensures.value;
      contacts_are = c.as_slice-2.ensures.value;
      tops = c.column.ensures.tops;
      onward = c.column.ensures.onward;
    }

pub returns-clause-front : goal.returns-clause-front
returns-clause-front g c =
    let x = c.args.x.now in
    let after =
    cut-front c.args.pieces.now x (Some x) c.args.self.now.order.items c.as_slice.result.now c.args.self.now.contacts.items c.as_slice-2.result.now c.column.new.self.contacts.items
    c.args.vertices.now c.column.new.self.order.items (levels_of c.column.new.self.parts.items) (was_cut_then g c) c.column.ensures.contacts in
    subst (λ os. IsFront c.args.pieces.now x os c.swap-2.new.x.items) (sym (ap (λ v. v.items) c.swap.ensures.x_after))
    (subst (λ cs. IsFront c.args.pieces.now x c.column.new.self.order.items cs) (sym (ap (λ v. v.items) c.swap-2.ensures.x_after)) after)

pub returns-clause-handed : goal.returns-clause-handed
returns-clause-handed g c =
    c.hand_out.ensures.handed
    ∙ ap (fold g.S.CellSink.after (g.S.CellSink.content c.args.sink.now))
    (cut-items c.args.pieces.now c.args.x.now c.args.self.now.order.items c.as_slice-3.result.now c.args.vertices.now c.column.new.self.order.items c.as_slice-4.result.now
    (levels_of c.column.new.self.parts.items) (levels_of c.as_slice-5.result.now) c.requires.coming.place (cut-column _ _ _ _ _ _ _ _ _ _ (was_cut_then g c)) c.as_slice-3.ensures.value c.as_slice-4.ensures.value (ap levels_of c.as_slice-5.ensures.value)
    c.args.groups.now true)
