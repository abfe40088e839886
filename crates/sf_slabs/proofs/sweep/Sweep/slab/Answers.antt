use Rattle.std.proofs.Common.{ap, ◌∙◌, [], None, length, false, arith}
use Rattle.std.specs.List.{fold}
use Rattle.sf_strips.specs.Parts.{levels_of}
use Rattle.sf_slabs.proofs.SlabCutLaws.{slab-column}
use Rattle.sf_slabs.proofs.SweepLaws.{at_most-moved, coming-few, contacts-fewer, cut-balanced, cut-items, edges-below, few-moved, fewer-moved, room-whole}
use Rattle.sf_slabs.proofs.sweep.Sweep.slab.Goals as goal

pub slab-requires-clause-contacts : goal.slab-requires-clause-contacts
slab-requires-clause-contacts g c =
    fewer-moved _ _ _ _ (ap length c.as_slice-2.ensures.value) (ap length c.as_slice.ensures.value)
    (contacts-fewer c.requires.slab.place None c.args.self.now.order.items c.args.self.now.contacts.items c.requires.slab.coming.steps)

pub slab-requires-clause-room : goal.slab-requires-clause-room
slab-requires-clause-room g c =
    at_most-moved _ _ (length c.args.pieces.now) _ (ap length c.as_slice.ensures.value)
    (coming-few c.args.pieces.now c.requires.slab.place None c.args.self.now.order.items c.args.self.now.contacts.items c.requires.slab.coming)
    (room-whole (length c.args.pieces.now) _ c.requires.ready.cut_room.parts)

pub hand_out-requires-clause-edges : goal.hand_out-requires-clause-edges
hand_out-requires-clause-edges g c =
    edges-below c.args.pieces.now (length c.args.groups.now) c.args.self.now.order.items c.as_slice-3.result.now c.requires.one_group_each c.as_slice-3.ensures.value
    c.requires.slab.coming.entries

pub hand_out-requires-clause-onward : goal.hand_out-requires-clause-onward
hand_out-requires-clause-onward g c =
    edges-below c.args.pieces.now (length c.args.groups.now) c.args.self.now.order.items c.as_slice-4.result.now c.requires.one_group_each c.as_slice-4.ensures.value
    c.requires.slab.coming.entries

pub hand_out-requires-clause-few : goal.hand_out-requires-clause-few
hand_out-requires-clause-few g c =
    let few = coming-few c.args.pieces.now c.requires.slab.place None c.args.self.now.order.items c.args.self.now.contacts.items c.requires.slab.coming in
    few-moved _ _ _ _ _ (length c.args.pieces.now) (ap length c.as_slice-3.ensures.value) (ap length c.as_slice-4.ensures.value) few few c.requires.few (omega arith)

pub hand_out-requires-clause-balanced : goal.hand_out-requires-clause-balanced
hand_out-requires-clause-balanced g c =
    let slab = c.requires.slab in
    let es = c.args.self.now.order.items in
    cut-balanced c.args.pieces.now slab.place es c.as_slice-3.result.now [] es c.as_slice-4.result.now (levels_of c.slab.new.self.parts.items) (levels_of c.as_slice-5.result.now)
    (slab-column c.args.pieces.now slab.left slab.place es c.as_slice.result.now c.args.self.now.contacts.items c.as_slice-2.result.now (levels_of c.slab.new.self.parts.items)
    slab.front slab.coming slab.column c.as_slice.ensures.value c.as_slice-2.ensures.value c.slab.ensures.tops c.slab.ensures.onward)
    c.as_slice-3.ensures.value c.as_slice-4.ensures.value (ap levels_of c.as_slice-5.ensures.value) c.args.groups.now

pub returns-clause-handed : goal.returns-clause-handed
returns-clause-handed g c z coming column =
    let slab = c.requires.slab in
    let es = c.args.self.now.order.items in
    c.hand_out.ensures.handed
    ∙ ap (fold g.S.CellSink.after (g.S.CellSink.content c.args.sink.now))
    (cut-items c.args.pieces.now z es c.as_slice-3.result.now [] es c.as_slice-4.result.now (levels_of c.slab.new.self.parts.items) (levels_of c.as_slice-5.result.now) coming.place
    (slab-column c.args.pieces.now slab.left z es c.as_slice.result.now c.args.self.now.contacts.items c.as_slice-2.result.now (levels_of c.slab.new.self.parts.items)
    slab.front coming column c.as_slice.ensures.value c.as_slice-2.ensures.value c.slab.ensures.tops c.slab.ensures.onward)
    c.as_slice-3.ensures.value c.as_slice-4.ensures.value (ap levels_of c.as_slice-5.ensures.value) c.args.groups.now false)
