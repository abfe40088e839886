use Rattle.std.proofs.Common.{refl, ◌+◌, ◌<◌, ◌≤◌, ap, sym, subst, arith, Some, length, rules}
use Rattle.sf_strips.specs.Parts.{levels_of}
use Rattle.sf_strips.proofs.AloneLaws.{alone_count-le, contacts-kept}
use Rattle.sf_strips.proofs.ContactLaws.{apart-at_most, apart-drop, apart-few}
use Rattle.sf_strips.proofs.CutLaws.{IsWhole, Turn, cut-nothing, cut-whole, empty, no_more, one_more, room-left, top-some, top-within, turn-alone, turn-level}
use Rattle.sf_strips.specs.Vertices.{begins, pieces_with}
use Rattle.sf_strips.proofs.OnwardLaws.{begun-split}
use Rattle.sf_strips.proofs.cut.Cut.column.Goals as goal
use Rattle.sf_strips.proofs.cut.Cut.column.Goals.{else-not-is_empty+then-not-is_empty-2, then-not-is_empty}

pub loop-edges-init : goal.loop-edges-init
loop-edges-init c =
    record {
      cut = cut-nothing _ _ _ _ _ _ c.clear-2.ensures.items (ap levels_of c.clear.ensures.items);
      contacts = search rules;
      apart = search rules;
      room = search rules;
      order_room = search rules;
      capacity = search rules;
      order_capacity = search rules;
      contacts_capacity = search rules;
      segment_capacity = search rules;
    }

-- ---- a turn that takes the edges that stand alone
pub split_at-requires : goal.split_at-requires
split_at-requires c =
    subst (λ n. n ≤ length c.loop-edges.edges.now) (sym c.alone_len-alone.ensures)
    (alone_count-le (Some c.args.x.now) c.loop-edges.edges.now c.loop-edges.contacts.now c.loop-edges.vertices.now)

pub split_at-requires-then-alone-gt0 : goal.split_at-requires-then-alone-gt0
split_at-requires-then-alone-gt0 c =
    omega (arith, apart-few c.args.x.now c.loop-edges.edges.now c.loop-edges.contacts.now c.loop-edges.invariant.apart, c.split_at.ensures.back_len)

pub push_alone-requires-clause-kept : goal.push_alone-requires-clause-kept
push_alone-requires-clause-kept c =
    contacts-kept c.args.x.now c.alone_len-alone.result _ c.loop-edges.edges.now _ c.loop-edges.contacts.now _ c.loop-edges.vertices.now
    c.loop-edges.invariant.apart c.alone_len-alone.ensures c.if-alone-gt0.true refl c.split_at.ensures.front c.split_at-then-alone-gt0.ensures.front

pub loop-edges-preserved-then-alone-gt0 : goal.loop-edges-preserved-then-alone-gt0
loop-edges-preserved-then-alone-gt0 c =
    record {
      cut =
          turn-alone (Some c.args.x.now) c.alone_len-alone.result _ _ _ _ _ _ _ _ _ _ _ _ _
          c.alone_len-alone.ensures c.split_at.ensures.front c.split_at.ensures.front_len c.split_at.ensures.back c.skip-contacts.ensures
          c.push_alone.ensures.order c.push_alone.ensures.parts c.loop-edges.invariant.cut;
      contacts = c.push_alone.ensures.contacts;
      apart = apart-drop _ c.alone_len-alone.result _ _ _ _ c.loop-edges.invariant.apart c.split_at.ensures.back c.skip-contacts.ensures;
      room = omega (arith, c.push_alone.ensures.len, c.split_at.ensures.back_len, c.if-alone-gt0.true, c.loop-edges.invariant.room);
      order_room = omega (arith, c.push_alone.ensures.order_len, c.split_at.ensures.back_len, c.split_at.ensures.front_len, c.loop-edges.invariant.order_room);
      capacity = search rules;
      order_capacity = search rules;
      contacts_capacity = search rules;
      segment_capacity = search rules;
    }

-- ---- a turn that takes the highest level
pub top-top-requires : goal.top-top-requires
top-top-requires c = record { few = omega (arith, apart-few c.args.x.now c.loop-edges.edges.now c.loop-edges.contacts.now c.loop-edges.invariant.apart) }

pub split_at-requires-else-alone-gt0 : goal.split_at-requires-else-alone-gt0
split_at-requires-else-alone-gt0 c =
    (top-within (Some c.args.x.now) c.loop-edges.edges.now c.loop-edges.contacts.now c.loop-edges.vertices.now c.top-top.result
    (apart-at_most c.args.x.now c.loop-edges.edges.now c.loop-edges.contacts.now c.loop-edges.invariant.apart) c.top-top.ensures).edges

pub split_at-requires-else-alone-gt0-2 : goal.split_at-requires-else-alone-gt0-2
split_at-requires-else-alone-gt0-2 c =
    (top-within (Some c.args.x.now) c.loop-edges.edges.now c.loop-edges.contacts.now c.loop-edges.vertices.now c.top-top.result
    (apart-at_most c.args.x.now c.loop-edges.edges.now c.loop-edges.contacts.now c.loop-edges.invariant.apart) c.top-top.ensures).vertices

some_left : (c : goal.After-skip-contacts-else-alone-gt0) → 0 < length c.loop-edges.edges.now + length c.loop-edges.vertices.now
some_left c =
    elim c.if-not-is_empty.branch [
      | then-not-is_empty w ↦ search rules
      | else-not-is_empty+then-not-is_empty-2 w ↦ search rules
    ]

turn : (c : goal.After-skip-contacts-else-alone-gt0) →
    Turn (Some c.args.x.now) c.loop-edges.edges.now c.split_at-else-alone-gt0.result.1.now
    c.loop-edges.contacts.now c.skip-contacts-else-alone-gt0.result.now c.loop-edges.vertices.now c.split_at-else-alone-gt0-2.result.1.now
    c.loop-edges.self.order.items c.push_level.new.self.order.items c.loop-edges.self.parts.items c.push_level.new.self.parts.items
    c.top-top.result c.split_at-else-alone-gt0.result.0.now c.split_at-else-alone-gt0-2.result.0.now
turn c =
    record {
      top_is = c.top-top.ensures;
      some = some_left c;
      few = apart-at_most c.args.x.now c.loop-edges.edges.now c.loop-edges.contacts.now c.loop-edges.invariant.apart;
      run_is = c.split_at-else-alone-gt0.ensures.front;
      run_len = c.split_at-else-alone-gt0.ensures.front_len;
      edges = c.split_at-else-alone-gt0.ensures.back;
      contacts = c.skip-contacts-else-alone-gt0.ensures;
      group_is = c.split_at-else-alone-gt0-2.ensures.front;
      group_len = c.split_at-else-alone-gt0-2.ensures.front_len;
      vertices = c.split_at-else-alone-gt0-2.ensures.back;
      pushed = c.push_level.ensures.pushed;
    }

pub push_level-requires-clause-room : goal.push_level-requires-clause-room
push_level-requires-clause-room c =
    let i = c.loop-edges.invariant in
    let run = c.split_at-else-alone-gt0.ensures in
    let begun = begun-split c.top-top.result.vertices _ _ _ c.split_at-else-alone-gt0-2.ensures.front c.split_at-else-alone-gt0-2.ensures.back in
    let left : 0 < length c.loop-edges.edges.now + length c.loop-edges.vertices.now =
    elim c.if-not-is_empty.branch [
      | then-not-is_empty w ↦ search rules
      | else-not-is_empty+then-not-is_empty-2 w ↦ search rules
    ] in
    record {
      parts = omega (arith, left, i.room, i.capacity, c.requires.room.parts);
      order = omega (arith, begun, run.front_len, run.back_len, i.order_room, i.order_capacity, c.requires.room.order);
      contacts = omega (arith, begun, run.front_len, run.back_len, i.order_room, i.contacts_capacity, c.requires.room.contacts);
      segment = omega (arith, begun, run.front_len, run.back_len, i.order_room, i.segment_capacity, c.requires.room.segment);
    }

some_taken : (c : goal.After-skip-contacts-else-alone-gt0) → 0 < c.top-top.result.edges + c.top-top.result.vertices
some_taken c =
    subst (λ l. 0 < l.edges + l.vertices) (sym c.top-top.ensures)
    (top-some (Some c.args.x.now) c.loop-edges.edges.now c.loop-edges.contacts.now c.loop-edges.vertices.now (some_left c))

pub loop-edges-preserved : goal.loop-edges-preserved
loop-edges-preserved c =
    record {
      cut = turn-level _ _ _ _ _ _ _ _ _ _ _ _ _ _ _ _ _ (turn c) c.loop-edges.invariant.cut;
      contacts = c.push_level.ensures.contacts;
      apart = apart-drop _ c.top-top.result.edges _ _ _ _ c.loop-edges.invariant.apart c.split_at-else-alone-gt0.ensures.back c.skip-contacts-else-alone-gt0.ensures;
      room =
          room-left _ _ _ _ _ _ c.top-top.result.edges c.top-top.result.vertices _
          (one_more _ _ c.top-top.result.edges c.top-top.result.vertices c.push_level.ensures.len (some_taken c))
          c.split_at-else-alone-gt0.ensures.back_len c.split_at-else-alone-gt0-2.ensures.back_len c.loop-edges.invariant.room;
      order_room =
          room-left _ _ _ _ _ _ c.top-top.result.edges (length (pieces_with begins c.split_at-else-alone-gt0-2.result.0.now)) _
          (no_more _ _ c.top-top.result.edges _ _ _ c.push_level.ensures.order_len c.split_at-else-alone-gt0.ensures.front_len refl)
          c.split_at-else-alone-gt0.ensures.back_len
          (begun-split c.top-top.result.vertices _ _ _ c.split_at-else-alone-gt0-2.ensures.front c.split_at-else-alone-gt0-2.ensures.back) c.loop-edges.invariant.order_room;
      capacity = search rules;
      order_capacity = search rules;
      contacts_capacity = search rules;
      segment_capacity = search rules;
    }

-- ---- nothing is left
whole : (c : goal.Else-not-is_empty-2) →
    IsWhole (Some c.args.x.now) c.args.edges.now c.args.contacts.now c.args.vertices.now c.loop-edges.self.order.items (levels_of c.loop-edges.self.parts.items)
whole c = cut-whole _ _ _ _ _ _ _ _ _ (empty c.loop-edges.edges.now (search rules)) (empty c.loop-edges.vertices.now (search rules)) c.loop-edges.invariant.cut

pub returns-clause-tops : goal.returns-clause-tops
returns-clause-tops c = (whole c).tops

pub returns-clause-onward : goal.returns-clause-onward
returns-clause-onward c = (whole c).onward

pub returns-clause-all : goal.returns-clause-all
returns-clause-all c = (whole c).all
