use Rattle.std.proofs.Common.{rules, ◌≡◌, ◌<◌, ◌-◌, ◌∙◌, ℕ, suc, true, false, length, sym, subst, arith, slice_set}
use Rattle.std.specs.Vec.{vec_len}
use Rattle.sf_patches.specs.Patches.{before, grows, with_slot}
use Rattle.sf_patches.proofs.ExchangeLaws.{IsPartly, IsPartly-length, IsPartly-next, IsNext, IsNext-at, IsNext-kept, fine-next, grows-next, IsToTakeBack, IsToTakeBack-grown, IsToTakeBack-less, IsLast, IsLast-at, CanTakeBack, CanTakeBack-last, then-ok, else-err, ok-unless, ok-then}
use Rattle.sf_patches.proofs.exchanging.exchange_in_place.Goals as goal
use Rattle.sf_patches.proofs.exchanging.exchange_in_place.Goals.{After-index_mut, After-index_mut-in-loop-done}

pub index_mut-requires : goal.index_mut-requires
index_mut-requires c =
    let size : c.len-count.result ≡ length c.args.slots.now.items = search rules in
    let here : vec_len c.loop-has_room.slots ≡ length c.loop-has_room.slots.items = search rules in
    omega (arith, size, here, c.if-done-count.true, IsPartly-length c.args.store.now c.args.slots.now.items c.loop-has_room.done c.loop-has_room.store c.loop-has_room.slots.items c.loop-has_room.invariant.0)

next : (c : goal.After-index_mut) → IsNext c.args.store.now c.args.slots.now.items c.loop-has_room.done c.loop-has_room.store c.loop-has_room.slots.items c.index_mut.result.now
next c =
    let size : c.len-count.result ≡ length c.args.slots.now.items = search rules in
    IsNext-at c.args.store.now c.args.slots.now.items c.loop-has_room.done c.loop-has_room.store c.loop-has_room.slots.items c.index_mut.result.now c.loop-has_room.invariant.0
    (omega (arith, size, c.if-done-count.true)) c.index_mut.ensures.value

pub swap-requires-clause-there : goal.swap-requires-clause-there
swap-requires-clause-there c =
    (fine-next c.args.store.now c.args.slots.now.items c.loop-has_room.done c.loop-has_room.store c.loop-has_room.slots.items c.index_mut.result.now (next c) c.requires.fine).0

pub swap-requires-clause-fits : goal.swap-requires-clause-fits
swap-requires-clause-fits c =
    (fine-next c.args.store.now c.args.slots.now.items c.loop-has_room.done c.loop-has_room.store c.loop-has_room.slots.items c.index_mut.result.now (next c) c.requires.fine).1

pub loop-has_room-preserved-then-is_ok : goal.loop-has_room-preserved-then-is_ok
loop-has_room-preserved-then-is_ok c =
    let x = next ((goal.at.loop-has_room-preserved-then-is_ok c).After-index_mut) in
    let made : c.swap.new.store ≡ with_slot c.index_mut.result.now c.loop-has_room.store = then-ok c.swap.result (sym c.is_ok.ensures.value ∙ c.if-is_ok.true) c.swap.ensures.exchanged in
    let back : c.swap.new.slot ≡ before c.loop-has_room.store c.index_mut.result.now = then-ok c.swap.result (sym c.is_ok.ensures.value ∙ c.if-is_ok.true) c.swap.ensures.back in (
      IsPartly-next c.args.store.now c.args.slots.now.items c.loop-has_room.done c.loop-has_room.store c.loop-has_room.slots.items c.index_mut.result.now c.swap.new.slot c.swap.new.store x made back,
      omega (arith, c.if-done-count.true),
      λ no. let h : true ≡ false = sym c.loop-has_room-test.true ∙ no in cc,
      λ no none. let h : true ≡ false = sym c.loop-has_room-test.true ∙ no in cc,
    )

pub loop-has_room-preserved : goal.loop-has_room-preserved
loop-has_room-preserved c =
    let x = next ((goal.at.loop-has_room-preserved c).After-index_mut) in
    let no = sym c.is_ok.ensures.value ∙ c.if-is_ok.false in
    let store_is : c.swap.new.store ≡ c.loop-has_room.store = else-err c.swap.result no c.swap.ensures.unchanged in
    let slot_is : c.swap.new.slot ≡ c.index_mut.result.now = else-err c.swap.result no c.swap.ensures.kept in
    let slots_are = IsNext-kept c.args.store.now c.args.slots.now.items c.loop-has_room.done c.loop-has_room.store c.loop-has_room.slots.items c.index_mut.result.now c.swap.new.slot x slot_is in (
      subst (λ m. IsPartly c.args.store.now c.args.slots.now.items c.loop-has_room.done m (slice_set c.loop-has_room.slots.items c.loop-has_room.done c.swap.new.slot)) (sym store_is)
          (subst (IsPartly c.args.store.now c.args.slots.now.items c.loop-has_room.done c.loop-has_room.store) (sym slots_are) c.loop-has_room.invariant.0),
      c.loop-has_room.invariant.1,
      λ same. subst (λ m. IsToTakeBack c.args.store.now c.args.slots.now.items c.loop-has_room.done m (slice_set c.loop-has_room.slots.items c.loop-has_room.done c.swap.new.slot)) (sym store_is)
          (subst (IsToTakeBack c.args.store.now c.args.slots.now.items c.loop-has_room.done c.loop-has_room.store) (sym slots_are)
          (IsToTakeBack-grown c.args.store.now c.args.slots.now.items c.loop-has_room.done c.loop-has_room.store c.loop-has_room.slots.items c.index_mut.result.now x c.requires.first
          (else-err c.swap.result no c.swap.ensures.grew))),
      λ same none.
          let grew : grows c.loop-has_room.store c.index_mut.result.now ≡ true = else-err c.swap.result no c.swap.ensures.grew in
          let not : grows c.loop-has_room.store c.index_mut.result.now ≡ false =
          grows-next c.args.store.now c.args.slots.now.items c.loop-has_room.done c.loop-has_room.store c.loop-has_room.slots.items c.index_mut.result.now x none in
          let clash : true ≡ false = sym grew ∙ not in cc,
    )

pub loop-done-init : goal.loop-done-init
loop-done-init c = (c.loop-has_room.invariant.2 c.if-has_room.false, c.loop-has_room.invariant.1)

pub index_mut-requires-in-loop-done : goal.index_mut-requires-in-loop-done
index_mut-requires-in-loop-done c =
    let size : c.len-count.result ≡ length c.args.slots.now.items = search rules in
    let here : vec_len c.loop-done.slots ≡ length c.loop-done.slots.items = search rules in
    omega (arith, size, here, c.loop-done-test.true, c.loop-done.invariant.1, IsPartly-length c.args.store.now c.args.slots.now.items c.loop-done.done c.loop-done.store c.loop-done.slots.items c.loop-done.invariant.0.partly)

one_less : (n : ℕ) → 0 < n → n ≡ suc (n - 1)
one_less n h = omega (arith, h)

last : (c : goal.After-index_mut-in-loop-done) → IsLast c.args.store.now c.args.slots.now.items (c.loop-done.done - 1) c.loop-done.store c.loop-done.slots.items c.index_mut-in-loop-done.result.now
last c =
    IsLast-at c.args.store.now c.args.slots.now.items (c.loop-done.done - 1) c.loop-done.store c.loop-done.slots.items c.index_mut-in-loop-done.result.now
    (subst (λ n. IsToTakeBack c.args.store.now c.args.slots.now.items n c.loop-done.store c.loop-done.slots.items) (one_less c.loop-done.done c.loop-done-test.true) c.loop-done.invariant.0)
    c.index_mut-in-loop-done.ensures.value

can : (c : goal.After-index_mut-in-loop-done) → CanTakeBack c.loop-done.store c.index_mut-in-loop-done.result.now
can c = CanTakeBack-last c.args.store.now c.args.slots.now.items (c.loop-done.done - 1) c.loop-done.store c.loop-done.slots.items c.index_mut-in-loop-done.result.now (last c) c.requires

pub swap-requires-in-loop-done-clause-there : goal.swap-requires-in-loop-done-clause-there
swap-requires-in-loop-done-clause-there c = (can c).is_there

pub swap-requires-in-loop-done-clause-fits : goal.swap-requires-in-loop-done-clause-fits
swap-requires-in-loop-done-clause-fits c = (can c).fits

pub unwrap-requires : goal.unwrap-requires
unwrap-requires c =
    let h = can ((goal.at.unwrap-requires c).After-index_mut-in-loop-done) in
    ok-unless c.swap-in-loop-done.result (grows c.loop-done.store c.index_mut-in-loop-done.result.now) c.swap-in-loop-done.ensures.grew h.grows_not

pub loop-done-preserved : goal.loop-done-preserved
loop-done-preserved c =
    let d = (goal.at.loop-done-preserved c).After-index_mut-in-loop-done in
    let h = can d in
    let is_ok = ok-unless c.swap-in-loop-done.result (grows c.loop-done.store c.index_mut-in-loop-done.result.now) c.swap-in-loop-done.ensures.grew h.grows_not in (
      IsToTakeBack-less c.args.store.now c.args.slots.now.items (c.loop-done.done - 1) c.loop-done.store c.loop-done.slots.items c.index_mut-in-loop-done.result.now c.swap-in-loop-done.new.slot c.swap-in-loop-done.new.store
          (last d) c.requires (ok-then c.swap-in-loop-done.result is_ok c.swap-in-loop-done.ensures.exchanged) (ok-then c.swap-in-loop-done.result is_ok c.swap-in-loop-done.ensures.back),
      omega (arith, c.loop-done.invariant.1),
    )
