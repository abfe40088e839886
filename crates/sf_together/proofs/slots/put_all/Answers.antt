use Rattle.std.proofs.Common.{◌≡◌, ◌∙◌, ◌+◌, ◌-◌, ◌++◌, append_assoc, ap, arith, length, remove, rules, subst, sym}
use Rattle.sf_layers.specs.Content.{has_layer, place_of}
use Rattle.sf_layers.proofs.Places.{length-remove, slice_get-below}
use Rattle.sf_together.specs.Exchanges.{AllThere, layer_slots, puts}
use Rattle.sf_together.proofs.CallLaws.{AllThere-remove, has-there, puts-last}
use Rattle.sf_together.proofs.slots.put_all.Goals as goal

pub unwrap-place-requires : goal.unwrap-place-requires
unwrap-place-requires c =
    let name_is : c.as_str.result.now ≡ c.take_layer-name.result.0 = search rules in
    c.place.ensures.found ∙ ap (has_layer c.args.store.now) name_is
    ∙ has-there c.args.store.now c.loop-left.scratch (c.loop-left.left - 1) c.take_layer-name.result c.loop-left.invariant.2 c.take_layer-name.ensures.taken

pub loop-left-preserved : goal.loop-left-preserved
loop-left-preserved c =
    let name_is : c.as_str.result.now ≡ c.take_layer-name.result.0 = search rules in
    let place_is : c.unwrap-place.result ≡ place_of c.args.store.now c.as_str.result.now = search rules in
    let long : length c.loop-left.scratch ≡ c.loop-left.left - 1 + 1 = omega (arith, c.loop-left.invariant.1, c.loop-left-test.true) in
    let below = slice_get-below c.loop-left.scratch (c.loop-left.left - 1) c.take_layer-name.result c.take_layer-name.ensures.taken in
    let shorter : length (remove c.loop-left.scratch (c.loop-left.left - 1)) + 1 ≡ length c.loop-left.scratch = length-remove c.loop-left.scratch (c.loop-left.left - 1) below in
    let count : length c.take_layer-name.new.self ≡ length (remove c.loop-left.scratch (c.loop-left.left - 1)) = ap length c.take_layer-name.ensures.rest in (
      ap (λ s. s ++ puts c.args.store.now c.take_layer-name.new.self) c.in_ok-put_layer.ensures
          ∙ append_assoc c.loop-left.slots.items (layer_slots c.unwrap-place.result c.take_layer-name.result.1) (puts c.args.store.now c.take_layer-name.new.self)
          ∙ ap (λ p. c.loop-left.slots.items ++ (layer_slots p c.take_layer-name.result.1 ++ puts c.args.store.now c.take_layer-name.new.self)) (place_is ∙ ap (place_of c.args.store.now) name_is)
          ∙ ap (λ r. c.loop-left.slots.items ++ (layer_slots (place_of c.args.store.now c.take_layer-name.result.0) c.take_layer-name.result.1 ++ puts c.args.store.now r)) c.take_layer-name.ensures.rest
          ∙ ap (λ s. c.loop-left.slots.items ++ s) (puts-last c.args.store.now c.loop-left.scratch (c.loop-left.left - 1) c.take_layer-name.result c.take_layer-name.ensures.taken long)
          ∙ c.loop-left.invariant.0,
      omega (arith, count, shorter, long),
      subst (AllThere c.args.store.now) (sym c.take_layer-name.ensures.rest) (AllThere-remove c.args.store.now c.loop-left.scratch (c.loop-left.left - 1) c.loop-left.invariant.2),
    )
