use Rattle.std.proofs.Common.{◌≡◌, ◌∙◌, ◌++◌, Some, ap, arith, map, rules, slice_get, sym, take}
use Rattle.sf_layers.specs.Content.{place_of}
use Rattle.sf_layers.proofs.Places.{slice_get-below}
use Rattle.sf_together.specs.Exchanges.{key_at, keys_in}
use Rattle.sf_together.proofs.CallLaws.{has-there, keys-more}
use Rattle.sf_together.proofs.removals.keys_of.Goals as goal

pub unwrap-place-requires : goal.unwrap-place-requires
unwrap-place-requires c =
    let there : slice_get c.args.scratch.now c.loop-part.part ≡ Some (c.unwrap.result.0.now, c.unwrap.result.1.now) = search rules in
    c.place.ensures.found ∙ has-there c.args.store.now c.args.scratch.now c.loop-part.part (c.unwrap.result.0.now, c.unwrap.result.1.now) c.requires there

pub loop-part-preserved : goal.loop-part-preserved
loop-part-preserved c =
    let there : slice_get c.args.scratch.now c.loop-part.part ≡ Some (c.unwrap.result.0.now, c.unwrap.result.1.now) = search rules in
    let place_is : c.unwrap-place.result ≡ place_of c.args.store.now c.unwrap.result.0.now = search rules in (
      c.in_ok-push_keys.ensures ∙ ap (λ ks. ks ++ map (key_at c.unwrap-place.result) c.unwrap.result.1.now.features) c.loop-part.invariant.0
          ∙ ap (λ p. keys_in c.args.store.now (take c.loop-part.part c.args.scratch.now) ++ map (key_at p) c.unwrap.result.1.now.features) place_is
          ∙ sym (keys-more c.args.store.now c.args.scratch.now c.loop-part.part (c.unwrap.result.0.now, c.unwrap.result.1.now) there),
      omega (arith, slice_get-below c.args.scratch.now c.loop-part.part (c.unwrap.result.0.now, c.unwrap.result.1.now) there),
    )
