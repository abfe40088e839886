use Rattle.std.proofs.Common.{◌≡◌, ◌∙◌, ◌+◌, ◌++◌, [], ℕ, List, Some, ap, arith, drop, flat_map, length, option_map, refl, slice_get, sym}
use Rattle.byteorder.specs.Endian.{big_bytes}
use Rattle.sf_layers.specs.Content.{LayerContent}
use Rattle.sf_format.specs.Canonical.{layer_bytes, layers_bytes}
use Rattle.sf_saving.proofs.FitLaws.{fits-at}
use Rattle.sf_streams.proofs.Putting.{Putting, Putting-done, Putting-left, Putting-more, Putting-start, breaks, left-at, left-none}
use Rattle.sf_saving.proofs.layers.put_layers.Goals as goal
use Rattle.sf_saving.proofs.layers.put_layers.Goals.{After-unwrap}

-- the layer at the place, with its name
there : (g : _) (c : After-unwrap g) → slice_get c.args.store.now c.loop-place.place ≡ Some (c.unwrap.result.0.now, c.unwrap.result.1.now)
there g c = sym c.layer_at.ensures ∙ ap (option_map (λ entry. (entry.0.now, entry.1.now))) c.unwrap.ensures

-- its bytes are the next ones
next-bytes : (g : _) (c : After-unwrap g)
    → Putting (g.W.Write.contents c.args.writer.now) (g.W.Write.contents c.loop-place.writer) c.args.output.now c.loop-place.output (layers_bytes c.args.store.now)
    (layer_bytes (c.unwrap.result.0.now, c.unwrap.result.1.now) ++ flat_map layer_bytes (drop (c.loop-place.place + 1) c.args.store.now))
next-bytes g c =
    let entry : List ℕ × LayerContent = (c.unwrap.result.0.now, c.unwrap.result.1.now) in
    Putting-left (layer_bytes entry ++ flat_map layer_bytes (drop (c.loop-place.place + 1) c.args.store.now)) (left-at layer_bytes c.args.store.now c.loop-place.place entry (there g c)) c.loop-place.invariant.1

pub returns-in_err-put_u32-clause-broken : goal.returns-in_err-put_u32-clause-broken
returns-in_err-put_u32-clause-broken g c =
    let content = c.args.store.now in
    breaks c.from_residual.result (big_bytes 4 (length content)) (flat_map layer_bytes content) (ap (big_bytes 4) c.layer_count-count.ensures.count)
    (Putting-start (g.W.Write.contents c.args.writer.now) c.args.output.now (layers_bytes content)) c.in_err-put_u32.ensures.broken

pub loop-place-init : goal.loop-place-init
loop-place-init g c =
    let content = c.args.store.now in
    let count = c.layer_count-count.ensures.count in (
      count,
      Putting-more (big_bytes 4 (length content)) (flat_map layer_bytes content) (ap (big_bytes 4) count)
          (Putting-start (g.W.Write.contents c.args.writer.now) c.args.output.now (layers_bytes content)) c.in_ok-put_u32.ensures.ok,
    )

pub put_layer-requires : goal.put_layer-requires
put_layer-requires g c =
    let at = (goal.at.put_layer-requires g c).After-unwrap in
    fits-at c.args.store.now c.layer_count-count.ensures.well_formed c.loop-place.place (c.unwrap.result.0.now, c.unwrap.result.1.now) (there g at)

pub returns-in_err-put_layer-clause-broken : goal.returns-in_err-put_layer-clause-broken
returns-in_err-put_layer-clause-broken g c =
    let at = (goal.at.returns-in_err-put_layer-clause-broken g c).After-unwrap in
    breaks c.from_residual-in_err-put_layer.result (layer_bytes (c.unwrap.result.0.now, c.unwrap.result.1.now)) (flat_map layer_bytes (drop (c.loop-place.place + 1) c.args.store.now)) refl
    (next-bytes g at) c.in_err-put_layer.ensures.broken

pub loop-place-preserved : goal.loop-place-preserved
loop-place-preserved g c =
    let at = (goal.at.loop-place-preserved g c).After-unwrap in (
      c.loop-place.invariant.0,
      Putting-more (layer_bytes (c.unwrap.result.0.now, c.unwrap.result.1.now)) (flat_map layer_bytes (drop (c.loop-place.place + 1) c.args.store.now)) refl (next-bytes g at) c.in_ok-put_layer.ensures.ok,
    )

pub returns-clause-ok : goal.returns-clause-ok
returns-clause-ok g c =
    Putting-done (Putting-left [] (left-none layer_bytes c.args.store.now c.loop-place.place (omega (arith, c.loop-place-test.false, c.loop-place.invariant.0))) c.loop-place.invariant.1)
