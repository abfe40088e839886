use Rattle.std.proofs.Common.{◌≡◌, ◌∙◌, ◌+◌, ◌++◌, [], ℕ, List, Some, ap, arith, drop, option_map, refl, slice_get, sym}
use Rattle.sf_layers.specs.Content.{LayerContent}
use Rattle.sf_picture.specs.Pictures.{layer_text, layers_text}
use Rattle.sf_picture.proofs.Texts.{layers-at, layers-none}
use Rattle.sf_streams.proofs.Putting.{Putting, Putting-done, Putting-left, Putting-more, Putting-start, breaks}
use Rattle.sf_picture.proofs.layers.put_layers.Goals as goal
use Rattle.sf_picture.proofs.layers.put_layers.Goals.{After-unwrap}

-- the layer at the place, with its name
there : (g : _) (c : After-unwrap g) → slice_get c.args.store.now c.loop-place.place ≡ Some (c.unwrap.result.0.now, c.unwrap.result.1.now)
there g c = sym c.layer_at.ensures ∙ ap (option_map (λ entry. (entry.0.now, entry.1.now))) c.unwrap.ensures

-- its text is the next one
next-text : (g : _) (c : After-unwrap g)
    → Putting (g.W.Write.contents c.args.writer.now) (g.W.Write.contents c.loop-place.writer) c.args.output.now c.loop-place.output (layers_text c.args.choice.now c.args.view.now 0 c.args.store.now)
    (layer_text c.args.choice.now c.args.view.now c.loop-place.place (c.unwrap.result.0.now, c.unwrap.result.1.now)
    ++ layers_text c.args.choice.now c.args.view.now (c.loop-place.place + 1) (drop (c.loop-place.place + 1) c.args.store.now))
next-text g c =
    let entry : List ℕ × LayerContent = (c.unwrap.result.0.now, c.unwrap.result.1.now) in
    let later = layers_text c.args.choice.now c.args.view.now (c.loop-place.place + 1) (drop (c.loop-place.place + 1) c.args.store.now) in
    Putting-left (layer_text c.args.choice.now c.args.view.now c.loop-place.place entry ++ later) (layers-at c.args.choice.now c.args.view.now c.args.store.now c.loop-place.place entry (there g c)) c.loop-place.invariant

pub loop-place-init : goal.loop-place-init
loop-place-init g c = Putting-start (g.W.Write.contents c.args.writer.now) c.args.output.now (layers_text c.args.choice.now c.args.view.now 0 c.args.store.now)

pub returns-in_err-put_layer-clause-broken : goal.returns-in_err-put_layer-clause-broken
returns-in_err-put_layer-clause-broken g c =
    let at = (goal.at.returns-in_err-put_layer-clause-broken g c).After-unwrap in
    breaks c.from_residual.result (layer_text c.args.choice.now c.args.view.now c.loop-place.place (c.unwrap.result.0.now, c.unwrap.result.1.now))
    (layers_text c.args.choice.now c.args.view.now (c.loop-place.place + 1) (drop (c.loop-place.place + 1) c.args.store.now)) refl (next-text g at) c.in_err-put_layer.ensures.broken

pub loop-place-preserved : goal.loop-place-preserved
loop-place-preserved g c =
    let at = (goal.at.loop-place-preserved g c).After-unwrap in
    Putting-more (layer_text c.args.choice.now c.args.view.now c.loop-place.place (c.unwrap.result.0.now, c.unwrap.result.1.now))
    (layers_text c.args.choice.now c.args.view.now (c.loop-place.place + 1) (drop (c.loop-place.place + 1) c.args.store.now)) refl (next-text g at) c.in_ok-put_layer.ensures.ok

pub returns-clause-ok : goal.returns-clause-ok
returns-clause-ok g c =
    Putting-done (Putting-left [] (layers-none c.args.choice.now c.args.view.now c.args.store.now c.loop-place.place (omega (arith, c.loop-place-test.false, c.layer_count-place-end.ensures.count))) c.loop-place.invariant)
