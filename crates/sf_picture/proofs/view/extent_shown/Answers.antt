use Rattle.std.proofs.Common.{◌≡◌, ◌∙◌, ◌+◌, ℕ, List, Some, ap, drop, option_map, slice_get, sym}
use Rattle.sf_layers.specs.Content.{LayerContent}
use Rattle.sf_picture.specs.Views.{shown_boxes, shown_extent, united_all}
use Rattle.sf_picture.proofs.Frames.{united-hidden, united-shown}
use Rattle.sf_picture.proofs.view.extent_shown.Goals as goal
use Rattle.sf_picture.proofs.view.extent_shown.Goals.{After-unwrap, then-shows_layer, else-shows_layer}

-- the layer at the place, with its name
there : (c : After-unwrap) → slice_get c.args.store.now c.loop-place.place ≡ Some (c.unwrap.result.0.now, c.unwrap.result.1.now)
there c = sym c.layer_at.ensures ∙ ap (option_map (λ entry. (entry.0.now, entry.1.now))) c.unwrap.ensures

pub loop-place-preserved : goal.loop-place-preserved
loop-place-preserved c =
    let entry : List ℕ × LayerContent = (c.unwrap.result.0.now, c.unwrap.result.1.now) in
    let at = (goal.at.loop-place-preserved c).After-unwrap in
    let whole = shown_extent c.args.choice.now c.args.store.now in
    elim c.if-shows_layer.branch [
      | then-shows_layer w ↦
          united-shown c.args.choice.now c.args.store.now c.loop-place.place entry c.loop-place.extent c.if-shows_layer.extent whole (there at)
          (sym c.shows_layer.ensures ∙ w.if-shows_layer.true) (w.extent-is ∙ w.with_layer-extent.ensures) c.loop-place.invariant
      | else-shows_layer w ↦
          ap (λ extent. united_all extent (shown_boxes c.args.choice.now (drop (c.loop-place.place + 1) c.args.store.now))) w.extent-is
          ∙ united-hidden c.args.choice.now c.args.store.now c.loop-place.place entry c.loop-place.extent whole (there at)
          (sym c.shows_layer.ensures ∙ w.if-shows_layer.false) c.loop-place.invariant
    ]
