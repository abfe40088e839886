use Rattle.std.proofs.Common.{◌≡◌, ◌∙◌, ◌+◌, ℕ, List, Some, ap, arith, option_map, refl, slice_get, sym}
use Rattle.sf_layers.specs.Content.{LayerContent}
use Rattle.sf_picture.proofs.Views.{shown-all, shown-more, shown-same}
use Rattle.sf_picture.proofs.view.layers_shown.Goals as goal
use Rattle.sf_picture.proofs.view.layers_shown.Goals.{After-unwrap, then-shows_layer, else-shows_layer}

-- the layer at the place, with its name
there : (c : After-unwrap) → slice_get c.args.store.now c.loop-place.place ≡ Some (c.unwrap.result.0.now, c.unwrap.result.1.now)
there c = sym c.layer_at.ensures ∙ ap (option_map (λ entry. (entry.0.now, entry.1.now))) c.unwrap.ensures

pub loop-place-init : goal.loop-place-init
loop-place-init c = (omega arith, refl)

pub loop-place-preserved : goal.loop-place-preserved
loop-place-preserved c =
    let entry : List ℕ × LayerContent = (c.unwrap.result.0.now, c.unwrap.result.1.now) in
    let at = (goal.at.loop-place-preserved c).After-unwrap in
    elim c.if-shows_layer.branch [
      | then-shows_layer w ↦ (
        omega (arith, w.shown-is, c.loop-place.invariant.0),
        w.shown-is ∙ ap (λ (n : ℕ). n + 1) c.loop-place.invariant.1
            ∙ sym (shown-more c.args.choice.now c.args.store.now c.loop-place.place entry (there at) (sym c.shows_layer.ensures ∙ w.if-shows_layer.true)),
      )
      | else-shows_layer w ↦ (
        omega (arith, w.shown-is, c.loop-place.invariant.0),
        w.shown-is ∙ c.loop-place.invariant.1
            ∙ sym (shown-same c.args.choice.now c.args.store.now c.loop-place.place entry (there at) (sym c.shows_layer.ensures ∙ w.if-shows_layer.false)),
      )
    ]

pub returns-clause-value : goal.returns-clause-value
returns-clause-value c =
    c.loop-place.invariant.1 ∙ shown-all c.args.choice.now c.args.store.now c.loop-place.place (omega (arith, c.loop-place-test.false, c.layer_count-place-end.ensures.count))
