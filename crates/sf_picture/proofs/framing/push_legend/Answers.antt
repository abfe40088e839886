use Rattle.std.proofs.Common.{◌≡◌, ◌∙◌, ◌+◌, ◌++◌, ℕ, List, Some, ap, arith, drop, option_map, slice_get, string_bytes, sym}
use Rattle.sf_layers.specs.Content.{LayerContent}
use Rattle.sf_picture.specs.Pictures.{legend_rows}
use Rattle.sf_picture.proofs.Texts.{legend-hidden, legend-shown}
use Rattle.sf_picture.proofs.framing.push_legend.Goals as goal
use Rattle.sf_picture.proofs.framing.push_legend.Goals.{After-unwrap, then-shows_layer+in_ok-push_legend_row, else-shows_layer}

-- the layer at the place, with its name
there : (c : After-unwrap) → slice_get c.args.store.now c.loop-place.place ≡ Some (c.unwrap.result.0.now, c.unwrap.result.1.now)
there c = sym c.layer_at.ensures ∙ ap (option_map (λ entry. (entry.0.now, entry.1.now))) c.unwrap.ensures

pub loop-place-preserved : goal.loop-place-preserved
loop-place-preserved c =
    let entry : List ℕ × LayerContent = (c.unwrap.result.0.now, c.unwrap.result.1.now) in
    let at = (goal.at.loop-place-preserved c).After-unwrap in
    let choice = c.args.choice.now in
    let content = c.args.store.now in
    let place = c.loop-place.place in
    let later = drop (place + 1) content in
    elim c.if-shows_layer.branch [
      | then-shows_layer+in_ok-push_legend_row w ↦ (
        omega (arith, w.top-is, c.loop-place.invariant.0),
        ap (λ t. string_bytes t ++ legend_rows choice c.if-shows_layer.top (place + 1) later) w.text-is
            ∙ ap (λ (n : ℕ). string_bytes w.push_legend_row.new.text ++ legend_rows choice n (place + 1) later) w.top-is
            ∙ legend-shown choice content c.loop-place.top place entry (string_bytes c.loop-place.text) (string_bytes w.push_legend_row.new.text) _ (there at)
            (sym c.shows_layer.ensures ∙ w.if-shows_layer.true) w.in_ok-push_legend_row.ensures c.loop-place.invariant.1,
      )
      | else-shows_layer w ↦ (
        omega (arith, w.top-is, c.loop-place.invariant.0),
        ap (λ t. string_bytes t ++ legend_rows choice c.if-shows_layer.top (place + 1) later) w.text-is
            ∙ ap (λ (n : ℕ). string_bytes c.loop-place.text ++ legend_rows choice n (place + 1) later) w.top-is
            ∙ legend-hidden choice content c.loop-place.top place entry (string_bytes c.loop-place.text) _ (there at) (sym c.shows_layer.ensures ∙ w.if-shows_layer.false) c.loop-place.invariant.1,
      )
    ]
