use Rattle.std.proofs.Common.{ℕ, List, ◌∙◌, ap, sym}
use Rattle.sf_layers.specs.Content.{has_layer}
use Rattle.sf_format.specs.declared.defect.Defect.TheVariants.{LayerExists}
use Rattle.sf_format.specs.Format.{allowed, fresh_layer_name, name}
use Rattle.sf_loading.proofs.StreamLaws.{Gives-ruled}
use Rattle.sf_loading.proofs.TextLaws.{free-test}
use Rattle.sf_loading.proofs.texts.layer_name.Goals as goal

pub returns : goal.returns
returns g c =
    let text = c.in_ok-name.name in
    let free = c.is_none-free.result in
    let taken = ap (λ (t : List ℕ). has_layer c.args.store.now t) (sym c.as_str.ensures) ∙ sym c.place.ensures.found ∙ c.is_none-free.ensures in
    Gives-ruled (λ t. t) name (fresh_layer_name c.args.store.now) text (allowed free LayerExists text) c.place-place.result c.allowed.result _ _ _ _ c.place-place.ensures c.in_ok-name.ensures
    (ap (λ t. allowed t LayerExists text) (free-test free ((λ (t : List ℕ). has_layer c.args.store.now t) text) taken)) c.allowed.ensures
