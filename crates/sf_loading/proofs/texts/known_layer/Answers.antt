use Rattle.std.proofs.Common.{◌∙◌, ℕ, List, ap, sym}
use Rattle.sf_layers.specs.Content.{has_layer}
use Rattle.sf_format.specs.declared.defect.Defect.TheVariants.{NoLayer}
use Rattle.sf_format.specs.Format.{allowed, known_layer_name, name}
use Rattle.sf_loading.proofs.StreamLaws.{Gives-ruled}
use Rattle.sf_loading.proofs.texts.known_layer.Goals as goal

pub returns : goal.returns
returns g c =
    let text = c.in_ok-name.name in
    let content = c.args.store.now in
    let known = c.is_some-known.result in
    Gives-ruled (λ t. t) name (known_layer_name content) text (allowed known NoLayer text) c.place-place.result c.allowed.result _ _ _ _ c.place-place.ensures c.in_ok-name.ensures
    (ap (λ t. allowed t NoLayer text) (ap (λ (t : List ℕ). has_layer content t) (sym c.as_str.ensures) ∙ sym c.place.ensures.found ∙ sym c.is_some-known.ensures)) c.allowed.ensures
