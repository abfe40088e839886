use Rattle.std.proofs.Common.{◌≡◌, ◌∙◌, ℕ, List, None, Option, Some, ap, option_map, sym}
use Rattle.sf_features.specs.declared.column_type.ColumnType.{ColumnType}
use Rattle.sf_layers.specs.Content.{LayerContent, layer_of}
use Rattle.sf_format.specs.declared.defect.Defect.TheVariants.{NoColumn}
use Rattle.sf_format.specs.Format.{known_column, name, present, type_in}
use Rattle.sf_loading.proofs.StreamLaws.{Finds-field, Takes-field}
use Rattle.sf_loading.proofs.texts.known_column.Goals as goal

pub returns-in-Some : goal.returns-in-Some
returns-in-Some g c =
    let text = c.in_ok-name.name in
    let content = c.args.store.now in
    let layer = c.args.layer.now in
    let t = c.in-Some.column_type in
    let known : type_in (layer_of content layer) text ≡ Some t =
    ap (λ (n : List ℕ). type_in (layer_of content layer) n) (sym c.as_str.ensures) ∙ ap (λ (o : Option LayerContent). type_in o c.as_str.result.now) (sym c.layer.ensures.found)
    ∙ sym c.type_in.ensures ∙ c.in-Some.is in
    Takes-field name (known_column content layer) text (text, t) _ _ _ _ (ap (λ (o : Option ColumnType). present (option_map (λ column_type. (text, column_type)) o) NoColumn) known) c.in_ok-name.ensures

pub returns-in-None : goal.returns-in-None
returns-in-None g c =
    let text = c.in_ok-name.name in
    let content = c.args.store.now in
    let layer = c.args.layer.now in
    let unknown : type_in (layer_of content layer) text ≡ None =
    ap (λ (n : List ℕ). type_in (layer_of content layer) n) (sym c.as_str.ensures) ∙ ap (λ (o : Option LayerContent). type_in o c.as_str.result.now) (sym c.layer.ensures.found)
    ∙ sym c.type_in.ensures ∙ c.in-None.is in
    Finds-field name (known_column content layer) text c.place-place.result NoColumn _ _ _ _ c.place-place.ensures
    (ap (λ (o : Option ColumnType). present (option_map (λ column_type. (text, column_type)) o) NoColumn) unknown) c.in_ok-name.ensures
