use Rattle.std.proofs.Common.{◌≡◌, ◌∙◌, ◌++◌, ◌∷◌, [], ap, sym, ℕ, List, Some, slice_get, option_map, codes, decimal, length, string_bytes}
use Rattle.sf_layers.specs.Content.{LayerContent}
use Rattle.sf_console.specs.Answers.{layer_kind_word, layer_row, line}
use Rattle.sf_console.proofs.RowLemmas.{four, rows-more}
use Rattle.sf_console.proofs.rows.layer_rows.Goals as goal

pub loop-place-preserved : goal.loop-place-preserved
unfolding lib.Utf8.encode
loop-place-preserved c =
    let content = c.args.store.now in
    let name : List ℕ = c.unwrap.result.0.now in
    let layer : LayerContent = c.unwrap.result.1.now in
    let text = string_bytes c.loop-place.text in
    let at : slice_get content c.loop-place.place ≡ Some (name, layer) = sym c.layer_at.ensures ∙ ap (option_map (λ entry. (entry.0.now, entry.1.now))) c.unwrap.ensures in
    let parted : string_bytes c.push.new.self ≡ (text ++ name) ++ codes " " = c.in_ok-push.ensures.bytes ∙ ap (λ t. t ++ codes " ") c.in_ok-push_str.ensures.bytes in
    let word : c.layer_kind_word.result.now ≡ layer_kind_word layer.kind = c.layer_kind_word.ensures ∙ ap layer_kind_word c.kind.ensures in
    let typed : string_bytes c.push_str-in-loop-place.new.self ≡ ((text ++ name) ++ codes " ") ++ layer_kind_word layer.kind =
    c.in_ok-push_str-2.ensures.bytes ∙ ap (λ w. string_bytes c.push.new.self ++ w) word ∙ ap (λ t. t ++ layer_kind_word layer.kind) parted in
    let pushed : string_bytes c.push-in-loop-place.new.self ≡ text ++ line (layer_row (name, layer)) =
    c.in_ok-push-2.ensures.bytes ∙ ap (λ t. t ++ 10 ∷ []) typed ∙ four text name (codes " ") (layer_kind_word layer.kind) (10 ∷ []) in
    (c.loop-place.invariant.0, rows-more layer_row (line (codes "rows " ++ decimal (length content))) text (string_bytes c.push-in-loop-place.new.self) content c.loop-place.place (name, layer) at c.loop-place.invariant.1 pushed)
