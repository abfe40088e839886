use Rattle.std.proofs.Common.{◌≡◌, ◌∙◌, ap, sym, true, ◌&&◌, length, nat_le}
use Rattle.std.proofs.lemmas.Bool.{le-leb}
use Rattle.std.proofs.lemmas.Str.{is_utf8-from_IsUtf8}
use Rattle.std.specs.List.{list_all}
use Rattle.std.specs.Str.{is_utf8}
use Rattle.sf_features.specs.Values.{is_text_byte, text_max}
use Rattle.sf_features.proofs.attr_value.is_attr_text.Goals as goal

-- a str is UTF-8, so the text is good where its bytes are
pub returns-then-text-le-TEXT_MAX : goal.returns-then-text-le-TEXT_MAX
returns-then-text-le-TEXT_MAX c =
    let text = c.args.text.now in
    let few : nat_le (length text) text_max ≡ true = le-leb _ _ c.if-text-le-TEXT_MAX.true in
    c.are_text_bytes.ensures ∙ ap (list_all is_text_byte) c.as_bytes.ensures.value
    ∙ sym (ap (λ b. b && is_utf8 text && list_all is_text_byte text) few ∙ ap (λ b. true && b && list_all is_text_byte text) (is_utf8-from_IsUtf8 text c.utf8.text))
