use Rattle.std.proofs.Common.{◌≡◌, ◌∙◌, ◌++◌, ap, subst, sym, List, ℕ, Some, string_bytes}
use Rattle.std.specs.Str.{IsUtf8}
use Rattle.std.proofs.lemmas.Slice.Eq.{bytes_eq-Decides}
use Rattle.sf_features.specs.declared.attr_value.AttrValue.TheVariants.{Text}
use Rattle.sf_values.specs.Escapes.{escaped, unescaped, within_escape}
use Rattle.sf_values.specs.declared.state.State.TheVariants.{Plain}
use Rattle.sf_values.proofs.Escapes.{read-none, read-written}
use Rattle.sf_values.proofs.unescaping.escaped_text_of.Goals as goal

pub returns-in_default : goal.returns-in_default
returns-in_default c =
    read-none c.args.written.now c.in_ok-bytes.bytes.items
    (c.in_ok-bytes.ensures ∙ ap (unescaped Plain) (c.within_escape.ensures ∙ ap within_escape c.as_bytes.ensures.value))
    (λ utf8. let no = c.in_default.ensures.succeeds utf8 in cc)

pub returns-then-eq : goal.returns-then-eq
returns-then-eq c =
    let text = string_bytes c.in-Ok.text in
    let written = c.args.written.now in
    let told : text ≡ unescaped Plain (within_escape written) =
    ap (λ v. v.items) c.in-Ok.ensures.ok ∙ (c.in_ok-bytes.ensures ∙ ap (unescaped Plain) (c.within_escape.ensures ∙ ap within_escape c.as_bytes.ensures.value)) in
    let utf8 : IsUtf8 text = subst IsUtf8 c.as_str.ensures.value c.as_str.utf8 in
    let again : c.as_str-2.result.now ≡ escaped text =
    c.as_str-2.ensures.value ∙ c.in_ok-push_escaped.ensures ∙ ap (λ before. before ++ escaped c.as_str.result.now) c.in_ok-again.ensures.bytes ∙ ap escaped c.as_str.ensures.value in
    let same : c.as_str-2.result.now ≡ written = (bytes_eq-Decides c.as_str-2.result.now written).0 (sym c.eq.ensures ∙ c.if-eq.true) in
    ap (λ (t : List ℕ). Some (Text t)) c.from_string.ensures ∙ read-written written text told utf8 (sym again ∙ same)
