use Rattle.std.proofs.Common.{◌≡◌, ◌∙◌, ap, false, subst, sym, true, IfOk}
use Rattle.sf_values.specs.Values.{begins_with_letter, begins_with_quote}
use Rattle.sf_values.proofs.Letters.{lettered}
use Rattle.sf_values.proofs.value.value_of.Goals as goal

pub returns-then-begins_with_letter : goal.returns-then-begins_with_letter
returns-then-begins_with_letter c =
    let text = c.args.text.now in
    let same = c.as_bytes-bytes.ensures.value in
    let plain : begins_with_quote text ≡ false = sym (c.begins_with_quote.ensures ∙ ap begins_with_quote same) ∙ c.if-begins_with_quote.false in
    let letter : begins_with_letter text ≡ true = sym (c.begins_with_letter.ensures ∙ ap begins_with_letter same) ∙ c.if-begins_with_letter.true in
    subst (λ v. IfOk c.lettered_of.result (λ value. value ≡ v)) (sym (lettered text plain letter)) c.lettered_of.ensures
