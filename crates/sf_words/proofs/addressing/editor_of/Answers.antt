use Rattle.std.proofs.Common.{◌≡◌, ◌∙◌, None, Some, ℕ, ap, sym, rules}
use Rattle.std.specs.Result.{result_ok}
use Rattle.sf_words.proofs.EditorLemmas.{above_zero, above_zero-some, editor_of-parsed}
use Rattle.sf_words.proofs.addressing.editor_of.Goals as goal

pub returns-in_err-editor : goal.returns-in_err-editor
returns-in_err-editor c =
    let none : result_ok c.parse.result ≡ None = search rules in
    let gone : c.from_residual.result ≡ None = search rules in
    gone ∙ sym (ap above_zero none)
    ∙ editor_of-parsed c.args.digits.now c.parse.result c.parse.ensures.value.0 (sym c.is_short_numeral.ensures ∙ c.if-not-is_short_numeral.false)

pub returns-then-editor-eq0 : goal.returns-then-editor-eq0
returns-then-editor-eq0 c =
    let some : result_ok c.parse.result ≡ Some c.in_ok-editor.editor = sym c.ok.ensures.value ∙ c.in_ok-editor.was in
    sym (ap above_zero (some ∙ ap (λ (n : ℕ). Some n) c.if-editor-eq0.true))
    ∙ editor_of-parsed c.args.digits.now c.parse.result c.parse.ensures.value.0 (sym c.is_short_numeral.ensures ∙ c.if-not-is_short_numeral.false)

pub returns : goal.returns
returns c =
    let some : result_ok c.parse.result ≡ Some c.in_ok-editor.editor = sym c.ok.ensures.value ∙ c.in_ok-editor.was in
    sym (above_zero-some c.in_ok-editor.editor c.if-editor-eq0.false) ∙ sym (ap above_zero some)
    ∙ editor_of-parsed c.args.digits.now c.parse.result c.parse.ensures.value.0 (sym c.is_short_numeral.ensures ∙ c.if-not-is_short_numeral.false)
