use Rattle.std.proofs.Common.{ℕ, List}
use Rattle.std.proofs.lemmas.Result.{err_from_is_err_and}
use Rattle.sf_features.specs.declared.attr_value.AttrValue.TheVariants as values
use Rattle.sf_features.specs.Values.{is_attr_text}
use Rattle.sf_streams.proofs.ReadingLaws.{Goes-on}
use Rattle.sf_format.specs.declared.defect.Defect.TheVariants.{WrongValue}
use Rattle.sf_format.specs.Readings.{bytes, done, number}
use Rattle.sf_format.specs.Format.{allowed, text_bytes}
use Rattle.sf_loading.proofs.StreamLaws.{Ends-after, Ends-field, Gives-judged, Goes-then}
use Rattle.sf_loading.proofs.values.text_value.Goals as goal

pub returns-in_err-text-clause-gives : goal.returns-in_err-text-clause-gives
returns-in_err-text-clause-gives g c =
    let p = err_from_is_err_and c.from_residual-in_err-text.result c.from_residual-in_err-text.ensures.1 in
    rw (p.1, p.2) (Ends-field text_bytes (λ (text : List ℕ). allowed (is_attr_text text) WrongValue (values.Text text)) c.in_err-text.field-0.0 _ _ _
    (Ends-after text_bytes (bytes c.in_ok-size.field-0) c.in_err-text.field-0.0 _ _ _ _ _
    (Goes-then (number 2) bytes c.in_ok-size.field-0 _ _ _ _ c.in_ok-size.ensures) c.in_err-text.ensures))

pub returns-clause-gives : goal.returns-clause-gives
returns-clause-gives g c =
    let found = c.in_ok-text.ensures.0 in
    Gives-judged (λ v. v) text_bytes (λ (text : List ℕ). allowed (is_attr_text text) WrongValue (values.Text text)) found c.place-place.result c.attr_text.result _ _ _ _ c.place-place.ensures
    (Goes-on text_bytes (bytes c.in_ok-size.field-0) (done found) _ _ _ _ _ _
    (Goes-then (number 2) bytes c.in_ok-size.field-0 _ _ _ _ c.in_ok-size.ensures) c.in_ok-text.ensures.1)
    (c.attr_text.ensures.judged found c.in_ok-text.ensures.2)
