use Rattle.std.proofs.Common.{ℕ, List}
use Rattle.std.specs.Prelude.{◌&&◌, nat_le}
use Rattle.std.proofs.lemmas.Result.{err_from_is_err_and}
use Rattle.sf_streams.proofs.ReadingLaws.{Goes-on}
use Rattle.sf_format.specs.declared.defect.Defect.TheVariants.{BadName}
use Rattle.sf_format.specs.Readings.{bytes, done, field, number, sized}
use Rattle.sf_format.specs.Format.{allowed}
use Rattle.sf_features.specs.Names.{is_name}
use Rattle.sf_loading.proofs.StreamLaws.{Ends-after, Ends-field, Gives-judged, Goes-then}
use Rattle.sf_loading.proofs.texts.name.Goals as goal

pub returns-in_err-text : goal.returns-in_err-text
returns-in_err-text g c =
    let p = err_from_is_err_and c.from_residual-in_err-text.result c.from_residual-in_err-text.ensures.1 in
    let size_rule = λ (size : ℕ). allowed (nat_le 1 size && nat_le size 32) BadName size in
    rw (p.1, p.2) (Ends-field (sized 1 size_rule) (λ (text : List ℕ). allowed (is_name text) BadName text) c.in_err-text.field-0.0 _ _ _
    (Ends-after (sized 1 size_rule) (bytes c.in_ok-size.size) c.in_err-text.field-0.0 _ _ _ _ _
    (Goes-then (field (number 1) size_rule) bytes c.in_ok-size.size _ _ _ _ c.in_ok-size.ensures) c.in_err-text.ensures))

pub returns : goal.returns
returns g c =
    let size_rule = λ (size : ℕ). allowed (nat_le 1 size && nat_le size 32) BadName size in
    let found = c.in_ok-text.ensures.0 in
    Gives-judged (λ t. t) (sized 1 size_rule) (λ (text : List ℕ). allowed (is_name text) BadName text) found c.place-place.result c.named.result _ _ _ _ c.place-place.ensures
    (Goes-on (sized 1 size_rule) (bytes c.in_ok-size.size) (done found) _ _ _ _ _ _
    (Goes-then (field (number 1) size_rule) bytes c.in_ok-size.size _ _ _ _ c.in_ok-size.ensures) c.in_ok-text.ensures.1)
    (c.named.ensures found c.in_ok-text.ensures.2)
