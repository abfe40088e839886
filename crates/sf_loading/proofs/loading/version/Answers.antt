use Rattle.std.proofs.Common.{ℕ, List, subst, take}
use Rattle.std.proofs.lemmas.Result.{err_from_is_err_and}
use Rattle.sf_format.specs.Readings.{bytes}
use Rattle.sf_format.specs.Format.{version_of}
use Rattle.sf_loading.specs.Streaming.{Judges}
use Rattle.sf_loading.proofs.StreamLaws.{Ends-field, Gives-judged, Takes-skipped}
use Rattle.sf_loading.proofs.loading.version.Goals as goal

pub returns-in_err-require : goal.returns-in_err-require
returns-in_err-require g c =
    let p = err_from_is_err_and c.from_residual.result c.from_residual.ensures.1 in
    rw (p.1, p.2) (Ends-field (bytes 8) version_of c.in_err-require.field-0.0 _ _ _ c.in_err-require.ensures.cut)

pub returns : goal.returns
returns g c =
    let text = take 8 c.require.new.window.bytes in
    Gives-judged (λ v. v) (bytes 8) version_of text c.place-place.result c.version_of-version.result _ _ _ _ c.place-place.ensures
    (Takes-skipped 8 _ _ _ c.require.new.window c.skip.new.self c.in_ok-require.ensures.ahead c.in_ok-require.ensures.enough c.skip.ensures)
    (subst (λ (t : List ℕ). Judges (λ v. v) c.place-place.result (version_of t) c.version_of-version.result) c.front.ensures c.version_of-version.ensures)
