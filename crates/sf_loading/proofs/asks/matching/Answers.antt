use Rattle.std.proofs.Common.{ℕ, List, Option, option_map, subst, sym, take}
use Rattle.std.proofs.lemmas.Result.{err_from_is_err_and}
use Rattle.sf_known.specs.Patterns.{pattern_of}
use Rattle.sf_format.specs.Stored.{Ask, Matching}
use Rattle.sf_format.specs.Readings.{bytes, done}
use Rattle.sf_format.specs.Format.{asked_by}
use Rattle.sf_loading.specs.Streaming.{Takes}
use Rattle.sf_loading.proofs.StreamLaws.{Ends-first, Goes-then, Takes-skipped}
use Rattle.sf_loading.proofs.asks.matching.Goals as goal

pub returns-in_err-require : goal.returns-in_err-require
returns-in_err-require g c =
    let p = err_from_is_err_and c.from_residual.result c.from_residual.ensures.1 in
    rw (p.1, p.2) (Ends-first (bytes 9) (λ (text : List ℕ). done (option_map Matching (pattern_of text))) c.in_err-require.field-0.0 _ _ _ c.in_err-require.ensures.cut)

pub returns : goal.returns
returns g c =
    subst (λ (found : Option Ask). Takes (asked_by 0) found (g.R.Read.remaining c.args.reader.now) (g.R.Read.remaining c.require.new.reader) c.args.window.now c.skip.new.self) (sym c.pattern_ahead-found.ensures)
    (Goes-then (bytes 9) (λ (text : List ℕ). done (option_map Matching (pattern_of text))) (take 9 c.require.new.window.bytes) _ _ _ _
    (Takes-skipped 9 _ _ _ c.require.new.window c.skip.new.self c.in_ok-require.ensures.ahead c.in_ok-require.ensures.enough c.skip.ensures))
