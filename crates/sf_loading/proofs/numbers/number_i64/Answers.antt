use Rattle.std.proofs.Common.{FitsSigned, refl, rules, subst, sym}
use Rattle.std.proofs.lemmas.Result.{err_from_is_err_and}
use Rattle.std.proofs.lemmas.Int.{to_z-of_z}
use Rattle.std.specs.Int.{w64, cast_signed}
use Rattle.byteorder.specs.Endian.{big_number}
use Rattle.sf_format.specs.Readings.{bytes, done, number}
use Rattle.sf_format.specs.Format.{signed_number}
use Rattle.sf_loading.specs.Streaming.{Takes}
use Rattle.sf_loading.proofs.StreamLaws.{Ends-first, Goes-then, Takes-number}
use Rattle.sf_loading.proofs.numbers.number_i64.Goals as goal

pub returns-in_err-require : goal.returns-in_err-require
returns-in_err-require g c =
    let p = err_from_is_err_and c.from_residual.result c.from_residual.ensures.1 in
    rw (p.1, p.2) (Ends-first (number 8) (λ n. done (cast_signed w64 n)) c.in_err-require.field-0.0 _ _ _
    (Ends-first (bytes 8) (λ digits. done (big_number 8 digits)) c.in_err-require.field-0.0 _ _ _ c.in_err-require.ensures.cut))

pub returns : goal.returns
returns g c =
    let n = big_number 8 c.front.result.now in
    let taken = Takes-number 8 n c.front.result.now _ _ _ c.require.new.window c.skip.new.self c.in_ok-require.ensures.ahead c.in_ok-require.ensures.enough c.front.ensures refl c.skip.ensures in
    let fits : FitsSigned w64 c.read_i64-n.result = search rules in
    simp to_z-of_z
    (subst (λ m. Takes signed_number m (g.R.Read.remaining c.args.reader.now) (g.R.Read.remaining c.require.new.reader) c.args.window.now c.skip.new.self) (sym c.read_i64-n.ensures)
    (Goes-then (number 8) (λ m. done (cast_signed w64 m)) n _ _ _ _ taken))
