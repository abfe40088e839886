use Rattle.std.proofs.lemmas.Result.{err_from_is_err_and}
use Rattle.byteorder.specs.Endian.{big_number}
use Rattle.sf_format.specs.Readings.{bytes, done}
use Rattle.sf_loading.proofs.StreamLaws.{Ends-first, Takes-number}
use Rattle.sf_loading.proofs.numbers.number_u64.Goals as goal

pub returns-in_err-require : goal.returns-in_err-require
returns-in_err-require g c =
    let p = err_from_is_err_and c.from_residual.result c.from_residual.ensures.1 in
    rw (p.1, p.2) (Ends-first (bytes 8) (λ digits. done (big_number 8 digits)) c.in_err-require.field-0.0 _ _ _ c.in_err-require.ensures.cut)

pub returns : goal.returns
returns g c = Takes-number 8 c.read_u64-n.result c.front.result.now _ _ _ c.require.new.window c.skip.new.self c.in_ok-require.ensures.ahead c.in_ok-require.ensures.enough
    c.front.ensures c.read_u64-n.ensures c.skip.ensures
