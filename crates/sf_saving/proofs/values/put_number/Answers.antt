use Rattle.std.proofs.Common.{SFits, ◌≡◌, ◌++◌, ℤ, ap, refl, rules, to_z, w64}
use Rattle.std.proofs.lemmas.Int.{to_z-of_z}
use Rattle.std.specs.Int.{cast_unsigned}
use Rattle.byteorder.specs.Endian.{big_bytes}
use Rattle.sf_streams.proofs.Putting.{Putting-start, Putting-more, breaks, ends-put, ends-broken}
use Rattle.sf_saving.proofs.values.put_number.Goals as goal

-- the bytes of a number of 64 bits, whichever way it was held
mantissa : (n : ℤ) → SFits w64 n → big_bytes 8 (cast_unsigned w64 (to_z w64 (cast_unsigned w64 n))) ≡ big_bytes 8 (cast_unsigned w64 n)
mantissa n fits = ap (λ (m : ℤ). big_bytes 8 (cast_unsigned w64 m)) (to_z-of_z w64 n fits)

pub returns-in_err-put_i64-clause-broken : goal.returns-in_err-put_i64-clause-broken
returns-in_err-put_i64-clause-broken g c =
    let first = big_bytes 8 (cast_unsigned w64 c.args.number.mantissa) in
    let last = big_bytes 1 c.args.number.places in
    let fits : SFits w64 c.args.number.mantissa = search rules in
    breaks c.from_residual.result first last (mantissa c.args.number.mantissa fits) (Putting-start (g.W.Write.contents c.args.writer.now) c.args.output.now (first ++ last)) c.in_err-put_i64.ensures.broken

pub returns-clause-ok : goal.returns-clause-ok
returns-clause-ok g c =
    let first = big_bytes 8 (cast_unsigned w64 c.args.number.mantissa) in
    let last = big_bytes 1 c.args.number.places in
    let fits : SFits w64 c.args.number.mantissa = search rules in
    ends-put c.put_u8.result _ _ last refl (Putting-more first last (mantissa c.args.number.mantissa fits) (Putting-start (g.W.Write.contents c.args.writer.now) c.args.output.now (first ++ last)) c.in_ok-put_i64.ensures.ok) c.put_u8.ensures.ok

pub returns-clause-broken : goal.returns-clause-broken
returns-clause-broken g c =
    let first = big_bytes 8 (cast_unsigned w64 c.args.number.mantissa) in
    let last = big_bytes 1 c.args.number.places in
    let fits : SFits w64 c.args.number.mantissa = search rules in
    ends-broken c.put_u8.result _ last refl (Putting-more first last (mantissa c.args.number.mantissa fits) (Putting-start (g.W.Write.contents c.args.writer.now) c.args.output.now (first ++ last)) c.in_ok-put_i64.ensures.ok) c.put_u8.ensures.broken
