use Rattle.std.proofs.Common.{◌∙◌, ℕ, Option, ap, arith, subst, sym}
use Rattle.std.proofs.lemmas.Result.{err_from_is_err_and}
use Rattle.sf_format.specs.Stored.{Ask}
use Rattle.sf_streams.specs.Streams.{Goes}
use Rattle.sf_format.specs.Readings.{Reading, done, number}
use Rattle.sf_format.specs.Format.{asked, asked_by}
use Rattle.sf_loading.specs.Streaming.{Takes}
use Rattle.sf_loading.proofs.AskLaws.{asked-other}
use Rattle.sf_loading.proofs.StreamLaws.{Ends-first, Goes-then, Reaches-after}
use Rattle.sf_loading.proofs.asks.asked.Goals as goal

pub returns-in_err-byte : goal.returns-in_err-byte
returns-in_err-byte g c =
    let p = err_from_is_err_and c.from_residual.result c.from_residual.ensures.1 in
    rw (p.1, p.2) (Ends-first (number 1) asked_by c.in_err-byte.field-0.0 _ _ _ c.in_err-byte.ensures)

pub returns-then-byte-eq0 : goal.returns-then-byte-eq0
returns-then-byte-eq0 g c =
    let byte = c.in_ok-byte.byte in
    let taken = subst (λ (n : ℕ). Takes (number 1) n (g.R.Read.remaining c.args.reader.now) (g.R.Read.remaining c.number_u8.new.reader) c.args.window.now c.number_u8.new.window) (omega (arith, c.if-byte-eq0.true)) c.in_ok-byte.ensures in
    Reaches-after asked (asked_by 0) (λ found. done found) c.matching.result _ _ _ _ _ _ (Goes-then (number 1) asked_by 0 _ _ _ _ taken) c.matching.ensures

pub returns-else-byte-eq0 : goal.returns-else-byte-eq0
returns-else-byte-eq0 g c =
    let byte = c.in_ok-byte.byte in
    subst (λ (read : Reading (Option Ask)). Goes asked read (g.R.Read.remaining c.args.reader.now) (g.R.Read.remaining c.number_u8.new.reader) c.args.window.now c.number_u8.new.window)
    (asked-other byte (omega (arith, c.if-byte-eq0.false)) ∙ ap (λ (found : Option Ask). done found) (sym c.named.ensures)) (Goes-then (number 1) asked_by byte _ _ _ _ c.in_ok-byte.ensures)
