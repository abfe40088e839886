use Rattle.std.proofs.Common.{refl}
use Rattle.byteorder.specs.Endian.{big_bytes}
use Rattle.sf_format.specs.Canonical.{date_bytes, moment_bytes}
use Rattle.sf_streams.proofs.Putting.{Putting-start, Putting-more, breaks, ends-put, ends-broken}
use Rattle.sf_saving.proofs.values.put_moment.Goals as goal

pub returns-in_err-put_date-clause-broken : goal.returns-in_err-put_date-clause-broken
returns-in_err-put_date-clause-broken g c =
    let m = c.args.moment in
    breaks c.from_residual.result (date_bytes m.date) (big_bytes 4 m.millisecond) refl
    (Putting-start (g.W.Write.contents c.args.writer.now) c.args.output.now (moment_bytes m)) c.in_err-put_date.ensures.broken

pub returns-clause-ok : goal.returns-clause-ok
returns-clause-ok g c =
    let m = c.args.moment in
    ends-put c.put_u32.result _ _ (big_bytes 4 m.millisecond) refl
    (Putting-more (date_bytes m.date) (big_bytes 4 m.millisecond) refl
    (Putting-start (g.W.Write.contents c.args.writer.now) c.args.output.now (moment_bytes m)) c.in_ok-put_date.ensures.ok) c.put_u32.ensures.ok

pub returns-clause-broken : goal.returns-clause-broken
returns-clause-broken g c =
    let m = c.args.moment in
    ends-broken c.put_u32.result _ (big_bytes 4 m.millisecond) refl
    (Putting-more (date_bytes m.date) (big_bytes 4 m.millisecond) refl
    (Putting-start (g.W.Write.contents c.args.writer.now) c.args.output.now (moment_bytes m)) c.in_ok-put_date.ensures.ok) c.put_u32.ensures.broken
