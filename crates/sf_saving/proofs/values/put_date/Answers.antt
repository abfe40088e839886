use Rattle.std.proofs.Common.{◌++◌, refl}
use Rattle.byteorder.specs.Endian.{big_bytes}
use Rattle.sf_format.specs.Canonical.{date_bytes}
use Rattle.sf_streams.proofs.Putting.{Putting-start, Putting-more, breaks, ends-put, ends-broken}
use Rattle.sf_saving.proofs.values.put_date.Goals as goal

pub returns-in_err-put_u16-clause-broken : goal.returns-in_err-put_u16-clause-broken
returns-in_err-put_u16-clause-broken g c =
    let d = c.args.day in
    breaks c.from_residual.result (big_bytes 2 d.year) (big_bytes 1 d.month ++ big_bytes 1 d.day) refl
    (Putting-start (g.W.Write.contents c.args.writer.now) c.args.output.now (date_bytes d)) c.in_err-put_u16.ensures.broken

pub returns-in_err-put_u8-clause-broken : goal.returns-in_err-put_u8-clause-broken
returns-in_err-put_u8-clause-broken g c =
    let d = c.args.day in
    breaks c.from_residual-in_err-put_u8.result (big_bytes 1 d.month) (big_bytes 1 d.day) refl
    (Putting-more (big_bytes 2 d.year) (big_bytes 1 d.month ++ big_bytes 1 d.day) refl
    (Putting-start (g.W.Write.contents c.args.writer.now) c.args.output.now (date_bytes d)) c.in_ok-put_u16.ensures.ok) c.in_err-put_u8.ensures.broken

pub returns-clause-ok : goal.returns-clause-ok
returns-clause-ok g c =
    let d = c.args.day in
    ends-put c.put_u8-2.result _ _ (big_bytes 1 d.day) refl
    (Putting-more (big_bytes 1 d.month) (big_bytes 1 d.day) refl
    (Putting-more (big_bytes 2 d.year) (big_bytes 1 d.month ++ big_bytes 1 d.day) refl
    (Putting-start (g.W.Write.contents c.args.writer.now) c.args.output.now (date_bytes d)) c.in_ok-put_u16.ensures.ok) c.in_ok-put_u8.ensures.ok) c.put_u8-2.ensures.ok

pub returns-clause-broken : goal.returns-clause-broken
returns-clause-broken g c =
    let d = c.args.day in
    ends-broken c.put_u8-2.result _ (big_bytes 1 d.day) refl
    (Putting-more (big_bytes 1 d.month) (big_bytes 1 d.day) refl
    (Putting-more (big_bytes 2 d.year) (big_bytes 1 d.month ++ big_bytes 1 d.day) refl
    (Putting-start (g.W.Write.contents c.args.writer.now) c.args.output.now (date_bytes d)) c.in_ok-put_u16.ensures.ok) c.in_ok-put_u8.ensures.ok) c.put_u8-2.ensures.broken
