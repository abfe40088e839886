use Rattle.std.proofs.Common.{◌++◌, ap, refl}
use Rattle.byteorder.specs.Endian.{big_bytes}
use Rattle.sf_format.specs.Canonical.{end_bytes, ends_byte}
use Rattle.sf_streams.proofs.Putting.{Putting-start, Putting-more, breaks, ends-put, ends-broken}
use Rattle.sf_saving.proofs.demands.put_range.Goals as goal

pub returns-in_err-put_u8-clause-broken : goal.returns-in_err-put_u8-clause-broken
returns-in_err-put_u8-clause-broken g c =
    let range = c.args.range.now in
    let first = big_bytes 1 (ends_byte range.from range.to) in
    let t1 = end_bytes range.from ++ end_bytes range.to in
    let start = Putting-start (g.W.Write.contents c.args.writer.now) c.args.output.now (first ++ t1) in
    breaks c.from_residual.result first t1 (ap (big_bytes 1) c.ends_byte.ensures) start c.in_err-put_u8.ensures.broken

pub returns-in_err-put_end-clause-broken : goal.returns-in_err-put_end-clause-broken
returns-in_err-put_end-clause-broken g c =
    let range = c.args.range.now in
    let first = big_bytes 1 (ends_byte range.from range.to) in
    let t1 = end_bytes range.from ++ end_bytes range.to in
    let start = Putting-start (g.W.Write.contents c.args.writer.now) c.args.output.now (first ++ t1) in
    let one = Putting-more first t1 (ap (big_bytes 1) c.ends_byte.ensures) start c.in_ok-put_u8.ensures.ok in
    breaks c.from_residual-in_err-put_end.result (end_bytes range.from) (end_bytes range.to) refl one c.in_err-put_end.ensures.broken

pub returns-clause-ok : goal.returns-clause-ok
returns-clause-ok g c =
    let range = c.args.range.now in
    let first = big_bytes 1 (ends_byte range.from range.to) in
    let t1 = end_bytes range.from ++ end_bytes range.to in
    let start = Putting-start (g.W.Write.contents c.args.writer.now) c.args.output.now (first ++ t1) in
    let one = Putting-more first t1 (ap (big_bytes 1) c.ends_byte.ensures) start c.in_ok-put_u8.ensures.ok in
    let two = Putting-more (end_bytes range.from) (end_bytes range.to) refl one c.in_ok-put_end.ensures.ok in
    ends-put c.put_end-2.result _ _ (end_bytes range.to) refl two c.put_end-2.ensures.ok

pub returns-clause-broken : goal.returns-clause-broken
returns-clause-broken g c =
    let range = c.args.range.now in
    let first = big_bytes 1 (ends_byte range.from range.to) in
    let t1 = end_bytes range.from ++ end_bytes range.to in
    let start = Putting-start (g.W.Write.contents c.args.writer.now) c.args.output.now (first ++ t1) in
    let one = Putting-more first t1 (ap (big_bytes 1) c.ends_byte.ensures) start c.in_ok-put_u8.ensures.ok in
    let two = Putting-more (end_bytes range.from) (end_bytes range.to) refl one c.in_ok-put_end.ensures.ok in
    ends-broken c.put_end-2.result _ (end_bytes range.to) refl two c.put_end-2.ensures.broken
