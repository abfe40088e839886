use Rattle.std.proofs.Common.{◌++◌, flat_map, length, refl}
use Rattle.byteorder.specs.Endian.{big_bytes}
use Rattle.sf_format.specs.Canonical.{named_bytes}
use Rattle.sf_streams.proofs.Putting.{Putting-start, Putting-more, breaks, ends-put, ends-broken}
use Rattle.sf_saving.proofs.LowBytes.{low-two}
use Rattle.sf_saving.proofs.demands.put_allowed.Goals as goal

pub returns-in_err-put_u16-clause-broken : goal.returns-in_err-put_u16-clause-broken
returns-in_err-put_u16-clause-broken g c =
    let allowed = c.args.allowed.now in
    let first = big_bytes 2 (length allowed) in
    let later = flat_map named_bytes allowed in
    breaks c.from_residual.result first later (low-two (length allowed)) (Putting-start (g.W.Write.contents c.args.writer.now) c.args.output.now (first ++ later)) c.in_err-put_u16.ensures.broken

pub returns-clause-ok : goal.returns-clause-ok
returns-clause-ok g c =
    let allowed = c.args.allowed.now in
    let first = big_bytes 2 (length allowed) in
    let later = flat_map named_bytes allowed in
    let one = Putting-more first later (low-two (length allowed)) (Putting-start (g.W.Write.contents c.args.writer.now) c.args.output.now (first ++ later)) c.in_ok-put_u16.ensures.ok in
    ends-put c.put_each.result _ _ later refl one c.put_each.ensures.ok

pub returns-clause-broken : goal.returns-clause-broken
returns-clause-broken g c =
    let allowed = c.args.allowed.now in
    let first = big_bytes 2 (length allowed) in
    let later = flat_map named_bytes allowed in
    let one = Putting-more first later (low-two (length allowed)) (Putting-start (g.W.Write.contents c.args.writer.now) c.args.output.now (first ++ later)) c.in_ok-put_u16.ensures.ok in
    ends-broken c.put_each.result _ later refl one c.put_each.ensures.broken
