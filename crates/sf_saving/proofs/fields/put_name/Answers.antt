use Rattle.std.proofs.Common.{length}
use Rattle.byteorder.specs.Endian.{big_bytes}
use Rattle.sf_format.specs.Canonical.{behind_length}
use Rattle.sf_streams.proofs.Putting.{Putting-start, Putting-more, breaks, ends-put, ends-broken}
use Rattle.sf_saving.proofs.fields.put_name.Goals as goal
use Rattle.sf_saving.proofs.LowBytes.{low-byte}

pub returns-in_err-put_u8-clause-broken : goal.returns-in_err-put_u8-clause-broken
returns-in_err-put_u8-clause-broken g c =
    let text = c.args.name.now in
    let start = Putting-start (g.W.Write.contents c.args.writer.now) c.args.output.now (behind_length 1 text) in
    breaks c.from_residual.result (big_bytes 1 (length text)) text (low-byte (length text)) start c.in_err-put_u8.ensures.broken

pub returns-clause-ok : goal.returns-clause-ok
returns-clause-ok g c =
    let text = c.args.name.now in
    let start = Putting-start (g.W.Write.contents c.args.writer.now) c.args.output.now (behind_length 1 text) in
    ends-put c.put.result _ _ text c.as_bytes.ensures.value (Putting-more (big_bytes 1 (length text)) text (low-byte (length text)) start c.in_ok-put_u8.ensures.ok) c.put.ensures.ok

pub returns-clause-broken : goal.returns-clause-broken
returns-clause-broken g c =
    let text = c.args.name.now in
    let start = Putting-start (g.W.Write.contents c.args.writer.now) c.args.output.now (behind_length 1 text) in
    ends-broken c.put.result _ text c.as_bytes.ensures.value (Putting-more (big_bytes 1 (length text)) text (low-byte (length text)) start c.in_ok-put_u8.ensures.ok) c.put.ensures.broken
