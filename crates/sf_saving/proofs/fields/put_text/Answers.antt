use Rattle.std.proofs.Common.{length}
use Rattle.byteorder.specs.Endian.{big_bytes}
use Rattle.sf_format.specs.Canonical.{behind_length}
use Rattle.sf_streams.proofs.Putting.{Putting-start, Putting-more, breaks, ends-put, ends-broken}
use Rattle.sf_saving.proofs.LowBytes.{low-two}
use Rattle.sf_saving.proofs.fields.put_text.Goals as goal

pub returns-in_err-put_u16-clause-broken : goal.returns-in_err-put_u16-clause-broken
returns-in_err-put_u16-clause-broken g c =
    let text = c.args.text.now in
    let start = Putting-start (g.W.Write.contents c.args.writer.now) c.args.output.now (behind_length 2 text) in
    breaks c.from_residual.result (big_bytes 2 (length text)) text (low-two (length text)) start c.in_err-put_u16.ensures.broken

pub returns-clause-ok : goal.returns-clause-ok
returns-clause-ok g c =
    let text = c.args.text.now in
    let start = Putting-start (g.W.Write.contents c.args.writer.now) c.args.output.now (behind_length 2 text) in
    ends-put c.put.result _ _ text c.as_bytes.ensures.value (Putting-more (big_bytes 2 (length text)) text (low-two (length text)) start c.in_ok-put_u16.ensures.ok) c.put.ensures.ok

pub returns-clause-broken : goal.returns-clause-broken
returns-clause-broken g c =
    let text = c.args.text.now in
    let start = Putting-start (g.W.Write.contents c.args.writer.now) c.args.output.now (behind_length 2 text) in
    ends-broken c.put.result _ text c.as_bytes.ensures.value (Putting-more (big_bytes 2 (length text)) text (low-two (length text)) start c.in_ok-put_u16.ensures.ok) c.put.ensures.broken
