use Rattle.std.proofs.Common.{refl}
use Rattle.byteorder.specs.Endian.{big_bytes}
use Rattle.sf_features.specs.Columns.{numbered}
use Rattle.sf_format.specs.Canonical.{is_decimal_column, typed_bytes, value_bytes}
use Rattle.sf_streams.proofs.Putting.{Putting-more, Putting-start, breaks, ends-broken, ends-put}
use Rattle.sf_saving.proofs.values.put_value.Goals as goal

pub returns-in_err-put_u16-clause-broken : goal.returns-in_err-put_u16-clause-broken
returns-in_err-put_u16-clause-broken g c =
    let entry = c.args.entry.now in
    let columns = c.args.layer.now.columns in
    let text = typed_bytes (is_decimal_column (numbered columns entry.0)) entry.1 in
    breaks c.from_residual.result (big_bytes 2 entry.0) text refl (Putting-start (g.W.Write.contents c.args.writer.now) c.args.output.now (value_bytes columns entry)) c.in_err-put_u16.ensures.broken

pub returns-clause-ok : goal.returns-clause-ok
returns-clause-ok g c =
    let entry = c.args.entry.now in
    let columns = c.args.layer.now.columns in
    let text = typed_bytes (is_decimal_column (numbered columns entry.0)) entry.1 in
    let start = Putting-start (g.W.Write.contents c.args.writer.now) c.args.output.now (value_bytes columns entry) in
    ends-put c.put_typed.result _ _ text c.is_whole_decimal-in_decimals.ensures (Putting-more (big_bytes 2 entry.0) text refl start c.in_ok-put_u16.ensures.ok) c.put_typed.ensures.ok

pub returns-clause-broken : goal.returns-clause-broken
returns-clause-broken g c =
    let entry = c.args.entry.now in
    let columns = c.args.layer.now.columns in
    let text = typed_bytes (is_decimal_column (numbered columns entry.0)) entry.1 in
    let start = Putting-start (g.W.Write.contents c.args.writer.now) c.args.output.now (value_bytes columns entry) in
    ends-broken c.put_typed.result _ text c.is_whole_decimal-in_decimals.ensures (Putting-more (big_bytes 2 entry.0) text refl start c.in_ok-put_u16.ensures.ok) c.put_typed.ensures.broken
