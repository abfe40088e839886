use Rattle.std.proofs.Common.{◌++◌, ap, refl}
use Rattle.byteorder.specs.Endian.{big_bytes}
use Rattle.sf_format.specs.Canonical.{behind_length, column_bytes, type_byte}
use Rattle.sf_streams.proofs.Putting.{Putting-start, Putting-more, breaks, ends-put, ends-broken}
use Rattle.sf_saving.proofs.columns.put_column.Goals as goal

pub returns-in_err-put_u16-clause-broken : goal.returns-in_err-put_u16-clause-broken
returns-in_err-put_u16-clause-broken g c =
    let column = c.args.column.now in
    let start = Putting-start (g.W.Write.contents c.args.writer.now) c.args.output.now (column_bytes column) in
    breaks c.from_residual.result (big_bytes 2 column.number) (big_bytes 1 (type_byte column.column_type) ++ behind_length 1 column.name) refl start c.in_err-put_u16.ensures.broken

pub returns-in_err-put_u8-clause-broken : goal.returns-in_err-put_u8-clause-broken
returns-in_err-put_u8-clause-broken g c =
    let column = c.args.column.now in
    let start = Putting-start (g.W.Write.contents c.args.writer.now) c.args.output.now (column_bytes column) in
    let numbered = Putting-more (big_bytes 2 column.number) (big_bytes 1 (type_byte column.column_type) ++ behind_length 1 column.name) refl start c.in_ok-put_u16.ensures.ok in
    breaks c.from_residual-in_err-put_u8.result (big_bytes 1 (type_byte column.column_type)) (behind_length 1 column.name) (ap (big_bytes 1) c.type_byte.ensures) numbered c.in_err-put_u8.ensures.broken

pub returns-clause-ok : goal.returns-clause-ok
returns-clause-ok g c =
    let column = c.args.column.now in
    let start = Putting-start (g.W.Write.contents c.args.writer.now) c.args.output.now (column_bytes column) in
    let numbered = Putting-more (big_bytes 2 column.number) (big_bytes 1 (type_byte column.column_type) ++ behind_length 1 column.name) refl start c.in_ok-put_u16.ensures.ok in
    let typed = Putting-more (big_bytes 1 (type_byte column.column_type)) (behind_length 1 column.name) (ap (big_bytes 1) c.type_byte.ensures) numbered c.in_ok-put_u8.ensures.ok in
    ends-put c.put_name.result _ _ (behind_length 1 column.name) (ap (behind_length 1) c.as_str.ensures) typed c.put_name.ensures.ok

pub returns-clause-broken : goal.returns-clause-broken
returns-clause-broken g c =
    let column = c.args.column.now in
    let start = Putting-start (g.W.Write.contents c.args.writer.now) c.args.output.now (column_bytes column) in
    let numbered = Putting-more (big_bytes 2 column.number) (big_bytes 1 (type_byte column.column_type) ++ behind_length 1 column.name) refl start c.in_ok-put_u16.ensures.ok in
    let typed = Putting-more (big_bytes 1 (type_byte column.column_type)) (behind_length 1 column.name) (ap (big_bytes 1) c.type_byte.ensures) numbered c.in_ok-put_u8.ensures.ok in
    ends-broken c.put_name.result _ (behind_length 1 column.name) (ap (behind_length 1) c.as_str.ensures) typed c.put_name.ensures.broken
