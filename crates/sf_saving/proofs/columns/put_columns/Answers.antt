use Rattle.std.proofs.Common.{◌≡◌, ◌∙◌, ◌+◌, ◌++◌, [], Some, ap, arith, drop, flat_map, refl, slice_get, sym}
use Rattle.std.specs.Option.{option_copied}
use Rattle.sf_format.specs.Canonical.{column_bytes}
use Rattle.sf_streams.proofs.Putting.{Putting-done, Putting-left, Putting-more, Putting-start, breaks, left-at, left-none}
use Rattle.sf_saving.proofs.columns.put_columns.Goals as goal

pub loop-place-init : goal.loop-place-init
loop-place-init g c = Putting-start (g.W.Write.contents c.args.writer.now) c.args.output.now (flat_map column_bytes c.args.layer.now.columns)

pub returns-in_err-put_column-clause-broken : goal.returns-in_err-put_column-clause-broken
returns-in_err-put_column-clause-broken g c =
    let columns = c.args.layer.now.columns in
    let column = c.unwrap.result.now in
    let there : slice_get columns c.loop-place.place ≡ Some column = sym c.column_at.ensures ∙ ap option_copied c.unwrap.ensures in
    let later = flat_map column_bytes (drop (c.loop-place.place + 1) columns) in
    breaks c.from_residual.result (column_bytes column) later refl
    (Putting-left (column_bytes column ++ later) (left-at column_bytes columns c.loop-place.place column there) c.loop-place.invariant) c.in_err-put_column.ensures.broken

pub loop-place-preserved : goal.loop-place-preserved
loop-place-preserved g c =
    let columns = c.args.layer.now.columns in
    let column = c.unwrap.result.now in
    let there : slice_get columns c.loop-place.place ≡ Some column = sym c.column_at.ensures ∙ ap option_copied c.unwrap.ensures in
    let later = flat_map column_bytes (drop (c.loop-place.place + 1) columns) in
    Putting-more (column_bytes column) later refl
    (Putting-left (column_bytes column ++ later) (left-at column_bytes columns c.loop-place.place column there) c.loop-place.invariant) c.in_ok-put_column.ensures.ok

pub returns-clause-ok : goal.returns-clause-ok
returns-clause-ok g c =
    let columns = c.args.layer.now.columns in
    Putting-done (Putting-left [] (left-none column_bytes columns c.loop-place.place (omega (arith, c.loop-place-test.false, c.column_count-place-end.ensures.count))) c.loop-place.invariant)
