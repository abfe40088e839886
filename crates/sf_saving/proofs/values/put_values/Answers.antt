use Rattle.std.proofs.Common.{◌+◌, ◌++◌, [], arith, drop, flat_map, refl}
use Rattle.sf_format.specs.Canonical.{value_bytes}
use Rattle.sf_streams.proofs.Putting.{Putting-done, Putting-left, Putting-more, Putting-start, breaks, left-item, left-none}
use Rattle.sf_saving.proofs.values.put_values.Goals as goal

pub loop-entry-init : goal.loop-entry-init
loop-entry-init g c = Putting-start (g.W.Write.contents c.args.writer.now) c.args.output.now (flat_map (value_bytes c.args.layer.now.columns) c.args.values.now)

pub returns-in_err-put_value-clause-broken : goal.returns-in_err-put_value-clause-broken
returns-in_err-put_value-clause-broken g c =
    let values = c.args.values.now in
    let later = flat_map (value_bytes c.args.layer.now.columns) (drop (c.loop-entry.entry-index + 1) values) in
    breaks c.from_residual.result (value_bytes c.args.layer.now.columns c.entry-item.result) later refl
    (Putting-left (value_bytes c.args.layer.now.columns c.entry-item.result ++ later) (left-item (value_bytes c.args.layer.now.columns) values c.loop-entry.entry-index c.entry-item.result c.loop-entry-test.true c.entry-item.is) c.loop-entry.invariant) c.in_err-put_value.ensures.broken

pub loop-entry-preserved : goal.loop-entry-preserved
loop-entry-preserved g c =
    let values = c.args.values.now in
    let later = flat_map (value_bytes c.args.layer.now.columns) (drop (c.loop-entry.entry-index + 1) values) in
    Putting-more (value_bytes c.args.layer.now.columns c.entry-item.result) later refl
    (Putting-left (value_bytes c.args.layer.now.columns c.entry-item.result ++ later) (left-item (value_bytes c.args.layer.now.columns) values c.loop-entry.entry-index c.entry-item.result c.loop-entry-test.true c.entry-item.is) c.loop-entry.invariant) c.in_ok-put_value.ensures.ok

pub returns-clause-ok : goal.returns-clause-ok
returns-clause-ok g c =
    Putting-done (Putting-left [] (left-none (value_bytes c.args.layer.now.columns) c.args.values.now c.loop-entry.entry-index (omega (arith, c.loop-entry-test.false))) c.loop-entry.invariant)
