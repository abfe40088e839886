use Rattle.std.proofs.Common.{◌+◌, ◌++◌, [], arith, drop, flat_map, refl}
use Rattle.sf_format.specs.Canonical.{named_bytes}
use Rattle.sf_streams.proofs.Putting.{Putting-done, Putting-left, Putting-more, Putting-start, breaks, left-item, left-none}
use Rattle.sf_saving.proofs.demands.put_each.Goals as goal

pub loop-value-init : goal.loop-value-init
loop-value-init g c = Putting-start (g.W.Write.contents c.args.writer.now) c.args.output.now (flat_map named_bytes c.args.values.now)

pub returns-in_err-put_named-clause-broken : goal.returns-in_err-put_named-clause-broken
returns-in_err-put_named-clause-broken g c =
    let values = c.args.values.now in
    let later = flat_map named_bytes (drop (c.loop-value.value-index + 1) values) in
    breaks c.from_residual.result (named_bytes c.value-item.result) later refl
    (Putting-left (named_bytes c.value-item.result ++ later) (left-item named_bytes values c.loop-value.value-index c.value-item.result c.loop-value-test.true c.value-item.is) c.loop-value.invariant) c.in_err-put_named.ensures.broken

pub loop-value-preserved : goal.loop-value-preserved
loop-value-preserved g c =
    let values = c.args.values.now in
    let later = flat_map named_bytes (drop (c.loop-value.value-index + 1) values) in
    Putting-more (named_bytes c.value-item.result) later refl
    (Putting-left (named_bytes c.value-item.result ++ later) (left-item named_bytes values c.loop-value.value-index c.value-item.result c.loop-value-test.true c.value-item.is) c.loop-value.invariant) c.in_ok-put_named.ensures.ok

pub returns-clause-ok : goal.returns-clause-ok
returns-clause-ok g c =
    Putting-done (Putting-left [] (left-none named_bytes c.args.values.now c.loop-value.value-index (omega (arith, c.loop-value-test.false))) c.loop-value.invariant)
