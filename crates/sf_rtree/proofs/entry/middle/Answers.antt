use Rattle.std.proofs.Common.{◌≡◌, ◌+ℤ◌, ◌/◌, pos, unsigned_abs, rules, ap}
use Rattle.sf_rtree.proofs.entry.middle.Goals as goal

pub returns : goal.returns
returns c =
    let s : c.unsigned_abs.result ≡ unsigned_abs (c.args.a +ℤ c.args.b +ℤ pos 4294967296) = search rules in
    ap (λ n. n / 2) s
