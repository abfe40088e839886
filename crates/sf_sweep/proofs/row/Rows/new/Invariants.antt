use Rattle.std.proofs.Common.{◌≡◌, ◌≤◌, false, replicate, vec_len, vec_capacity}
use Rattle.std.specs.Prelude.{map}
use Rattle.sf_sweep.proofs.row.Rows.new.Given as goal

-- so many rows were put down, in none of which a bit is set, and there is room for all
abbrev pub invariant-loop : goal.invariant-loop
invariant-loop g l =
    (map g.R.Row.bits l.rows.items ≡ replicate l.counter (replicate g.R.Row.width false))
    × (vec_len l.rows ≡ l.counter)
    × (l.pieces ≤ vec_capacity l.rows)
