use Rattle.std.proofs.Common.{◌-◌, []}
use Rattle.sf_streams.specs.Streams.{Goes}
use Rattle.sf_format.specs.Readings.{items}
use Rattle.sf_format.specs.Format.{named_value}
use Rattle.sf_loading.proofs.demands.counted_values.Given as goal

-- so many values were read so far, and the others are to be read
abbrev pub invariant-loop : goal.invariant-loop
invariant-loop g l =
    Goes (items (λ earlier. named_value l.column_type) l.count []) (items (λ earlier. named_value l.column_type) (l.count - l.counter) l.values.items)
    (g.R.Read.remaining l.fn.reader) (g.R.Read.remaining l.reader) l.fn.window l.window
