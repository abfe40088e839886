use Rattle.std.proofs.Common.{◌≡◌, ◌-◌, []}
use Rattle.sf_layers.specs.WellFormed.{IsLayer}
use Rattle.sf_streams.specs.Streams.{Goes}
use Rattle.sf_format.specs.Readings.{items}
use Rattle.sf_format.specs.Format.{column}
use Rattle.sf_loading.specs.Types.{AreTypesOf}
use Rattle.sf_loading.proofs.columns.columns.Given as goal

-- so many columns were read and put so far, and the others are to be read
abbrev pub invariant-loop : goal.invariant-loop
invariant-loop g l =
    Goes (items (column l.fn.layer.next_column) l.count []) (items (column l.fn.layer.next_column) (l.count - l.counter) l.layer.columns)
    (g.R.Read.remaining l.fn.reader) (g.R.Read.remaining l.reader) l.fn.window l.window
    × AreTypesOf l.types l.layer.columns
    × (l.layer ≡ record l.fn.layer { columns = l.layer.columns })
    × IsLayer l.layer
