use Rattle.std.proofs.Common.{◌≡◌, ◌-◌, List, []}
use Rattle.std.specs.List.{AllByRecursion}
use Rattle.sf_features.specs.declared.column.Column.{Column}
use Rattle.sf_layers.specs.WellFormed.{IsValue}
use Rattle.sf_streams.specs.Streams.{Goes}
use Rattle.sf_format.specs.Readings.{items}
use Rattle.sf_format.specs.Format.{value}
use Rattle.sf_loading.specs.Types.{AreTypesOf, AreUpTo}
use Rattle.sf_loading.proofs.values.values.Given as goal

-- so many values were read and put so far, and the others are to be read
abbrev pub invariant-loop : goal.invariant-loop
invariant-loop g l =
    ((columns : List Column) → AreTypesOf l.types columns → Goes (items (value columns) l.count []) (items (value columns) (l.count - l.counter) l.feature.values)
    (g.R.Read.remaining l.fn.reader) (g.R.Read.remaining l.reader) l.fn.window l.window)
    × ((columns : List Column) → AreTypesOf l.types columns → AllByRecursion (IsValue columns) l.feature.values)
    × AreUpTo l.previous l.feature.values × (l.feature.geometry ≡ l.fn.feature.geometry)
