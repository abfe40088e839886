use Rattle.std.proofs.Common.{◌≡◌, ◌-◌, []}
use Rattle.sf_wkb.specs.Grammar.{read_in}
use Rattle.sf_layers.specs.WellFormed.{IsLayer}
use Rattle.sf_streams.specs.Streams.{Goes}
use Rattle.sf_format.specs.Readings.{items}
use Rattle.sf_format.specs.Format.{feature}
use Rattle.sf_loading.specs.Types.{AreUpTo}
use Rattle.sf_loading.proofs.features.features.Given as goal

-- so many features were read and put so far, and the others are to be read
abbrev pub invariant-loop : goal.invariant-loop
invariant-loop g l =
    Goes (items (feature (read_in l.grid) l.fn.layer.kind l.fn.layer.next_id l.fn.layer.columns) l.count []) (items (feature (read_in l.grid) l.fn.layer.kind l.fn.layer.next_id l.fn.layer.columns) (l.count - l.counter) l.layer.features)
    (g.R.Read.remaining l.fn.reader) (g.R.Read.remaining l.reader) l.fn.window l.window
    × AreUpTo l.previous l.layer.features
    × (l.layer ≡ record l.fn.layer { features = l.layer.features })
    × IsLayer l.layer
