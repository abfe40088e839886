use Rattle.std.proofs.Common.{◌≡◌, ◌-◌, [], length}
use Rattle.sf_wkb.specs.Grammar.{read_in}
use Rattle.sf_streams.specs.Streams.{Goes}
use Rattle.sf_format.specs.Readings.{items}
use Rattle.sf_format.specs.Format.{layer}
use Rattle.sf_loading.proofs.layers.counted_layers.Given as goal

-- so many layers were read and put so far, and the others are to be read
abbrev pub invariant-loop : goal.invariant-loop
invariant-loop g l =
    Goes (items (layer (read_in l.grid)) l.count []) (items (layer (read_in l.grid)) (l.count - l.counter) l.store)
    (g.R.Read.remaining l.fn.reader) (g.R.Read.remaining l.reader) l.fn.window l.window
    × (length l.store ≡ l.counter)
