use Rattle.std.proofs.Common.{◌≡◌, ◌-◌, [], length}
use Rattle.sf_streams.specs.Streams.{Goes}
use Rattle.sf_format.specs.Readings.{items}
use Rattle.sf_format.specs.Format.{held_rule}
use Rattle.sf_loading.proofs.rules.counted_rules.Given as goal

-- so many rules were read and added so far, and the others are to be read
abbrev pub invariant-loop : goal.invariant-loop
invariant-loop g l =
    Goes (items (held_rule l.fn.version l.fn.store) l.count []) (items (held_rule l.fn.version l.fn.store) (l.count - l.counter) l.ruled.rules)
    (g.R.Read.remaining l.fn.reader) (g.R.Read.remaining l.reader) l.fn.window l.window
    × (l.ruled.content ≡ l.fn.store) × (length l.ruled.rules ≡ l.counter)
