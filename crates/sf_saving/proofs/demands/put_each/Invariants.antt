use Rattle.std.proofs.Common.{drop, flat_map}
use Rattle.sf_format.specs.Canonical.{named_bytes}
use Rattle.sf_streams.proofs.Putting.{Putting}
use Rattle.sf_saving.proofs.demands.put_each.Given as goal

-- the values from the index on are left
abbrev pub invariant-loop-value : goal.invariant-loop-value
invariant-loop-value g l =
    Putting (g.W.Write.contents l.fn.writer) (g.W.Write.contents l.writer) l.fn.output l.output (flat_map named_bytes l.values) (flat_map named_bytes (drop l.value-index l.values))
