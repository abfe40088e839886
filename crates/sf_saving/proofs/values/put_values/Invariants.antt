use Rattle.std.proofs.Common.{drop, flat_map}
use Rattle.sf_format.specs.Canonical.{value_bytes}
use Rattle.sf_streams.proofs.Putting.{Putting}
use Rattle.sf_saving.proofs.values.put_values.Given as goal

-- the values from the index on are left
abbrev pub invariant-loop-entry : goal.invariant-loop-entry
invariant-loop-entry g l =
    Putting (g.W.Write.contents l.fn.writer) (g.W.Write.contents l.writer) l.fn.output l.output (flat_map (value_bytes l.layer.columns) l.values) (flat_map (value_bytes l.layer.columns) (drop l.entry-index l.values))
