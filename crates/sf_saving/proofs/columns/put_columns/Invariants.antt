use Rattle.std.proofs.Common.{drop, flat_map}
use Rattle.sf_format.specs.Canonical.{column_bytes}
use Rattle.sf_streams.proofs.Putting.{Putting}
use Rattle.sf_saving.proofs.columns.put_columns.Given as goal

-- the columns from the place on are left
abbrev pub invariant-loop-place : goal.invariant-loop-place
invariant-loop-place g l =
    Putting (g.W.Write.contents l.fn.writer) (g.W.Write.contents l.writer) l.fn.output l.output (flat_map column_bytes l.layer.columns) (flat_map column_bytes (drop l.place l.layer.columns))
