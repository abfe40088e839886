use Rattle.std.proofs.Common.{◌≡◌, drop, length}
use Rattle.sf_sweep.specs.Parities.{row_below, stored}
use Rattle.sf_sweep.proofs.parities.store.Given as goal

-- what is left to put down gives the table and the row in the end
abbrev pub invariant-loop-edge : goal.invariant-loop-edge
invariant-loop-edge g l =
    record {
      table : stored l.areal l.groups l.table (g.R.Row.bits l.odd) (drop l.edge-index l.edges) ≡ stored l.areal l.groups l.fn.table (g.R.Row.bits l.above) l.edges;
      len : length l.table ≡ length l.fn.table;
      below : row_below l.areal l.groups (g.R.Row.bits l.odd) (drop l.edge-index l.edges) ≡ row_below l.areal l.groups (g.R.Row.bits l.above) l.edges;
    }
