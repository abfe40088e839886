use Rattle.std.proofs.Common.{◌≡◌, ◌≤◌, ◌++◌, drop, length, vec_capacity, vec_len}
use Rattle.sf_cells.specs.Listing.{recorded_cells, total}
use Rattle.sf_cells.proofs.listing.recorded.Given as goal

-- the cells so far and those that are left are all, and there is room for all
abbrev pub invariant-loop-head : goal.invariant-loop-head
invariant-loop-head l =
    let rest = drop l.head-index l.heads in
    record {
      len : vec_len l.cells ≡ l.head-index;
      room : length l.heads ≤ vec_capacity l.cells;
      takes : total rest ≤ length l.left;
      all : l.cells.items ++ recorded_cells rest l.left ≡ recorded_cells l.fn.heads l.fn.numbers;
    }
