-- Internal: who wants to trust the program need not read this file.
-- What always holds of a sweep between two calls, whatever edges it has.
use Rattle.std.specs.Prelude.{◌≡◌, ℕ, ◌<◌, ◌≤◌, Bool, List, [], length, vec_capacity}
use Rattle.std.specs.List.{All}
use Rattle.sf_cells.specs.declared.column.Tallies.{Tallies}
use Rattle.sf_cells.specs.Groups.{counts, group_count}
use Rattle.sf_sweep.specs.declared.class_sweep.ClassSweep.{ClassSweep}
use Rattle.sf_sweep.specs.Cuts.{HasBenchRoom, KeepsBenchRoom}

-- with rows of so many parities, these marks and groups, the parities stored by pieces, and its tallies
pub record IsReady (width : ℕ) (areal : List Bool) (groups : List ℕ) (table : List (List Bool)) (tallies : Tallies) : Type 0 where
  -- a row has one parity for each mark
  pub wide : length areal ≡ width
  -- and one for each group
  pub few_groups : All (λ g. g < width) groups
  pub few_counts : group_count groups ≤ width
  -- there is a row for each piece
  pub odd : length table ≡ length groups
  -- no edge is counted as lying on what is handed out next: each call takes off what it puts on
  pub none_on : tallies.on.items ≡ counts groups []
  -- there is a count for each group; its value is left from the last item, and each call puts its own there
  pub counted : length tallies.above.items ≡ group_count groups

-- where edges change, it has room too: for so many levels of a window, for so many edges in its order, and for so many below a place of it
pub record HasPlaces {Row : Type 0} (groups : List ℕ) (levels edges tail : ℕ) (sweep : ClassSweep Row) : Type 0 where
  -- there is a place for what the edge of each piece does with the next one
  pub meetings : length sweep.front.meetings ≡ length groups
  pub order : edges ≤ vec_capacity sweep.front.order
  pub below : tail ≤ vec_capacity sweep.front.tail
  pub bench : HasBenchRoom levels edges sweep.bench

-- and gives none of it back
pub record KeepsPlaces {Row : Type 0} (old new : ClassSweep Row) : Type 0 where
  pub meetings : length new.front.meetings ≡ length old.front.meetings
  pub order : vec_capacity old.front.order ≤ vec_capacity new.front.order
  pub below : vec_capacity old.front.tail ≤ vec_capacity new.front.tail
  pub bench : KeepsBenchRoom old.bench new.bench
