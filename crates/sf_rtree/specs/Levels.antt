-- Internal: who wants to trust the program need not read this file.
-- The levels of a tree that is built at once: members are cut into parts, one for each node.
use Rattle.std.specs.Prelude.{◌≡◌, ℕ, ◌*◌, ◌≤◌, List, length}
use Rattle.std.specs.List.{AllByRecursion}
use Rattle.sf_rtree.specs.declared.node.Branch.{Branch}
use Rattle.sf_rtree.specs.Boxed.{Boxed}
use Rattle.sf_rtree.specs.Nodes.{IsBranch, entries_below, levels_below, most_members}

-- a part has so many members, at least half of the most
pub record IsPart (size : ℕ) : Type 0 where
  pub enough : 4 ≤ size
  pub few : size ≤ most_members

-- so many members can be cut into so many parts
pub record CanPart (parts members : ℕ) : Type 0 where
  pub enough : 4 * parts ≤ members
  pub few : members ≤ most_members * parts

-- branches of one level, more than one, with these entries below them
pub record IsLevel (es : List Boxed) (bs : List Branch) : Type 0 where
  pub some : 2 ≤ length bs
  pub branches : AllByRecursion (IsBranch (levels_below bs)) bs
  pub entries : entries_below bs ≡ es
