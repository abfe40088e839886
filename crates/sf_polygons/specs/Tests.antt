-- Internal: who wants to trust the program need not read this file.
-- What is asked of a cell by its counts.
use Rattle.std.specs.Prelude.{ℕ, ◌==◌, Bool, ◌&&◌, ◌||◌, not, List, drop, nat_le, nat_lt, slice_index, sum}
use Rattle.std.specs.List.{count_by, list_any, zip}
use Rattle.sf_grid.specs.EvenOdd.{is_odd}
use Rattle.sf_cells.specs.Groups.{Item}

-- the counts of a group, on a cell and above it, of a cell that is inside what the group has; on it or inside it
abbrev pub is_inside : ℕ × ℕ → Bool
is_inside counts = (counts.0 == 0) && is_odd counts.1

abbrev pub is_within : ℕ × ℕ → Bool
is_within counts = nat_lt 0 counts.0 || is_odd counts.1

-- inside two of the groups
abbrev pub is_inside_two : List (ℕ × ℕ) → Bool
is_inside_two groups = nat_le 2 (count_by is_inside groups)

-- the counts of each group
abbrev pub groups_of : Item → List (ℕ × ℕ)
groups_of i = zip i.on i.above

-- more than a point, and two edges are on it
abbrev pub is_shared : Item → Bool
is_shared i = nat_le 1 i.dim && nat_le 2 (sum i.on)

-- where group 0 is a shell and the others are holes: on or inside a hole, and neither on nor inside the shell
abbrev pub is_outside : Item → Bool
is_outside i = list_any is_within (drop 1 (groups_of i)) && not (is_within (slice_index i.on 0, slice_index i.above 0))

-- inside two holes
abbrev pub is_nested : Item → Bool
is_nested i = is_inside_two (drop 1 (groups_of i))

-- where each group is of polygons: inside two of them
abbrev pub is_overlap : Item → Bool
is_overlap i = is_inside_two (groups_of i)
