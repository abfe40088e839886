use Rattle.std.proofs.Common.{◌≡◌, ◌++◌, codes, decimal, flat_map, length, map, string_bytes, take}
use Rattle.sf_console.specs.Answers.{line}
use Rattle.sf_console.specs.NearRows.{told_row}
use Rattle.sf_console.proofs.nearest.nearest_rows.Given as goal

-- the head, and the rows of the features so far
abbrev pub invariant-loop-distant : goal.invariant-loop-distant
invariant-loop-distant l = string_bytes l.text ≡ line (codes "rows " ++ decimal (length l.found)) ++ flat_map line (map told_row (take l.distant-index l.found))
