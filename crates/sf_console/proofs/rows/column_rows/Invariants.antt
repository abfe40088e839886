use Rattle.std.proofs.Common.{◌≡◌, ◌++◌, codes, decimal, flat_map, length, map, string_bytes, take}
use Rattle.sf_console.specs.Answers.{column_row, line}
use Rattle.sf_console.proofs.rows.column_rows.Given as goal

-- the head, and the rows of the columns so far
abbrev pub invariant-loop-place : goal.invariant-loop-place
invariant-loop-place l = (l.count ≡ length l.layer.columns)
    × (string_bytes l.text ≡ line (codes "rows " ++ decimal (length l.layer.columns)) ++ flat_map line (map column_row (take l.place l.layer.columns)))
