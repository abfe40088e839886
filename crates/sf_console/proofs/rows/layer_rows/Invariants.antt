use Rattle.std.proofs.Common.{◌≡◌, ◌++◌, codes, decimal, flat_map, length, map, string_bytes, take}
use Rattle.sf_console.specs.Answers.{layer_row, line}
use Rattle.sf_console.proofs.rows.layer_rows.Given as goal

-- the head, and the rows of the layers so far
abbrev pub invariant-loop-place : goal.invariant-loop-place
invariant-loop-place l = (l.count ≡ length l.store)
    × (string_bytes l.text ≡ line (codes "rows " ++ decimal (length l.store)) ++ flat_map line (map layer_row (take l.place l.store)))
