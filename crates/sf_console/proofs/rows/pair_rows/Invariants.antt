use Rattle.std.proofs.Common.{◌≡◌, ◌++◌, codes, decimal, flat_map, length, map, string_bytes, take}
use Rattle.sf_console.specs.Answers.{line, pair_row}
use Rattle.sf_console.proofs.rows.pair_rows.Given as goal

-- the head, and the rows of the pairs so far
abbrev pub invariant-loop-pair : goal.invariant-loop-pair
invariant-loop-pair l = string_bytes l.text ≡ line (codes "rows " ++ decimal (length l.pairs)) ++ flat_map line (map pair_row (take l.pair-index l.pairs))
