use Rattle.std.proofs.Common.{◌≡◌, ◌++◌, codes, decimal, flat_map, length, map, string_bytes, take}
use Rattle.sf_console.specs.Answers.{line}
use Rattle.sf_console.proofs.rows.id_rows.Given as goal

-- the head, and the rows of the identifiers so far
abbrev pub invariant-loop-id : goal.invariant-loop-id
invariant-loop-id l = string_bytes l.text ≡ line (codes "rows " ++ decimal (length l.ids)) ++ flat_map line (map decimal (take l.id-index l.ids))
