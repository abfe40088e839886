use Rattle.std.proofs.Common.{◌≡◌, ◌++◌, codes, decimal, flat_map, length, map, string_bytes, take}
use Rattle.sf_console.specs.Answers.{line}
use Rattle.sf_console.specs.RuleRows.{rule_row}
use Rattle.sf_console.proofs.rules.rule_rows.Given as goal

-- the head, and the rows of the rules so far
abbrev pub invariant-loop-rule : goal.invariant-loop-rule
invariant-loop-rule l = string_bytes l.text ≡ line (codes "rows " ++ decimal (length l.rules)) ++ flat_map line (map rule_row (take l.rule-index l.rules))
