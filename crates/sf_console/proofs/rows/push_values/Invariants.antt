use Rattle.std.proofs.Common.{◌≡◌, ◌++◌, flat_map, string_bytes, take}
use Rattle.sf_console.specs.Answers.{shown_value}
use Rattle.sf_console.proofs.rows.push_values.Given as goal

-- the values in the columns so far
abbrev pub invariant-loop-place : goal.invariant-loop-place
invariant-loop-place l = string_bytes l.text ≡ string_bytes l.fn.text ++ flat_map (shown_value l.feature) (take l.place l.layer.columns)
