use Rattle.std.proofs.Common.{◌≡◌, ◌++◌, codes, drop, string_bytes}
use denote.Text.{Utf8}
use denote.Shadow.{shadow}
use Rattle.sf_console.specs.RuleRows.{list_words}
use Rattle.sf_console.proofs.rules.push_list.Given as goal

-- what was pushed, and what is left behind it
abbrev pub invariant-loop-value : goal.invariant-loop-value
invariant-loop-value l = record {
  text : shadow (Utf8 l.before);
  pushed : string_bytes l.text ++ list_words l.before (drop l.value-index l.values) ≡ string_bytes l.initial.text ++ list_words (codes " ") l.values;
}
