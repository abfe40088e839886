use Rattle.std.proofs.Common.{◌≡◌, [], length}
use denote.Text.{Utf8}
use denote.Shadow.{shadow}
use Rattle.sf_words.specs.Parts.{parts_of}
use Rattle.sf_commands.specs.GroupTexts.{members_behind}
use Rattle.sf_commands.proofs.group_text.group_of_parts.Given as goal

-- the members so far, and those of the parts that are left behind them
abbrev pub invariant-loop-member : goal.invariant-loop-member
invariant-loop-member l = record {
  text : shadow (Utf8 l.rest);
  behind : members_behind [] (parts_of l.fn.text) ≡ members_behind l.group (parts_of l.rest);
}

abbrev pub decreases-loop-member : goal.decreases-loop-member
decreases-loop-member l = length l.rest
