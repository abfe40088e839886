use Rattle.std.proofs.Common.{◌≡◌, take, drop}
use Rattle.sf_commands.specs.ValueLists.{around_to, ends_from}
use Rattle.sf_commands.proofs.ValueListLemmas.{further_front}
use Rattle.sf_commands.proofs.value_lists.around_to.Given as goal

-- the ends in what is left, with what was gone through in front of the first
abbrev pub invariant-loop-place : goal.invariant-loop-place
invariant-loop-place l = around_to l.fn.text ≡ further_front (take l.place l.fn.text) (ends_from l.within l.begins (drop l.place l.fn.text))
