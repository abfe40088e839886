use Rattle.std.proofs.Common.{◌≡◌, take, drop}
use Rattle.sf_commands.specs.ValueLists.{listed, parts_from}
use Rattle.sf_commands.proofs.ValueListLemmas.{in_front}
use Rattle.sf_commands.proofs.value_lists.split_at_comma.Given as goal

-- the parts of what is left, with what was gone through in front of the first
abbrev pub invariant-loop-place : goal.invariant-loop-place
invariant-loop-place l = listed l.fn.text ≡ in_front (take l.place l.fn.text) (parts_from l.within (drop l.place l.fn.text))
