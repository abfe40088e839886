use Rattle.std.proofs.Common.{◌≡◌, None, drop, option_copied}
use Rattle.sf_rules.specs.Breaks.{least_from}
use Rattle.sf_rules.specs.Doubles.{doubles_from}
use Rattle.sf_rules.proofs.doubles.least_double.Given as goal

-- the least so far and the pairs of the keys left come to that of all
abbrev pub invariant-loop-key : goal.invariant-loop-key
invariant-loop-key l = least_from l.least (doubles_from (option_copied l.last) (drop l.key-index l.keys)) ≡ least_from None (doubles_from None l.keys)
