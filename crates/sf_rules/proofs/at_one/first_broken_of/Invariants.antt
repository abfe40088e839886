use Rattle.std.proofs.Common.{◌≡◌, drop}
use Rattle.sf_rules.specs.Rules.{broken_from, first_broken}
use Rattle.sf_rules.proofs.at_one.first_broken_of.Given as goal

-- what breaks the rules that are left first is what breaks all first
abbrev pub invariant-loop-place : goal.invariant-loop-place
invariant-loop-place l = broken_from l.place l.store (drop l.place l.rules) ≡ first_broken l.store l.rules
