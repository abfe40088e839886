use Rattle.std.proofs.Common.{◌≡◌, flat_map}
use Rattle.sf_rules.specs.Looks.{alone_of_entry}
use Rattle.sf_rules.specs.Rules.{first_of}
use Rattle.sf_rules.proofs.whole.first_alone.Given as goal

-- what is first of the features left is first of all
abbrev pub invariant-loop-id : goal.invariant-loop-id
invariant-loop-id l = first_of (flat_map (alone_of_entry l.between) l.id-iterator) ≡ first_of (flat_map (alone_of_entry l.between) l.between.first.now.features)
