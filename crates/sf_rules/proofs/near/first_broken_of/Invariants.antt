use Rattle.std.proofs.Common.{◌≡◌, None, drop}
use Rattle.sf_layers.specs.Content.{Content}
use Rattle.sf_patches.specs.Patches.{patched}
use Rattle.sf_rules.specs.Underway.{ComesOf}
use Rattle.sf_rules.specs.Rules.{broken_from, first_broken}
use Rattle.sf_rules.proofs.near.first_broken_of.Given as goal

-- the rules that are left held before, and what breaks them is what breaks all
abbrev pub invariant-loop-place : goal.invariant-loop-place
invariant-loop-place l =
    ((old : Content) × ComesOf old l.store l.made × (broken_from l.place old (drop l.place l.rules) ≡ None))
    × (broken_from l.place (patched l.store l.leaving) (drop l.place l.rules) ≡ first_broken (patched l.store l.leaving) l.rules)
