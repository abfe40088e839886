use Rattle.std.proofs.Common.{◌≡◌, map}
use Rattle.sf_layers.proofs.value_index.ValueIndex.run.Given as goal

-- the identifiers of the pairs so far
abbrev pub invariant-loop-pair : goal.invariant-loop-pair
invariant-loop-pair l = l.ids.items ≡ map (λ pair. pair.now.id) l.yielded
