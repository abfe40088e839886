use Rattle.std.proofs.Common.{◌≡◌, ◌≤◌, ◌+◌, ◌∷◌, drop, length}
use Rattle.sf_geometry.specs.Lists.{tight}
use Rattle.sf_geometry.proofs.edges.tight_length.Given as goal

-- the points that were passed, and those of what is left; no more were passed than there are
abbrev pub invariant-loop-to : goal.invariant-loop-to
invariant-loop-to l =
    (l.length + length (tight (l.from ∷ drop l.to-index l.others)) ≡ l.initial.length + length (tight (l.initial.from ∷ l.others)))
    × (l.length ≤ l.to-index + 1)
