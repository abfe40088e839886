use Rattle.std.proofs.Common.{◌≡◌, drop, max}
use Rattle.sf_cells.specs.Groups.{group_count}
use Rattle.sf_sweep.proofs.classes.group_count.Given as goal

-- the count so far, and that of what is left
abbrev pub invariant-loop-group : goal.invariant-loop-group
invariant-loop-group l = max l.count (group_count (drop l.group-index l.groups)) ≡ group_count l.groups
