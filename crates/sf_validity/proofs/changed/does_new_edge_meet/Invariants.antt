use Rattle.std.proofs.Common.{◌-◌}
use Rattle.sf_validity.specs.Changed.{NoneMeets}
use Rattle.sf_validity.proofs.changed.does_new_edge_meet.Given as goal

-- none of the edges that were passed meets another one
abbrev pub invariant-loop-number : goal.invariant-loop-number
invariant-loop-number l = NoneMeets l.points (l.index - 1) l.number
