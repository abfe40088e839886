use Rattle.std.proofs.Common.{◌≡◌, filter, nat_lt, take}
use Rattle.sf_near.proofs.asked.behind.Given as goal

-- those so far that are above
abbrev pub invariant-loop-other : goal.invariant-loop-other
invariant-loop-other l = l.behind.items ≡ filter (λ other. nat_lt l.id other) (take l.other-index l.ids)
