use Rattle.std.proofs.Common.{◌≡◌, filter, take, nat_lt}
use Rattle.sf_query.proofs.queries.ids_behind.Given as goal

-- those so far that are behind
abbrev pub invariant-loop-other : goal.invariant-loop-other
invariant-loop-other l = l.behind.items ≡ filter (λ other. nat_lt l.id other) (take l.other-index l.ids)
