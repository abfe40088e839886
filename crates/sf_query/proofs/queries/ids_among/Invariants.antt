use Rattle.std.proofs.Common.{◌≡◌, filter, take}
use Rattle.sf_query.specs.Answers.{is_asked_at}
use Rattle.sf_query.proofs.queries.ids_among.Given as goal

-- those of the identifiers so far whose features are as asked
abbrev pub invariant-loop-id : goal.invariant-loop-id
invariant-loop-id l = l.ids.items ≡ filter (is_asked_at l.layer l.ask l.given) (take l.id-index l.near)
