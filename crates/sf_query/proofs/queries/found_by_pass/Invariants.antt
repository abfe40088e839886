use Rattle.sf_query.specs.Answers.{is_near}
use Rattle.sf_query.proofs.FilterLaws.{IsPassing}
use Rattle.sf_query.proofs.QueryLaws.{passes}
use Rattle.sf_query.proofs.queries.found_by_pass.Given as goal

-- with what the features that are left come to, identifiers and number are the whole
abbrev pub invariant-loop-id : goal.invariant-loop-id
invariant-loop-id l = IsPassing (passes l.ask l.given) (is_near l.given) l.needs_contact l.layer.features l.id-iterator l.ids.items l.looked
