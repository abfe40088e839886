use Rattle.std.proofs.Common.{IfErr, subst, sym}
use Rattle.std.specs.List.{flat_map}
use Rattle.sf_valid_rules.specs.Rules.{line_rules}
use Rattle.sf_validity.specs.Refusals.{Refuses, RefusesBy}
use Rattle.sf_validity.proofs.RuleLaws.{lines-refused}
use Rattle.sf_validity.proofs.checks.check.Goals as goal

pub returns-in-MultiLineString-clause-refused : goal.returns-in-MultiLineString-clause-refused
returns-in-MultiLineString-clause-refused c =
    subst (λ geometry. IfErr c.check_lines-in-MultiLineString.result (Refuses geometry)) (sym c.in-MultiLineString.is)
    (lines-refused c.check_lines-in-MultiLineString.result (flat_map line_rules c.in-MultiLineString.lines)
    (subst (λ lines. IfErr c.check_lines-in-MultiLineString.result (RefusesBy (flat_map line_rules lines))) c.as_slice.ensures c.check_lines-in-MultiLineString.ensures.refused))
