use Rattle.std.specs.List.{flat_map}
use Rattle.sf_valid_rules.specs.Rules.{line_rules}
use Rattle.sf_validity.specs.Refusals.{RefusesBy}
use Rattle.sf_validity.proofs.RuleLaws.{err-passed, refuses-at}
use Rattle.sf_validity.proofs.checks.check_lines.Goals as goal

pub returns-in_err-check_line-clause-refused : goal.returns-in_err-check_line-clause-refused
returns-in_err-check_line-clause-refused c =
    err-passed c.from_residual.result c.in_err-check_line.field-0.0 (RefusesBy (flat_map line_rules c.args.lines.now)) c.from_residual.ensures.1
    (refuses-at line_rules c.args.lines.now c.loop-points.points-index c.points-item.result c.as_slice.result.now c.in_err-check_line.field-0.0 c.loop-points-test.true c.points-item.is c.as_slice.ensures c.loop-points.invariant c.in_err-check_line.ensures.refused)
