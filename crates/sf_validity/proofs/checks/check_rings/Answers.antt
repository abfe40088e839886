use Rattle.std.proofs.Common.{arith}
use Rattle.std.specs.List.{flat_map}
use Rattle.sf_valid_rules.specs.Rules.{ring_rules}
use Rattle.sf_validity.specs.Refusals.{RefusesBy}
use Rattle.sf_validity.proofs.RuleLaws.{err-passed, length-part, none-more, refuses-at}
use Rattle.sf_validity.proofs.checks.check_rings.Goals as goal

pub check_ring-requires : goal.check_ring-requires
check_ring-requires c =
    record { few = omega (arith, c.requires.few, length-part (λ ps. ps) c.args.rings.now c.loop-points.points-index c.points-item.result c.as_slice.result.now c.loop-points-test.true c.points-item.is c.as_slice.ensures) }

pub returns-in_err-check_ring-clause-refused : goal.returns-in_err-check_ring-clause-refused
returns-in_err-check_ring-clause-refused c =
    err-passed c.from_residual.result c.in_err-check_ring.field-0.0 (RefusesBy (flat_map ring_rules c.args.rings.now)) c.from_residual.ensures.1
    (refuses-at ring_rules c.args.rings.now c.loop-points.points-index c.points-item.result c.as_slice.result.now c.in_err-check_ring.field-0.0 c.loop-points-test.true c.points-item.is c.as_slice.ensures c.loop-points.invariant c.in_err-check_ring.ensures.refused)

pub loop-points-preserved : goal.loop-points-preserved
loop-points-preserved c =
    none-more ring_rules c.args.rings.now c.loop-points.points-index c.points-item.result c.as_slice.result.now c.loop-points-test.true c.points-item.is c.as_slice.ensures
    c.loop-points.invariant c.in_ok-check_ring.ensures.valid
