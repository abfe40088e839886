use Rattle.std.proofs.Common.{◌++◌, ap, subst, arith, length}
use Rattle.std.specs.List.{flat_map}
use Rattle.sf_geometry.specs.Parts.{joined}
use Rattle.sf_valid_rules.specs.Rules.{polygon_rules, ring_rules}
use Rattle.sf_valid_rules.specs.Validity.{IsFirstIn}
use Rattle.sf_validity.specs.Refusals.{RefusesBy}
use Rattle.sf_validity.proofs.RuleLaws.{err-passed, first-right, length-part, none-append, points-each, refuses-at, refuses-left, rings-each, rings-passed}
use Rattle.sf_validity.proofs.checks.check_polygons.Goals as goal

pub check_rings-requires : goal.check_rings-requires
check_rings-requires c =
    record { few = omega (arith, c.requires.few, ap length (points-each c.args.polygons.now), length-part (λ rings. joined rings) c.args.polygons.now c.loop-rings.rings-index c.rings-item.result c.as_slice.result.now c.loop-rings-test.true c.rings-item.is c.as_slice.ensures) }

pub returns-in_err-check_rings-clause-refused : goal.returns-in_err-check_rings-clause-refused
returns-in_err-check_rings-clause-refused c =
    err-passed c.from_residual.result c.in_err-check_rings.field-0.0 (RefusesBy (flat_map ring_rules (joined c.args.polygons.now) ++ polygon_rules c.args.polygons.now)) c.from_residual.ensures.1
    (refuses-left (flat_map ring_rules (joined c.args.polygons.now)) (polygon_rules c.args.polygons.now) c.in_err-check_rings.field-0.0
    (subst (λ rules. RefusesBy rules c.in_err-check_rings.field-0.0) (rings-each c.args.polygons.now)
    (refuses-at (λ rings. flat_map ring_rules rings) c.args.polygons.now c.loop-rings.rings-index c.rings-item.result c.as_slice.result.now c.in_err-check_rings.field-0.0 c.loop-rings-test.true c.rings-item.is c.as_slice.ensures c.loop-rings.invariant c.in_err-check_rings.ensures.refused)))

pub first_fault-requires-clause-rings : goal.first_fault-requires-clause-rings
first_fault-requires-clause-rings c = rings-passed c.loop-rings.rings-index c.args.polygons.now c.loop-rings-test.false c.loop-rings.invariant

pub returns-in-Some-clause-refused : goal.returns-in-Some-clause-refused
returns-in-Some-clause-refused c =
    first-right (flat_map ring_rules (joined c.args.polygons.now)) (polygon_rules c.args.polygons.now) c.in-Some.fault
    (rings-passed c.loop-rings.rings-index c.args.polygons.now c.loop-rings-test.false c.loop-rings.invariant)
    (subst (λ fault. IsFirstIn (polygon_rules c.args.polygons.now) fault) c.in-Some.is c.in_ok-fault.ensures)

pub returns-in-None-clause-valid : goal.returns-in-None-clause-valid
returns-in-None-clause-valid c =
    none-append (flat_map ring_rules (joined c.args.polygons.now)) (polygon_rules c.args.polygons.now)
    (rings-passed c.loop-rings.rings-index c.args.polygons.now c.loop-rings-test.false c.loop-rings.invariant)
    (subst (λ fault. IsFirstIn (polygon_rules c.args.polygons.now) fault) c.in-None.is c.in_ok-fault.ensures)
