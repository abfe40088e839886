use Rattle.std.proofs.Common.{refl, ◌+◌, ◌-◌, ◌<◌, ◌≤◌, length, arith, rules}
use Rattle.std.proofs.lemmas.Bool.{false≢true}
use Rattle.sf_strands.proofs.ChangedLaws.{edge-found}
use Rattle.sf_validity.proofs.EditLaws.{none-further}
use Rattle.sf_validity.proofs.changed.does_new_edge_meet.Goals as goal

pub returns-then-edge_meets_others-clause-found : goal.returns-then-edge_meets_others-clause-found
returns-then-edge_meets_others-clause-found c =
    let within : c.loop-number.number + 1 < length c.args.points.now = search rules in
    λ t. edge-found c.args.points.now c.loop-number.number c.requires.inside.tight within (c.if-edge_meets_others.ensures.0 refl)

pub loop-number-preserved : goal.loop-number-preserved
loop-number-preserved c =
    none-further c.args.points.now (c.args.index - 1) c.loop-number.number c.loop-number.invariant (λ a. false≢true (c.if-edge_meets_others.ensures.1 a))

pub returns-clause-none : goal.returns-clause-none
returns-clause-none c =
    let passed : c.args.index + c.args.count ≤ c.loop-number.number = search rules in
    λ h n l m. c.loop-number.invariant n l (omega (arith, m, passed))
