use Rattle.sf_linework.proofs.PointsLaws.{first-points-hold, second-points-hold}
use Rattle.sf_linework.proofs.points.known_by_points.Goals as goal

pub returns-then-is_lines-clause-holds : goal.returns-then-is_lines-clause-holds
returns-then-is_lines-clause-holds c =
    first-points-hold c.args.a.now c.args.b.now c.known_by_own_points.result c.known_by_own_points.ensures.points c.known_by_own_points.ensures.value

pub returns-then-is_lines-2-clause-holds : goal.returns-then-is_lines-2-clause-holds
returns-then-is_lines-2-clause-holds c =
    second-points-hold c.args.a.now c.args.b.now c.in_ok-known.known c.transposed.result c.in_ok-known.ensures.points c.in_ok-known.ensures.value
    c.transposed.ensures
