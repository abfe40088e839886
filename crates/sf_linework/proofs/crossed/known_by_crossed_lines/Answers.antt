use Rattle.std.proofs.Common.{◌≡◌, rules, subst, sym}
use Rattle.sf_known.specs.declared.known.Known.{Known}
use Rattle.sf_known.specs.Known.{Holds}
use Rattle.sf_relate.specs.Matrices.{matrix_of}
use Rattle.sf_relate.specs.Places.{shape_of}
use Rattle.sf_linework.specs.Crossed.{known_of_crossed}
use Rattle.sf_linework.proofs.CrossedLaws.{crossing_shows}
use Rattle.sf_linework.proofs.crossed.known_by_crossed_lines.Goals as goal

pub returns-in-Ok-true-clause-holds : goal.returns-in-Ok-true-clause-holds
returns-in-Ok-true-clause-holds c =
    let a = c.args.a.now in
    let b = c.args.b.now in
    let is : c.match-of.known ≡ known_of_crossed (shape_of a) (shape_of b) = search rules in
    subst (λ (k : Known). Holds k (matrix_of a b)) (sym is)
    (crossing_shows a b c.geometry.ensures.valid.valid c.geometry-2.ensures.valid.valid (c.in-Ok-true.ensures c.in-Ok-true.field-0-test))
