use Rattle.std.proofs.Common.{ap, subst, sym}
use Rattle.std.specs.Prelude.{IsTrue}
use Rattle.std.proofs.lemmas.Result.{IfOk-weaker}
use Rattle.sf_grid.specs.Fraction.{Fraction, fraction_eq}
use Rattle.sf_distance.specs.Mixed.{number_of}
use Rattle.sf_distance.specs.Squares.{IsLeastSquare}
use Rattle.sf_nearness.specs.Least.{least_square_of}
use Rattle.sf_nearness.specs.Segments.{IsOnSegments}
use Rattle.sf_nearness.specs.Sets.{IsOf}
use Rattle.sf_nearness.proofs.NearLaws.{distance-seen, shared-least}
use Rattle.sf_nearness.proofs.PairLaws.{is-computed}
use Rattle.sf_nearness.proofs.nearness.square_between.Goals as goal

pub returns-then-branch-clause-least : goal.returns-then-branch-clause-least
returns-then-branch-clause-least c =
    subst (λ (s : Fraction). IsLeastSquare (IsOf c.args.a.now) (IsOf c.args.b.now) s) (sym (ap number_of c.whole.ensures))
    (shared-least c.args.a.now c.args.b.now (c.in_ok-share_inside.ensures.shared c.if-branch.true))

pub returns-then-branch-clause-equal : goal.returns-then-branch-clause-equal
returns-then-branch-clause-equal c =
    is-computed c.args.a.now c.args.b.now (number_of c.whole.result) c.in_ok-share_inside.ensures.valid.0 c.in_ok-share_inside.ensures.valid.1 (returns-then-branch-clause-least c)

pub returns-clause-least : goal.returns-clause-least
returns-clause-least c =
    let a = c.args.a.now in
    let b = c.args.b.now in
    IfOk-weaker c.square_of_segments.result (λ square. IsLeastSquare (IsOnSegments a) (IsOnSegments b) (number_of square)) (λ square. IsLeastSquare (IsOf a) (IsOf b) (number_of square))
    (λ square l. distance-seen a b (number_of square) (c.in_ok-share_inside.ensures.seen c.if-branch.false) l) c.square_of_segments.ensures

pub returns-clause-equal : goal.returns-clause-equal
returns-clause-equal c =
    let a = c.args.a.now in
    let b = c.args.b.now in
    IfOk-weaker c.square_of_segments.result (λ square. IsLeastSquare (IsOnSegments a) (IsOnSegments b) (number_of square))
    (λ square. IsTrue (fraction_eq (number_of square) (least_square_of a b)))
    (λ square l.
    is-computed a b (number_of square) c.in_ok-share_inside.ensures.valid.0 c.in_ok-share_inside.ensures.valid.1
    (distance-seen a b (number_of square) (c.in_ok-share_inside.ensures.seen c.if-branch.false) l))
    c.square_of_segments.ensures
