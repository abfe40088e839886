use Rattle.std.proofs.Common.{◌≡◌, ap, ◌∙◌, [], ◌∷◌, length, rules, subst, sym}
use Rattle.sf_relate.specs.AllPieces.{all_grouped}
use Rattle.sf_relate.specs.Matrices.{matrix_of}
use Rattle.sf_relate.specs.Places.{gathered_by, is_areal, shape_of}
use Rattle.sf_relate.proofs.MatrixLaws.{begun-with, found-is}
use Rattle.sf_relate.proofs.SinkLaws.{IsFound}
use Rattle.sf_relate.proofs.SizeLaws.{CanWalk, can-walk}
use Rattle.sf_relate.proofs.walking.walked.Goals as goal
use Rattle.sf_relate.proofs.walking.walked.Goals.{After-is_areal-2}

-- the pieces are those of both
both : (c : After-is_areal-2) → c.in_ok-pieces.pieces ≡ all_grouped c.args.a.now c.args.b.now
both c =
    c.in_ok-pieces.ensures
    ∙ ap (λ g. all_grouped g c.geometry-second.result.now) c.geometry-first.ensures.same
    ∙ ap (λ g. all_grouped c.args.a.now g) c.geometry-second.ensures.same

can : (c : After-is_areal-2) → CanWalk c.in_ok-pieces.pieces
can c = can-walk c.args.a.now c.args.b.now c.in_ok-pieces.pieces c.geometry-first.ensures.valid.valid c.geometry-second.ensures.valid.valid (both c)

pub walk-requires-clause-few : goal.walk-requires-clause-few
walk-requires-clause-few c = (can (goal.at.walk-requires-clause-few c).After-is_areal-2).few

pub walk-requires-clause-groups_in_range : goal.walk-requires-clause-groups_in_range
walk-requires-clause-groups_in_range c = (can (goal.at.walk-requires-clause-groups_in_range c).After-is_areal-2).groups_in_range

pub returns : goal.returns
returns c =
    let at = goal.at.returns c in
    let a = c.args.a.now in
    let b = c.args.b.now in
    let aim = c.args.aim.now in
    let known = c.args.known.now in
    let first : c.of-first_shape.result ≡ shape_of a = c.of-first_shape.ensures ∙ ap shape_of c.geometry-first.ensures.same in
    let second : c.of-second_shape.result ≡ shape_of b = c.of-second_shape.ensures ∙ ap shape_of c.geometry-second.ensures.same in
    let nine : length known.least ≡ 9 = search rules in
    let found =
    found-is a b c.in_ok-pieces.pieces (c.is_areal.result ∷ c.is_areal-2.result ∷ []) aim known (gathered_by c.new-sink.result) (gathered_by c.walk.new.sink)
    c.geometry-first.ensures.valid.valid c.geometry-second.ensures.valid.valid nine (record { least = c.requires.least; most = c.requires.most; contact = c.requires.contact })
    (both at.After-is_areal-2)
    (ap (λ x. x ∷ c.is_areal-2.result ∷ []) (c.is_areal.ensures ∙ ap is_areal first) ∙ ap (λ x. is_areal (shape_of a) ∷ x ∷ []) (c.is_areal-2.ensures ∙ ap is_areal second))
    (c.new-sink.ensures ∙ begun-with c.of-first_shape.result c.of-second_shape.result (shape_of a) (shape_of b) aim known first second)
    c.in_ok-walk.ensures.ok in
    let is = subst (IsFound known aim (matrix_of a b)) (sym c.found.ensures) found in
    record { holds = is.holds; as_much = is.as_much; enough = is.enough }
