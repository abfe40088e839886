use Rattle.std.proofs.Common.{◌∙◌, sym}
use Rattle.std.proofs.lemmas.Option.{IfSome_then}
use Rattle.sf_linework.proofs.PointsLaws.{own-points}
use Rattle.sf_linework.proofs.points.known_by_own_points.Goals as goal

pub returns-in-MultiPoint-clause-value : goal.returns-in-MultiPoint-clause-value
returns-in-MultiPoint-clause-value c =
    IfSome_then c.known_of_places.result c.known_of_places.ensures
    (λ known of.
    own-points c.args.given.now c.args.lines.now c.in-MultiPoint.points c.as_slice.result.now known c.geometry.ensures.valid.valid
    (sym c.geometry.ensures.same ∙ c.in-MultiPoint.is) c.as_slice.ensures of)
