use Rattle.std.proofs.Common.{◌≡◌, ◌∙◌, ap, sym, map}
use Rattle.std.proofs.lemmas.Result.{IfOk-weaker}
use Rattle.sf_grid.specs.Plane.{Coordinates}
use Rattle.sf_geometry.specs.Parts.{edge_of}
use Rattle.sf_nearness.specs.Segments.{dot_at, segments_of}
use Rattle.sf_nearness.proofs.ListedLaws.{dots-listed}
use Rattle.sf_nearness.proofs.segments.listed.Goals as goal

pub returns-in-MultiPoint : goal.returns-in-MultiPoint
returns-in-MultiPoint c =
    IfOk-weaker c.dots-in-MultiPoint.result (λ found. found.items ≡ map (λ (p : Coordinates). (p, p)) c.as_slice.result.now) (λ found. map edge_of found.items ≡ segments_of c.args.geometry.now)
    (λ found is. ap (map edge_of) is ∙ dots-listed c.as_slice.result.now ∙ ap (map dot_at) c.as_slice.ensures ∙ ap segments_of (sym c.in-MultiPoint.is)) c.dots-in-MultiPoint.ensures
