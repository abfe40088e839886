use Rattle.std.proofs.Common.{◌∙◌, ap, map}
use Rattle.sf_geometry.specs.Parts.{edge_of}
use Rattle.sf_distance.specs.Mixed.{number_of}
use Rattle.sf_nearness.proofs.ListedLaws.{least-listed}
use Rattle.sf_nearness.proofs.nearness.square_of_segments.Goals as goal

pub returns : goal.returns
returns c =
    least-listed c.args.a.now c.args.b.now c.as_slice.result.now c.as_slice-2.result.now (number_of c.least_square.result)
    (ap (map edge_of) c.as_slice.ensures.value ∙ c.in_ok-first.ensures.are) (ap (map edge_of) c.as_slice-2.ensures.value ∙ c.in_ok-second.ensures.are)
    c.least_square.ensures
