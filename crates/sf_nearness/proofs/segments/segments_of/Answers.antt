use Rattle.std.proofs.Common.{◌≡◌, ◌<◌, length, map}
use Rattle.std.proofs.lemmas.Result.{IfOk-weaker}
use Rattle.sf_geometry.specs.Parts.{edge_of}
use Rattle.sf_nearness.specs.Segments.{segments_of}
use Rattle.sf_nearness.proofs.ListedLaws.{some-listed}
use Rattle.sf_nearness.proofs.segments.segments_of.Goals as goal

pub returns-clause-some : goal.returns-clause-some
returns-clause-some c =
    IfOk-weaker c.listed.result (λ found. map edge_of found.items ≡ segments_of c.geometry.result.now) (λ found. 0 < length found.items)
    (λ found are. some-listed c.args.geometry.now c.geometry.result.now found.items c.geometry.ensures.valid.valid c.geometry.ensures.same are) c.listed.ensures
