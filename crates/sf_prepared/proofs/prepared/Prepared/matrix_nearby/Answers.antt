use Rattle.std.proofs.Common.{◌∙◌, ap}
use Rattle.sf_prepared.specs.Nearby.{nearby}
use Rattle.sf_prepared.proofs.EdgeLaws.{pairs-are}
use Rattle.sf_prepared.proofs.prepared.Prepared.matrix_nearby.Goals as goal

pub walked_nearby-requires-clause-edges : goal.walked_nearby-requires-clause-edges
walked_nearby-requires-clause-edges c =
    c.as_slice.ensures.value ∙ c.in-Ok.ensures ∙ ap (nearby c.envelope-extent.result) (pairs-are c.args.given.now c.args.self.now c.requires)
