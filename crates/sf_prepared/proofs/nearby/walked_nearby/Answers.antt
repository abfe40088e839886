use Rattle.std.proofs.Common.{◌∙◌, sym}
use Rattle.sf_prepared.proofs.NearbyLaws.{AreEnough, nearby-enough}
use Rattle.sf_prepared.proofs.nearby.walked_nearby.Goals as goal

-- what the steps up to the walk say
enough : (c : goal.Else-not-one_leaves) → AreEnough c.args.geometry.now c.args.area.now c.args.edges.now
enough c =
    nearby-enough c.args.geometry.now c.args.area.now c.args.extent.now c.args.edges.now c.requires.held c.requires.held_area c.requires.area c.requires.extent c.requires.edges
    (sym c.one_leaves.ensures ∙ c.if-not-one_leaves.false)

pub relate_nearby-requires-clause-few : goal.relate_nearby-requires-clause-few
relate_nearby-requires-clause-few c = (enough c).few

pub relate_nearby-requires-clause-long : goal.relate_nearby-requires-clause-long
relate_nearby-requires-clause-long c = (enough c).long

pub relate_nearby-requires-clause-places : goal.relate_nearby-requires-clause-places
relate_nearby-requires-clause-places c = (enough c).places

pub relate_nearby-requires-clause-beyond : goal.relate_nearby-requires-clause-beyond
relate_nearby-requires-clause-beyond c = (enough c).beyond
