use Rattle.std.proofs.Common.{ap, length, arith}
use Rattle.sf_rtree.proofs.Entries.{few_entries, length-boxes_of}
use Rattle.sf_rtree.proofs.tree.RTree.height.Goals as goal

pub levels-requires : goal.levels-requires
levels-requires c = few_entries c.self.inside.root c.self.invariant

pub returns-clause-few : goal.returns-clause-few
returns-clause-few c =
    omega (arith, c.levels.ensures.few, ap length c.self.view_is, length-boxes_of c.self.inside.root.entries c.self.invariant.distinct)

pub returns-clause-enough : goal.returns-clause-enough
returns-clause-enough c =
    λ h. omega (arith, c.levels.ensures.enough h, ap length c.self.view_is, length-boxes_of c.self.inside.root.entries c.self.invariant.distinct)
