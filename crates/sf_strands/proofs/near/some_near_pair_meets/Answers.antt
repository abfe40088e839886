use Rattle.std.proofs.Common.{◌<◌, ◌∙◌, length, subst}
use Rattle.sf_strands.proofs.NearLaws.{near-answers, within-ends}
use Rattle.sf_strands.proofs.near.some_near_pair_meets.Goals as goal

pub find_pair-requires : goal.find_pair-requires
find_pair-requires c =
    λ i j before within.
    (c.requires, before, within-ends c.args.points.now j (subst (λ edges. j < length edges) (c.in_ok-tree.ensures ∙ c.in_ok-edges_between.ensures) within))

pub returns : goal.returns
returns c =
    near-answers c.args.points.now c.in_ok-tree.tree c.find_pair.result c.requires (c.in_ok-tree.ensures ∙ c.in_ok-edges_between.ensures) c.find_pair.ensures
