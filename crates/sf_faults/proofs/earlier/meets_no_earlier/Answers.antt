use Rattle.std.proofs.Common.{subst, sym, ◌∙◌, ◌<◌, length}
use Rattle.sf_strands.proofs.NearLaws.{ends-within}
use Rattle.sf_faults.proofs.CrossingLaws.{no-earlier}
use Rattle.sf_faults.proofs.earlier.meets_no_earlier.Goals as goal

pub bounds-edges-edge : goal.bounds-edges-edge
bounds-edges-edge c = subst (λ es. c.args.edge < length es) (sym (c.edges.ensures ∙ c.requires.edges)) (ends-within c.args.points.now c.args.edge c.requires.in_range)

pub returns : goal.returns
returns c =
    λ told.
    no-earlier c.args.points.now c.args.tree.now c.edges.result.now c.args.edge c.index-edges-edge.result c.at.result c.with-extent.result c.find_near.result c.requires.edges c.requires.in_range c.edges.ensures
    c.index-edges-edge.is c.at.ensures c.with-extent.ensures c.find_near.ensures (c.is_absent.ensures.0 told)
