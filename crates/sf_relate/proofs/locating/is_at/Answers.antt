use Rattle.std.proofs.Common.{◌∙◌}
use Rattle.sf_relate.proofs.NeighbourLaws.{same-on-grid}
use Rattle.sf_relate.proofs.locating.is_at.Goals as goal

pub returns : goal.returns
returns c = c.eq.ensures ∙ same-on-grid c.args.a c.args.b
