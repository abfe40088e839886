use Rattle.std.proofs.Common.{◌∙◌, ap}
use Rattle.sf_geometry.specs.Envelope.{extents_meet}
use Rattle.sf_prepared.proofs.AboveLaws.{meets-at}
use Rattle.sf_prepared.proofs.nearby.is_in.Goals as goal

pub returns : goal.returns
returns c = c.meets.ensures ∙ ap (λ box. extents_meet box c.args.extent.now) c.at.ensures ∙ meets-at c.args.point c.args.extent.now
