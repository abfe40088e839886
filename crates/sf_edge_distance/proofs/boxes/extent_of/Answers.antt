use Rattle.std.proofs.Common.{subst, sym}
use Rattle.sf_geometry.specs.declared.extent.Extent.{Extent}
use Rattle.sf_edge_distance.specs.Boxes.{IsOver}
use Rattle.sf_edge_distance.proofs.BoxLaws.{over-fold}
use Rattle.sf_edge_distance.proofs.boxes.extent_of.Goals as goal

pub returns : goal.returns
returns c = subst (λ (e : Extent). IsOver e c.args.edges.now) (sym c.extent_from.ensures) (over-fold c.at.result c.args.edges.now)
