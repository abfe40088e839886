use Rattle.std.proofs.Common.{◌∙◌, ap, map}
use Rattle.sf_geometry.specs.Parts.{edge_of, edges_of}
use Rattle.sf_prepared.proofs.prepared.Prepared.new.Goals as goal

pub returns : goal.returns
returns c = ap (map edge_of) c.in_ok-tree.ensures ∙ c.in_ok-edges.ensures ∙ ap edges_of c.geometry.ensures.same
