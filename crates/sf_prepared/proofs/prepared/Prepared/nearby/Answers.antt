use Rattle.std.proofs.Common.{◌≡◌, filter, subst}
use Rattle.std.specs.Prelude.{IfOk}
use Rattle.sf_geometry.specs.Envelope.{extents_meet}
use Rattle.sf_edge_tree.specs.Meeting.{extent_of_edge}
use Rattle.sf_prepared.specs.Nearby.{nearby}
use Rattle.sf_prepared.proofs.prepared.Prepared.nearby.Goals as goal

pub returns : goal.returns
returns c =
    subst (λ pairs. IfOk c.near.result (λ near. near.items ≡ nearby c.args.extent.now pairs)) c.self.view_is
    (subst (λ box. IfOk c.near.result (λ near. near.items ≡ filter (λ pair. extents_meet (extent_of_edge pair) box) c.self.inside.edges)) c.columns_over.ensures c.near.ensures)
