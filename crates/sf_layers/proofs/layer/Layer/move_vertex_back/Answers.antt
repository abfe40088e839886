use Rattle.std.proofs.Common.{rules}
use Rattle.sf_features.specs.Features.{change_geometry}
use Rattle.sf_geometry.specs.Vertices.{move_vertex}
use Rattle.sf_layers.proofs.Changed.{left-by}
use Rattle.sf_layers.proofs.layer.Layer.move_vertex_back.Goals as goal

pub returns-clause-moved : goal.returns-clause-moved
returns-clause-moved c =
    let e = c.change_feature.ensures in
    left-by c.args.id (change_geometry (λ g. move_vertex g c.args.part c.args.ring c.args.index c.args.point)) c.args.self.now c.change_feature.new.self e.0 e.1 e.2 (search rules) e.4
