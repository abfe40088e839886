use Rattle.std.proofs.Common.{rules}
use Rattle.sf_features.specs.Features.{with_geometry}
use Rattle.sf_layers.proofs.Changed.{left-by}
use Rattle.sf_layers.proofs.layer.Layer.exchange_geometry.Goals as goal

pub returns-clause-put : goal.returns-clause-put
returns-clause-put c =
    let e = c.change_feature.ensures in
    left-by c.args.id (with_geometry c.args.valid) c.args.self.now c.change_feature.new.self e.0 e.1 e.2 (search rules) e.4
