use Rattle.std.proofs.Common.{◌≡◌, OnErr, OnOk, rules}
use Rattle.sf_features.specs.Features.{change_geometry}
use Rattle.sf_geometry.specs.Vertices.{insert_vertex}
use Rattle.sf_layers.proofs.Changed.{left-by, left-same}
use Rattle.sf_layers.proofs.Outcomes.{OnErr-map, OnOk-map}
use Rattle.sf_layers.proofs.layer.Layer.insert_vertex.Goals as goal

pub returns-clause-inserted : goal.returns-clause-inserted
returns-clause-inserted c =
    let e = c.change_feature.ensures in
    let is : OnOk c.change_feature.result (e.1 ≡ change_geometry (λ g. insert_vertex g c.args.part c.args.ring c.args.index c.args.point) e.0) = search rules in
    OnOk-map c.change_feature.result (λ i. left-by c.args.id (change_geometry (λ g. insert_vertex g c.args.part c.args.ring c.args.index c.args.point)) c.args.self.now c.change_feature.new.self e.0 e.1 e.2 i e.4) is

pub returns-clause-unchanged : goal.returns-clause-unchanged
returns-clause-unchanged c =
    let e = c.change_feature.ensures in
    let is : OnErr c.change_feature.result (e.1 ≡ e.0) = search rules in
    OnErr-map c.change_feature.result (λ i. left-same c.args.id c.args.self.now c.change_feature.new.self e.0 e.1 e.2 i e.4) is
