use Rattle.std.proofs.Common.{◌≡◌, ap, arith, length, rules, ◌∙◌, ◌-◌, slice_set}
use Rattle.sf_geometry.specs.Vertices.{ring_of, ring_vertices}
use Rattle.sf_geometry.proofs.ChangeLaws.{closed-again}
use Rattle.sf_geometry.proofs.change.Sequence+GridPoint.close.Goals as goal

pub returns : goal.returns
returns c =
    let same : c.self.inside.values.items ≡ c.args.self.now = search rules in
    let last : c.len-last.result ≡ length c.self.inside.values.items = search rules in
    ap (λ n. slice_set c.self.inside.values.items (n - 1) c.index.result.now) last
    ∙ closed-again c.self.inside.values.items c.index.result.now (omega (arith, ap length same, c.requires)) c.index.ensures
    ∙ ap (λ ps. ring_of (ring_vertices ps)) same
