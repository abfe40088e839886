use Rattle.std.proofs.Common.{◌≡◌, ◌-◌, ap, length, rules, sym, ◌∙◌}
use Rattle.std.specs.Prelude.{None, Ok}
use Rattle.sf_geometry.specs.Changes.{made, place_fault}
use Rattle.sf_geometry.specs.Vertices.{ring_of, ring_vertices}
use Rattle.sf_geometry.proofs.ChangeLaws.{ring-changed}
use Rattle.sf_geometry.proofs.change.Sequence+GridPoint.change_ring.Goals as goal

pub returns-clause-changed : goal.returns-clause-changed
returns-clause-changed c =
    let place : place_fault c.args.change.now c.args.index (length c.args.self.now - 1) ≡ None = search rules in
    let done : c.make.new.self ≡ made c.args.change.now c.args.index c.args.self.now = search rules in
    ring-changed c.args.change.now c.args.index c.args.self.now place c.requires.filled
    ∙ ap (λ ps. Ok (ring_of (ring_vertices ps))) (sym done)
    ∙ ap Ok (sym c.close.ensures)
