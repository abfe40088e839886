use Rattle.std.proofs.Common.{ℕ, []}
use Rattle.std.specs.Prelude.{nat_le}
use Rattle.sf_wkb.specs.Grammar.{read_in}
use Rattle.sf_layers.specs.WellFormed.{layers_max}
use Rattle.sf_format.specs.declared.defect.Defect.TheVariants.{IdsExhausted}
use Rattle.sf_format.specs.Readings.{done, field, items, number}
use Rattle.sf_format.specs.Format.{allowed, layer, layers}
use Rattle.sf_loading.proofs.StreamLaws.{Goes-then, Reaches-after}
use Rattle.sf_loading.proofs.layers.layers.Goals as goal

pub returns : goal.returns
returns g c = Reaches-after (layers (read_in c.args.grid)) (items (layer (read_in c.args.grid)) c.in_ok-count.count []) (λ s. done s) c.counted_layers.result _ _ _ _ _ _
    (Goes-then (field (number 4) (λ (n : ℕ). allowed (nat_le n layers_max) IdsExhausted n)) (λ (n : ℕ). items (layer (read_in c.args.grid)) n []) c.in_ok-count.count _ _ _ _ c.in_ok-count.ensures.gives)
    c.counted_layers.ensures
