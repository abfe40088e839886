use Rattle.std.proofs.Common.{◌≡◌, ℕ, Result, Err, ap}
use Rattle.std.specs.Prelude.{nat_le}
use Rattle.std.proofs.lemmas.Bool.{lt-leb}
use Rattle.sf_layers.specs.WellFormed.{layers_max}
use Rattle.sf_format.specs.declared.defect.Defect.{Defect}
use Rattle.sf_format.specs.declared.defect.Defect.TheVariants.{IdsExhausted}
use Rattle.sf_format.specs.Readings.{number}
use Rattle.sf_format.specs.Format.{allowed}
use Rattle.sf_loading.proofs.StreamLaws.{Finds-field}
use Rattle.sf_loading.proofs.layers.layer_count.Goals as goal

pub returns-then-count-gt-LAYERS_MAX-clause-gives : goal.returns-then-count-gt-LAYERS_MAX-clause-gives
returns-then-count-gt-LAYERS_MAX-clause-gives g c =
    let n = c.in_ok-count.count in
    let refused : ◌≡◌ {A = Result ℕ Defect} (allowed (nat_le n layers_max) IdsExhausted n) (Err IdsExhausted) = ap (λ t. allowed t IdsExhausted n) (lt-leb n layers_max c.if-count-gt-LAYERS_MAX.true) in
    Finds-field (number 4) (λ (n : ℕ). allowed (nat_le n layers_max) IdsExhausted n) n c.place-place.result IdsExhausted _ _ _ _ c.place-place.ensures refused c.in_ok-count.ensures
