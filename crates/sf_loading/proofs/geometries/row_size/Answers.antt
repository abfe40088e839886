use Rattle.std.proofs.Common.{◌≡◌, ℕ, Result, Err, ap}
use Rattle.std.specs.Prelude.{nat_le}
use Rattle.std.proofs.lemmas.Bool.{lt-leb}
use Rattle.sf_format.specs.declared.defect.Defect.{Defect}
use Rattle.sf_format.specs.declared.defect.Defect.TheVariants.{TooManyVertices}
use Rattle.sf_format.specs.Readings.{number}
use Rattle.sf_format.specs.Format.{allowed, row_max}
use Rattle.sf_loading.proofs.StreamLaws.{Finds-field}
use Rattle.sf_loading.proofs.geometries.row_size.Goals as goal

pub returns-then-size-gt-ROW_MAX-clause-gives : goal.returns-then-size-gt-ROW_MAX-clause-gives
returns-then-size-gt-ROW_MAX-clause-gives g c =
    let size = c.in_ok-size.size in
    let refused : ◌≡◌ {A = Result ℕ Defect} (allowed (nat_le size row_max) TooManyVertices size) (Err TooManyVertices) = ap (λ t. allowed t TooManyVertices size) (lt-leb size row_max c.if-size-gt-ROW_MAX.true) in
    Finds-field (number 4) (λ (size : ℕ). allowed (nat_le size row_max) TooManyVertices size) size c.place-place.result TooManyVertices _ _ _ _ c.place-place.ensures refused c.in_ok-size.ensures
