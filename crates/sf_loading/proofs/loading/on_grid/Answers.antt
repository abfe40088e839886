use Rattle.std.proofs.Common.{ℕ, refl, subst}
use Rattle.std.specs.Prelude.{nat_eq}
use Rattle.sf_format.specs.declared.defect.Defect.TheVariants.{BadFile}
use Rattle.sf_format.specs.Readings.{number}
use Rattle.sf_format.specs.Format.{allowed, bits_of}
use Rattle.sf_loading.specs.Streaming.{Judges}
use Rattle.sf_loading.proofs.StreamLaws.{Gives-ruled}
use Rattle.sf_loading.proofs.loading.on_grid.Goals as goal

pub returns : goal.returns
returns g c =
    let n = c.in_ok-byte.byte in
    Gives-ruled (λ v. v) (number 1) (λ (byte : ℕ). allowed (nat_eq byte (bits_of c.args.version)) BadFile c.args.version) n (allowed (nat_eq n (bits_of c.args.version)) BadFile c.args.version) c.place-place.result
    c.allowed.result _ _ _ _ c.place-place.ensures c.in_ok-byte.ensures refl (subst (λ (bits : ℕ). Judges (λ v. v) c.place-place.result (allowed (nat_eq n bits) BadFile c.args.version) c.allowed.result) c.bits_of.ensures c.allowed.ensures)
