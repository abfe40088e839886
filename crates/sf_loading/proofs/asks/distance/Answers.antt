use Rattle.std.proofs.Common.{◌∙◌, ℕ, ap, nat_lt, sym}
use Rattle.sf_distance.specs.Reaches.{reach_limit}
use Rattle.sf_format.specs.declared.defect.Defect.TheVariants.{BadFile}
use Rattle.sf_format.specs.Readings.{number}
use Rattle.sf_format.specs.Format.{allowed, present}
use Rattle.sf_loading.proofs.AskLaws.{allowed-present}
use Rattle.sf_loading.proofs.StreamLaws.{Gives-ruled}
use Rattle.sf_loading.proofs.asks.distance.Goals as goal

pub returns : goal.returns
returns g c =
    Gives-ruled (λ k. k) (number 8) (λ (n : ℕ). allowed (nat_lt n reach_limit) BadFile n) c.in_ok-thousandths.thousandths (present c.of_thousandths.result BadFile) c.place-place.result
    c.present.result _ _ _ _ c.place-place.ensures c.in_ok-thousandths.ensures
    (allowed-present (nat_lt c.in_ok-thousandths.thousandths reach_limit) c.in_ok-thousandths.thousandths ∙ ap (λ k. present k BadFile) (sym c.of_thousandths.ensures)) c.present.ensures
