use Rattle.std.proofs.Common.{◌≡◌, ◌∙◌, Some, ap, get_or, option_copied, refl, sym}
use Rattle.sf_layers.specs.Content.{feature_of}
use Rattle.sf_near.specs.declared.distant.Distant.{Distant}
use Rattle.sf_near.proofs.FoundLaws.{told-next, told-one}
use Rattle.sf_near.proofs.nearest.nearest_among.Goals as goal
use Rattle.sf_near.proofs.nearest.nearest_among.Goals.{After-unwrap-feature}

-- the feature of the next identifier
feature : (c : After-unwrap-feature) → feature_of c.args.layer.now (get_or c.args.ids.now c.loop-id.id-index 0) ≡ Some c.unwrap-feature.result.now
feature c = sym c.feature.ensures ∙ ap option_copied c.unwrap-feature.ensures

pub loop-id-preserved : goal.loop-id-preserved
loop-id-preserved c =
    let at = goal.at.loop-id-preserved c in
    let d : Distant = record { id = get_or c.args.ids.now c.loop-id.id-index 0; square = c.in_ok-square.square } in (
      told-next c.args.count c.loop-id.id-index 0 c.args.ids.now c.args.layer.now c.args.given.now d c.loop-id.found.items c.keep.new.found.items c.loop-id-test.true refl
          (told-one c.args.layer.now c.valid.result.now c.args.given.now d c.unwrap-feature.result.now (feature at.After-unwrap-feature) c.valid.ensures.same c.in_ok-square.ensures.least.is_number c.in_ok-square.ensures.equal)
          c.loop-id.invariant.0 c.in_ok-keep.ensures.kept,
      c.in_ok-keep.ensures.few,
    )
