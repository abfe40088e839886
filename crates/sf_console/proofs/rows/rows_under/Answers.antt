use Rattle.std.proofs.Common.{ap, get_or, inr, option_map, refl, string_bytes, sym}
use Rattle.sf_console.specs.Answers.{feature_row, row_under}
use Rattle.sf_console.proofs.LookupLemmas.{all_shown, each-missing, number-at, one_shown}
use Rattle.sf_console.proofs.rows.rows_under.Goals as goal

pub returns-in_default : goal.returns-in_default
returns-in_default c =
    let layer = c.args.layer.now in
    let ids = c.args.ids.now in
    let i = c.loop-id.id-index in
    inr (
      refl,
      each-missing (row_under layer) ids i (get_or ids i 0) (number-at ids i c.loop-id-test.true)
          (ap (option_map (λ feature. feature_row layer.columns (get_or ids i 0, feature))) (sym c.in_default.ensures)),
    )

pub loop-id-preserved : goal.loop-id-preserved
loop-id-preserved c =
    let layer = c.args.layer.now in
    let ids = c.args.ids.now in
    let i = c.loop-id.id-index in
    one_shown (row_under layer) ids i (get_or ids i 0) (feature_row layer.columns (get_or ids i 0, c.in-Some.feature.now)) (string_bytes c.loop-id.text) (string_bytes c.push_feature.new.text)
    c.loop-id.invariant (number-at ids i c.loop-id-test.true)
    (ap (option_map (λ feature. feature_row layer.columns (get_or ids i 0, feature))) (sym c.in-Some.ensures)) c.in_ok-push_feature.ensures

pub returns : goal.returns
returns c = all_shown (row_under c.args.layer.now) c.args.ids.now c.loop-id.id-index (string_bytes c.loop-id.text) c.loop-id.invariant c.loop-id-test.false
