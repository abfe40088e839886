use Rattle.std.proofs.Common.{◌++◌, ap, codes, decimal, get_or, inr, option_map, refl, string_bytes, sym}
use Rattle.sf_measure.specs.Texts.{measure_text}
use Rattle.sf_console.specs.Answers.{measured_row}
use Rattle.sf_console.proofs.LookupLemmas.{all_shown, each-missing, number-at, one_shown}
use Rattle.sf_console.proofs.rows.measured_rows.Goals as goal

pub returns-in_default : goal.returns-in_default
returns-in_default c =
    let layer = c.args.layer.now in
    let ids = c.args.ids.now in
    let i = c.loop-id.id-index in
    inr (
      refl,
      each-missing (measured_row c.args.measure layer) ids i (get_or ids i 0) (number-at ids i c.loop-id-test.true)
          (ap (option_map (λ feature. decimal (get_or ids i 0) ++ (codes " " ++ measure_text c.args.measure feature.geometry))) (sym c.in_default.ensures)),
    )

pub loop-id-preserved : goal.loop-id-preserved
loop-id-preserved c =
    let layer = c.args.layer.now in
    let ids = c.args.ids.now in
    let i = c.loop-id.id-index in
    one_shown (measured_row c.args.measure layer) ids i (get_or ids i 0) (decimal (get_or ids i 0) ++ (codes " " ++ measure_text c.args.measure c.in-Some.feature.now.geometry)) (string_bytes c.loop-id.text) (string_bytes c.push_measured.new.text)
    c.loop-id.invariant (number-at ids i c.loop-id-test.true)
    (ap (option_map (λ feature. decimal (get_or ids i 0) ++ (codes " " ++ measure_text c.args.measure feature.geometry))) (sym c.in-Some.ensures)) c.in_ok-push_measured.ensures

pub returns : goal.returns
returns c = all_shown (measured_row c.args.measure c.args.layer.now) c.args.ids.now c.loop-id.id-index (string_bytes c.loop-id.text) c.loop-id.invariant c.loop-id-test.false
