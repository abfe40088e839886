use Rattle.std.proofs.Common.{◌≡◌, ◌∙◌, ap, sym, Some, slice_get, string_bytes}
use Rattle.std.specs.Option.{option_copied}
use Rattle.sf_console.specs.Answers.{shown_value}
use Rattle.sf_console.proofs.RowLemmas.{pieces-more}
use Rattle.sf_console.proofs.rows.push_values.Goals as goal

pub loop-place-preserved : goal.loop-place-preserved
loop-place-preserved c =
    let columns = c.args.layer.now.columns in
    let column = c.unwrap.result.now in
    let at : slice_get columns c.loop-place.place ≡ Some column = sym c.column_at.ensures ∙ ap option_copied c.unwrap.ensures in
    pieces-more (shown_value c.args.feature.now) (string_bytes c.args.text.now) (string_bytes c.loop-place.text) (string_bytes c.push_value.new.text) columns c.loop-place.place column at c.loop-place.invariant c.in_ok-push_value.ensures
