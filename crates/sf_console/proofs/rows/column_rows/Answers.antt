use Rattle.std.proofs.Common.{◌≡◌, ◌∙◌, ◌++◌, ◌∷◌, [], ap, sym, Some, slice_get, codes, decimal, length, string_bytes}
use Rattle.std.specs.Option.{option_copied}
use Rattle.sf_console.specs.Answers.{column_row, column_type_word, line}
use Rattle.sf_console.proofs.RowLemmas.{four, rows-more}
use Rattle.sf_console.proofs.rows.column_rows.Goals as goal

pub loop-place-preserved : goal.loop-place-preserved
unfolding lib.Utf8.encode
loop-place-preserved c =
    let columns = c.args.layer.now.columns in
    let column = c.unwrap-column.result.now in
    let text = string_bytes c.loop-place.text in
    let at : slice_get columns c.loop-place.place ≡ Some column = sym c.column_at.ensures ∙ ap option_copied c.unwrap-column.ensures in
    let named : string_bytes c.push_str.new.self ≡ text ++ column.name = c.in_ok-push_str.ensures.bytes ∙ ap (λ n. text ++ n) c.as_str.ensures in
    let parted : string_bytes c.push.new.self ≡ (text ++ column.name) ++ codes " " = c.in_ok-push.ensures.bytes ∙ ap (λ t. t ++ codes " ") named in
    let typed : string_bytes c.push_str-in-loop-place.new.self ≡ ((text ++ column.name) ++ codes " ") ++ column_type_word column.column_type =
    c.in_ok-push_str-2.ensures.bytes ∙ ap (λ w. string_bytes c.push.new.self ++ w) c.column_type_word.ensures ∙ ap (λ t. t ++ column_type_word column.column_type) parted in
    let pushed : string_bytes c.push-in-loop-place.new.self ≡ text ++ line (column_row column) =
    c.in_ok-push-2.ensures.bytes ∙ ap (λ t. t ++ 10 ∷ []) typed ∙ four text column.name (codes " ") (column_type_word column.column_type) (10 ∷ []) in
    (c.loop-place.invariant.0, rows-more column_row (line (codes "rows " ++ decimal (length columns))) text (string_bytes c.push-in-loop-place.new.self) columns c.loop-place.place column at c.loop-place.invariant.1 pushed)
