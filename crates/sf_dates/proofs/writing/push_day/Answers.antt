use Rattle.std.proofs.Common.{◌≡◌, List, ℕ, ◌∷◌, ◌++◌, string_bytes, OnOk, ap, subst, ◌∙◌}
use Rattle.std.specs.Fmt.{styled_decimal}
use Rattle.sf_dates.proofs.Days.{small_from}
use Rattle.sf_dates.proofs.Padded.{two_padded, four_padded}
use Rattle.sf_dates.proofs.writing.push_day.Goals as goal

pub returns : goal.returns
returns c =
    let date = c.args.date.now in
    let small = small_from date.year date.month date.day c.requires in
    let year = ap (λ spec. styled_decimal spec date.year) c.laid_out.ensures ∙ four_padded date.year small.year in
    let month = ap (λ spec. styled_decimal spec date.month) c.laid_out-2.ensures ∙ two_padded date.month small.month in
    let day = ap (λ spec. styled_decimal spec date.day) c.laid_out-3.ensures ∙ two_padded date.day small.day in
    subst (λ (t : List ℕ). OnOk c.write.result (string_bytes c.write.new.self ≡ string_bytes c.args.text.now ++ t))
    (λ i. year i ++ (45 ∷ (month i ++ (45 ∷ day i)))) c.write.ensures.bytes
