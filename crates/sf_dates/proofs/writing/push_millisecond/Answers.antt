use Rattle.std.proofs.Common.{◌≡◌, List, ℕ, [], ◌∷◌, ◌++◌, string_bytes, OnOk, ap, subst, ◌∙◌}
use Rattle.std.specs.Fmt.{styled_decimal}
use Rattle.sf_dates.proofs.Padded.{three_padded}
use Rattle.sf_dates.proofs.writing.push_millisecond.Goals as goal

pub returns : goal.returns
returns c =
    let n = c.args.millisecond in
    let digits = ap (λ spec. styled_decimal spec n) c.laid_out.ensures ∙ three_padded n c.requires in
    subst (λ (t : List ℕ). OnOk c.write.result (string_bytes c.write.new.self ≡ string_bytes c.args.text.now ++ t))
    (λ i. 46 ∷ (digits i ++ (90 ∷ []))) c.write.ensures.bytes
