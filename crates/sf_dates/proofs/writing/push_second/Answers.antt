use Rattle.std.proofs.Common.{◌≡◌, ◌<◌, ◌/◌, ◌%◌, List, ℕ, ◌∷◌, ◌++◌, string_bytes, OnOk, ap, subst, ◌∙◌, arith}
use Rattle.std.specs.Fmt.{styled_decimal}
use Rattle.sf_dates.proofs.Padded.{two_padded}
use Rattle.sf_dates.proofs.writing.push_second.Goals as goal

sixty : (n : ℕ) → n % 60 < 100
sixty n = omega arith

pub returns : goal.returns
returns c =
    let n = c.args.second in
    let within : n < 86400 = c.requires in
    let hour = ap (λ spec. styled_decimal spec (n / 3600)) c.laid_out.ensures ∙ two_padded (n / 3600) (omega (arith, within)) in
    let minute = ap (λ spec. styled_decimal spec (n / 60 % 60)) c.laid_out-2.ensures ∙ two_padded (n / 60 % 60) (sixty (n / 60)) in
    let second = ap (λ spec. styled_decimal spec (n % 60)) c.laid_out-3.ensures ∙ two_padded (n % 60) (sixty n) in
    subst (λ (t : List ℕ). OnOk c.write.result (string_bytes c.write.new.self ≡ string_bytes c.args.text.now ++ t))
    (λ i. 84 ∷ (hour i ++ (58 ∷ (minute i ++ (58 ∷ second i))))) c.write.ensures.bytes
