use Rattle.std.proofs.Common.{◌≡◌, ◌++◌, string_bytes, OnOk, ℕ, List, subst}
use Rattle.sf_distance.proofs.TextLaws.{terms-of}
use Rattle.sf_distance.proofs.writing.push_square.Goals as goal

pub returns : goal.returns
returns c =
    subst (λ (t : List ℕ). OnOk c.push_terms.result (string_bytes c.push_terms.new.text ≡ string_bytes c.args.text.now ++ t))
    (terms-of c.args.square.now c.numerator-num.result c.denominator-den.result c.common_divisor-divisor.result c.numerator-num.ensures c.denominator-den.ensures.value c.common_divisor-divisor.ensures.value)
    c.push_terms.ensures
