use Rattle.std.proofs.Common.{◌^◌, ◌<◌, ◌%◌, ℕ, ◌∙◌, ap, sym, subst}
use Rattle.std.proofs.lemmas.Nat.{mod_below}
use Rattle.sf_decimals.proofs.Digits.{pow_some}
use Rattle.sf_decimals.proofs.writing.push_unsigned.Goals as goal

pub nonzero_div-magnitude : goal.nonzero_div-magnitude
nonzero_div-magnitude c = subst (λ (u : ℕ). 0 < u) (sym (c.pow-unit.ensures ∙ ap (λ k. 10 ^ k) c.from.ensures)) (pow_some c.args.places)

pub nonzero_rem-magnitude : goal.nonzero_rem-magnitude
nonzero_rem-magnitude c = subst (λ (u : ℕ). 0 < u) (sym (c.pow-unit.ensures ∙ ap (λ k. 10 ^ k) c.from.ensures)) (pow_some c.args.places)

pub push_padded-requires-clause-fits : goal.push_padded-requires-clause-fits
push_padded-requires-clause-fits c = subst (λ (u : ℕ). c.args.magnitude % u < 10 ^ c.args.places) (sym (c.pow-unit.ensures ∙ ap (λ k. 10 ^ k) c.from.ensures)) (mod_below c.args.magnitude (10 ^ c.args.places) (pow_some c.args.places))
