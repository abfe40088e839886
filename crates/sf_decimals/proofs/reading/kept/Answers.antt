use Rattle.std.proofs.Common.{◌≡◌, ◌∙◌, ◌∷◌, [], length, ◌+◌, sym, ap, arith, length-append}
use Rattle.sf_decimals.proofs.Digits.{kept-front, kept-whole}
use Rattle.sf_decimals.proofs.reading.kept.Goals as goal

pub loop-front-preserved : goal.loop-front-preserved
loop-front-preserved c = kept-front c.loop-front.left.now c.in-Some.front.now c.in-Some.ensures ∙ c.loop-front.invariant

pub loop-front-smaller : goal.loop-front-smaller
loop-front-smaller c =
    let len : length c.loop-front.left.now ≡ length c.in-Some.front.now + 1 = ap length c.in-Some.ensures ∙ length-append c.in-Some.front.now (48 ∷ []) in
    omega (arith, len)

pub returns : goal.returns
returns c = sym (kept-whole c.loop-front.left.now c.in_default.ensures) ∙ c.loop-front.invariant
