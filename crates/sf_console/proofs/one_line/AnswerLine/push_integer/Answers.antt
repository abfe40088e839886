use Rattle.std.proofs.Common.{◌≡◌, ℕ, List, ◌≤◌, ◌+◌, ◌++◌, ◌∷◌, [], decimal, length, ap, ◌∙◌, arith, length-append}
use Rattle.sf_console.proofs.AnswerLemmas.{length-decimal-id}
use Rattle.sf_console.proofs.one_line.AnswerLine.push_integer.Goals.{then-number-lt0, else-number-lt0}
use Rattle.sf_console.proofs.one_line.AnswerLine.push_integer.Goals as goal

with_sign : (before after : List ℕ) → after ≡ before ++ 45 ∷ [] → length after ≤ length before + 1
with_sign before after is = omega (arith, ap length is ∙ length-append before (45 ∷ []))

without_sign : (before after : List ℕ) → after ≡ before → length after ≤ length before + 1
without_sign before after is = omega (arith, ap length is)

pub push_decimal-requires : goal.push_decimal-requires
push_decimal-requires c =
    let short : length (decimal c.from.result) ≤ 10 = length-decimal-id c.from.result (omega (arith, c.unsigned_abs.ensures.bound)) in
    let sign : length c.if-number-lt0.self ≤ length c.args.self.now + 1 = elim c.if-number-lt0.branch [
      | then-number-lt0 w ↦ with_sign c.args.self.now c.if-number-lt0.self (w.self-is ∙ w.push.ensures)
      | else-number-lt0 w ↦ without_sign c.args.self.now c.if-number-lt0.self w.self-is
    ] in
    omega (arith, c.requires)

pub returns-clause-len : goal.returns-clause-len
returns-clause-len c =
    let short : length (decimal c.from.result) ≤ 10 = length-decimal-id c.from.result (omega (arith, c.unsigned_abs.ensures.bound)) in
    let sign : length c.if-number-lt0.self ≤ length c.args.self.now + 1 = elim c.if-number-lt0.branch [
      | then-number-lt0 w ↦ with_sign c.args.self.now c.if-number-lt0.self (w.self-is ∙ w.push.ensures)
      | else-number-lt0 w ↦ without_sign c.args.self.now c.if-number-lt0.self w.self-is
    ] in
    let len : length c.push_decimal.new.self ≡ length c.if-number-lt0.self + length (decimal c.from.result) =
    ap length c.push_decimal.ensures ∙ length-append c.if-number-lt0.self (decimal c.from.result) in
    omega arith
