use Rattle.std.proofs.Common.{◌≡◌, ◌≤◌, ◌+◌, ◌++◌, codes, length, decimal, ap, ◌∙◌, arith, length-append}
use Rattle.sf_console.proofs.AnswerLemmas.{length-decimal-id}
use Rattle.sf_console.proofs.one_line.AnswerLine.accepted.Goals as goal

pub push_decimal-requires : goal.push_decimal-requires
push_decimal-requires c =
    let head : length c.push-in-Id.new.self ≡ 3 = ap length (c.push-in-Id.ensures ∙ ap (λ l. l ++ codes "ok ") c.empty-line.ensures) in
    let short : length (decimal c.from.result) ≤ 10 = length-decimal-id c.from.result (omega arith) in
    omega arith

pub push-requires-in-Id-2 : goal.push-requires-in-Id-2
push-requires-in-Id-2 c =
    let head : length c.push-in-Id.new.self ≡ 3 = ap length (c.push-in-Id.ensures ∙ ap (λ l. l ++ codes "ok ") c.empty-line.ensures) in
    let short : length (decimal c.from.result) ≤ 10 = length-decimal-id c.from.result (omega arith) in
    let len : length c.push_decimal.new.self ≡ length c.push-in-Id.new.self + length (decimal c.from.result) = ap length c.push_decimal.ensures ∙ length-append c.push-in-Id.new.self (decimal c.from.result) in
    omega arith
