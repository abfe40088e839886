use Rattle.std.proofs.Common.{◌≡◌, ◌≤◌, ◌+◌, length, decimal, ap, ◌∙◌, arith, length-append}
use Rattle.sf_console.proofs.AnswerLemmas.{length-decimal-id}
use Rattle.sf_console.proofs.one_line.AnswerLine.identifier.Goals as goal

pub push_decimal-requires : goal.push_decimal-requires
push_decimal-requires c =
    let empty : length c.empty-line.result ≡ 0 = ap length c.empty-line.ensures in
    let short : length (decimal c.from.result) ≤ 10 = length-decimal-id c.from.result (omega arith) in
    omega arith

pub returns-clause-len : goal.returns-clause-len
returns-clause-len c =
    let empty : length c.empty-line.result ≡ 0 = ap length c.empty-line.ensures in
    let short : length (decimal c.from.result) ≤ 10 = length-decimal-id c.from.result (omega arith) in
    let len : length c.push_decimal.new.self ≡ length c.push_blank.new.self + length (decimal c.from.result) = ap length c.push_decimal.ensures ∙ length-append c.push_blank.new.self (decimal c.from.result) in
    omega arith
