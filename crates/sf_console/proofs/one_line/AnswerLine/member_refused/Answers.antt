use Rattle.std.proofs.Common.{◌≡◌, ◌≤◌, ◌+◌, ◌++◌, ◌∷◌, [], codes, length, decimal, ap, ◌∙◌, arith, subst, sym, length-append}
use Rattle.sf_console.proofs.AnswerLemmas.{length-decimal-byte, length-decimal-count, length-name_of}
use Rattle.sf_console.proofs.one_line.AnswerLine.member_refused.Goals as goal

pub push_decimal-requires : goal.push_decimal-requires
push_decimal-requires c =
    let head : length c.push.new.self ≡ 8 = ap length (c.push.ensures ∙ ap (λ l. l ++ codes "refused ") c.empty-line.ensures) in
    let short : length (decimal c.from.result) ≤ 3 = length-decimal-byte c.from.result (omega arith) in
    omega arith

pub push-requires-2 : goal.push-requires-2
push-requires-2 c =
    let head : length c.push.new.self ≡ 8 = ap length (c.push.ensures ∙ ap (λ l. l ++ codes "refused ") c.empty-line.ensures) in
    let short : length (decimal c.from.result) ≤ 3 = length-decimal-byte c.from.result (omega arith) in
    let number : length c.push_decimal.new.self ≡ length c.push.new.self + length (decimal c.from.result) = ap length c.push_decimal.ensures ∙ length-append c.push.new.self (decimal c.from.result) in
    omega arith

pub push-requires-3 : goal.push-requires-3
push-requires-3 c =
    let head : length c.push.new.self ≡ 8 = ap length (c.push.ensures ∙ ap (λ l. l ++ codes "refused ") c.empty-line.ensures) in
    let short : length (decimal c.from.result) ≤ 3 = length-decimal-byte c.from.result (omega arith) in
    let number : length c.push_decimal.new.self ≡ length c.push.new.self + length (decimal c.from.result) = ap length c.push_decimal.ensures ∙ length-append c.push.new.self (decimal c.from.result) in
    let blank : length c.push-2.new.self ≡ length c.push_decimal.new.self + 1 = ap length c.push-2.ensures ∙ length-append c.push_decimal.new.self (32 ∷ []) in
    let name : length c.name.result.now ≤ 16 = subst (λ name. length name ≤ 16) (sym c.name.ensures) (length-name_of c.args.refusal) in
    omega arith

pub push-requires-4 : goal.push-requires-4
push-requires-4 c =
    let head : length c.push.new.self ≡ 8 = ap length (c.push.ensures ∙ ap (λ l. l ++ codes "refused ") c.empty-line.ensures) in
    let short : length (decimal c.from.result) ≤ 3 = length-decimal-byte c.from.result (omega arith) in
    let number : length c.push_decimal.new.self ≡ length c.push.new.self + length (decimal c.from.result) = ap length c.push_decimal.ensures ∙ length-append c.push.new.self (decimal c.from.result) in
    let blank : length c.push-2.new.self ≡ length c.push_decimal.new.self + 1 = ap length c.push-2.ensures ∙ length-append c.push_decimal.new.self (32 ∷ []) in
    let name : length c.name.result.now ≤ 16 = subst (λ name. length name ≤ 16) (sym c.name.ensures) (length-name_of c.args.refusal) in
    let named : length c.push-3.new.self ≡ length c.push-2.new.self + length c.name.result.now = ap length c.push-3.ensures ∙ length-append c.push-2.new.self c.name.result.now in
    omega arith

pub push_decimal-requires-2 : goal.push_decimal-requires-2
push_decimal-requires-2 c =
    let head : length c.push.new.self ≡ 8 = ap length (c.push.ensures ∙ ap (λ l. l ++ codes "refused ") c.empty-line.ensures) in
    let short : length (decimal c.from.result) ≤ 3 = length-decimal-byte c.from.result (omega arith) in
    let number : length c.push_decimal.new.self ≡ length c.push.new.self + length (decimal c.from.result) = ap length c.push_decimal.ensures ∙ length-append c.push.new.self (decimal c.from.result) in
    let blank : length c.push-2.new.self ≡ length c.push_decimal.new.self + 1 = ap length c.push-2.ensures ∙ length-append c.push_decimal.new.self (32 ∷ []) in
    let name : length c.name.result.now ≤ 16 = subst (λ name. length name ≤ 16) (sym c.name.ensures) (length-name_of c.args.refusal) in
    let named : length c.push-3.new.self ≡ length c.push-2.new.self + length c.name.result.now = ap length c.push-3.ensures ∙ length-append c.push-2.new.self c.name.result.now in
    let member : length c.push-4.new.self ≡ length c.push-3.new.self + 8 = ap length c.push-4.ensures ∙ length-append c.push-3.new.self (codes " member ") in
    let count : length (decimal c.args.number) ≤ 20 = length-decimal-count c.args.number (omega arith) in
    omega arith

pub push-requires-5 : goal.push-requires-5
push-requires-5 c =
    let head : length c.push.new.self ≡ 8 = ap length (c.push.ensures ∙ ap (λ l. l ++ codes "refused ") c.empty-line.ensures) in
    let short : length (decimal c.from.result) ≤ 3 = length-decimal-byte c.from.result (omega arith) in
    let number : length c.push_decimal.new.self ≡ length c.push.new.self + length (decimal c.from.result) = ap length c.push_decimal.ensures ∙ length-append c.push.new.self (decimal c.from.result) in
    let blank : length c.push-2.new.self ≡ length c.push_decimal.new.self + 1 = ap length c.push-2.ensures ∙ length-append c.push_decimal.new.self (32 ∷ []) in
    let name : length c.name.result.now ≤ 16 = subst (λ name. length name ≤ 16) (sym c.name.ensures) (length-name_of c.args.refusal) in
    let named : length c.push-3.new.self ≡ length c.push-2.new.self + length c.name.result.now = ap length c.push-3.ensures ∙ length-append c.push-2.new.self c.name.result.now in
    let member : length c.push-4.new.self ≡ length c.push-3.new.self + 8 = ap length c.push-4.ensures ∙ length-append c.push-3.new.self (codes " member ") in
    let count : length (decimal c.args.number) ≤ 20 = length-decimal-count c.args.number (omega arith) in
    let counted : length c.push_decimal-2.new.self ≡ length c.push-4.new.self + length (decimal c.args.number) = ap length c.push_decimal-2.ensures ∙ length-append c.push-4.new.self (decimal c.args.number) in
    omega arith
