use Rattle.std.proofs.Common.{◌≡◌, ◌+◌, ◌/◌, ◌%◌, ◌++◌, ◌∷◌, [], length, decimal, sym, ap, ◌∙◌, append_assoc, arith, rules, length-append}
use Rattle.std.proofs.lemmas.Fmt.{decimal_digit}
use Rattle.sf_console.proofs.AnswerLemmas.{decimal-more, length-decimal-more}
use Rattle.sf_console.proofs.one_line.AnswerLine.+push_decimal.Goals as goal

pub push_decimal-requires : goal.push_decimal-requires
push_decimal-requires t c =
    let more : length (decimal c.args.number) ≡ length (decimal (c.args.number / 10)) + 1 = length-decimal-more c.args.number c.if-number-lt10.false (omega arith) in
    (search rules, omega arith)

pub push_digit-requires-clause-room : goal.push_digit-requires-clause-room
push_digit-requires-clause-room t c =
    let one : length (decimal c.args.number) ≡ 1 = ap length (decimal_digit c.args.number c.if-number-lt10.true) in
    omega arith

pub push_digit-requires-else-number-lt10-clause-room : goal.push_digit-requires-else-number-lt10-clause-room
push_digit-requires-else-number-lt10-clause-room t c =
    let more : length (decimal c.args.number) ≡ length (decimal (c.args.number / 10)) + 1 = length-decimal-more c.args.number c.if-number-lt10.false (omega arith) in
    let len : length c.push_decimal.new.self ≡ length c.args.self.now + length (decimal (c.args.number / 10)) =
    ap length c.push_decimal.ensures ∙ length-append c.args.self.now (decimal (c.args.number / 10)) in
    omega arith

pub returns-then-number-lt10 : goal.returns-then-number-lt10
returns-then-number-lt10 t c =
    c.push_digit.ensures ∙ ap (λ digits. c.args.self.now ++ digits) (sym (decimal_digit c.args.number c.if-number-lt10.true))

pub returns-else-number-lt10 : goal.returns-else-number-lt10
returns-else-number-lt10 t c =
    c.push_digit-else-number-lt10.ensures
    ∙ ap (λ bytes. bytes ++ (48 + c.args.number % 10) ∷ []) c.push_decimal.ensures
    ∙ append_assoc c.args.self.now (decimal (c.args.number / 10)) ((48 + c.args.number % 10) ∷ [])
    ∙ ap (λ digits. c.args.self.now ++ digits) (sym (decimal-more c.args.number c.if-number-lt10.false (omega arith)))
