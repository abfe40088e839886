use Rattle.std.proofs.Common.{◌≡◌, true, false, rules, sym, ap, ◌∙◌, nat_eq}
use Rattle.std.specs.Cmp.Lexicographic.{pointwise}
use Rattle.std.proofs.lemmas.Cmp.{nat_list_eq_equiv}
use Rattle.sf_journal.specs.Records.{sum_with, mark_of}
use Rattle.sf_journal.proofs.RecordLaws.{short-line, take-line, drop-line}
use Rattle.sf_journal.proofs.sums.Sum.text_of.Goals as goal

pub returns-then-line-lt-MARK_LEN : goal.returns-then-line-lt-MARK_LEN
returns-then-line-lt-MARK_LEN c = λ text is. short-line c.args.self c.args.line.now text (search rules) is

pub returns-else-eq : goal.returns-else-eq
returns-else-eq c = λ text is.
    let back : c.split_at.result.1.now ≡ text = c.split_at.ensures.back ∙ drop-line c.args.self c.args.line.now text is in
    let front : c.split_at.result.0.now ≡ mark_of (sum_with c.args.self text) = c.split_at.ensures.front ∙ take-line c.args.self c.args.line.now text is in
    let same : c.split_at.result.0.now ≡ c.as_slice.result.now =
    front ∙ ap (λ t. mark_of (sum_with c.args.self t)) (sym back) ∙ ap mark_of (sym c.with.ensures) ∙ sym c.mark.ensures ∙ sym c.as_slice.ensures in
    let different : pointwise nat_eq c.split_at.result.0.now c.as_slice.result.now ≡ false = sym c.eq.ensures ∙ c.if-eq.false in
    let equal : pointwise nat_eq c.split_at.result.0.now c.as_slice.result.now ≡ true =
    ap (λ l. pointwise nat_eq l c.as_slice.result.now) same ∙ nat_list_eq_equiv.refl c.as_slice.result.now in
    cc
