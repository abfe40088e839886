use Rattle.std.proofs.Common.{◌≡◌, ◌∙◌, ap, sym, subst, length, ◌-◌, arith}
use Rattle.std.specs.List.{suffix_len}
use Rattle.std.specs.Str.{IsCharBoundary}
use Rattle.std.proofs.lemmas.List.Sums.{suffix_len-le-length}
use Rattle.sf_wkt.specs.Tokens.{is_blank}
use Rattle.sf_words.proofs.WordLemmas.{before-last-blanks}
use Rattle.sf_words.proofs.words.trimmed_end.Goals as goal

pub overflow_sub-text : goal.overflow_sub-text
overflow_sub-text c =
    let text = c.args.text.now in
    let is : c.blanks_at_end.result ≡ suffix_len is_blank text = c.blanks_at_end.ensures ∙ ap (suffix_len is_blank) c.as_bytes.ensures.value in
    omega (arith, is, suffix_len-le-length is_blank text)

pub range-requires-clause-end_boundary : goal.range-requires-clause-end_boundary
range-requires-clause-end_boundary c =
    let text = c.args.text.now in
    let is : c.blanks_at_end.result ≡ suffix_len is_blank text = c.blanks_at_end.ensures ∙ ap (suffix_len is_blank) c.as_bytes.ensures.value in
    subst (λ k. IsCharBoundary text (length text - k)) (sym is) (before-last-blanks text)
