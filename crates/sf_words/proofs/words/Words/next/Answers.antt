use Rattle.std.proofs.Common.{◌≡◌, ◌≢◌, ◌∙◌, ap, sym, subst, length, take, drop, arith, ◌∷◌}
use Rattle.std.proofs.lemmas.Grind.{common_steps}
use Rattle.std.specs.List.{prefix_len}
use Rattle.std.specs.Str.{IsCharBoundary}
use Rattle.sf_words.specs.Words.{words, skip_blanks}
use Rattle.sf_words.proofs.WordLemmas.{is_letter, words-next, some_text, before_blank}
use Rattle.sf_words.proofs.words.Words.next.Goals as goal

pub range_from-self-inside-requires : goal.range_from-self-inside-requires
range_from-self-inside-requires c =
    let text = c.in_ok-text.text.now in
    let is : c.word_len-end.result ≡ prefix_len is_letter text = c.word_len-end.ensures ∙ ap (prefix_len is_letter) c.as_bytes.ensures.value in
    λ some. subst (IsCharBoundary text) (sym is) (before_blank text)

pub range-requires-clause-end_boundary : goal.range-requires-clause-end_boundary
range-requires-clause-end_boundary c =
    let text = c.in_ok-text.text.now in
    let is : c.word_len-end.result ≡ prefix_len is_letter text = c.word_len-end.ensures ∙ ap (prefix_len is_letter) c.as_bytes.ensures.value in
    subst (IsCharBoundary text) (sym is) (before_blank text)

pub returns : goal.returns
returns c =
    let text = c.in_ok-text.text.now in
    let line = c.args.self.now in
    let is : c.word_len-end.result ≡ prefix_len is_letter text = c.word_len-end.ensures ∙ ap (prefix_len is_letter) c.as_bytes.ensures.value in
    let behind : text ≡ skip_blanks line = c.in_ok-text.ensures.1 in
    let some : length text ≢ 0 = subst (λ t. length t ≢ 0) (sym behind) (some_text line c.in_ok-text.ensures.0) in
    let word : c.range.result.now ≡ take c.word_len-end.result text = grind (arith, common_steps) in
    let rest : c.range_from-self-inside.result.now ≡ drop c.word_len-end.result text = c.range_from-self-inside.ensures.value in (
      words-next line text behind some
          ∙ sym (ap (λ n. take n text ∷ words (drop n text)) is)
          ∙ ap (λ w. w ∷ words (drop c.word_len-end.result text)) (sym word)
          ∙ ap (λ r. c.range.result.now ∷ words r) (sym rest),
      rest ∙ ap (λ n. drop n text) is ∙ ap (λ t. drop (prefix_len is_letter t) t) behind,
    )
