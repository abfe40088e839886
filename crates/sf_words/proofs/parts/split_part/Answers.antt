use Rattle.std.proofs.Common.{◌≡◌, ◌≢◌, ◌∙◌, ◌+◌, ℕ, ap, sym, subst, length, take, drop, arith, List, ◌∷◌, ◌++◌}
use Rattle.std.specs.List.{list_any, prefix_len}
use Rattle.std.specs.Str.{IsCharBoundary}
use Rattle.std.proofs.lemmas.Grind.{common_steps}
use Rattle.sf_words.specs.Parts.{is_return}
use Rattle.sf_words.proofs.PartLemmas.{CutAt, boundary-before, boundary-behind, cut-at, is_kept, kept-whole}
use Rattle.sf_words.proofs.parts.split_part.Goals as goal

pub returns-then-end-text : goal.returns-then-end-text
returns-then-end-text c =
    let text = c.args.text.now in
    let is : c.part_len-end.result ≡ prefix_len is_kept text = c.part_len-end.ensures ∙ ap (prefix_len is_kept) c.as_bytes.ensures.value in
    kept-whole text (sym is ∙ c.if-end-text.true)

pub range-requires-clause-end_boundary : goal.range-requires-clause-end_boundary
range-requires-clause-end_boundary c =
    let text = c.args.text.now in
    let is : c.part_len-end.result ≡ prefix_len is_kept text = c.part_len-end.ensures ∙ ap (prefix_len is_kept) c.as_bytes.ensures.value in
    subst (IsCharBoundary text) (sym is) (boundary-before text)

pub range_from-requires : goal.range_from-requires
range_from-requires c =
    let text = c.args.text.now in
    let is : c.part_len-end.result ≡ prefix_len is_kept text = c.part_len-end.ensures ∙ ap (prefix_len is_kept) c.as_bytes.ensures.value in
    let other : prefix_len is_kept text ≢ length text = λ same. c.if-end-text.false (is ∙ same) in
    λ some. subst (λ n. IsCharBoundary text (n + 1)) (sym is) (boundary-behind text c.utf8.text other)

pub returns : goal.returns
returns c =
    let text = c.args.text.now in
    let end = c.part_len-end.result in
    let is : end ≡ prefix_len is_kept text = c.part_len-end.ensures ∙ ap (prefix_len is_kept) c.as_bytes.ensures.value in
    let other : prefix_len is_kept text ≢ length text = λ same. c.if-end-text.false (is ∙ same) in
    let cut : CutAt text end = subst (CutAt text) (sym is) (cut-at text other) in
    let front : c.range.result.now ≡ take end text = grind (arith, common_steps) in
    let rest : c.range_from.result.now ≡ drop (end + 1) text = c.range_from.ensures.value in (
      ap (list_any is_return) front ∙ cut.0,
      cut.1 ∙ ap (λ (t : List ℕ). t ++ 13 ∷ drop (end + 1) text) (sym front) ∙ ap (λ (t : List ℕ). c.range.result.now ++ 13 ∷ t) (sym rest),
    )
