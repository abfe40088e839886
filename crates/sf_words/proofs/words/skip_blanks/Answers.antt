use Rattle.std.proofs.Common.{◌≡◌, ◌<◌, ◌∙◌, ap, sym, subst}
use Rattle.std.specs.List.{prefix_len}
use Rattle.std.specs.Str.{IsCharBoundary}
use Rattle.sf_wkt.specs.Tokens.{is_blank}
use Rattle.sf_words.proofs.WordLemmas.{after_blanks}
use Rattle.sf_words.proofs.words.skip_blanks.Goals as goal

pub range_from-requires : goal.range_from-requires
range_from-requires c =
    let is : c.blanks_len.result ≡ prefix_len is_blank c.args.text.now = c.blanks_len.ensures ∙ ap (prefix_len is_blank) c.as_bytes.ensures.value in
    λ some. subst (IsCharBoundary c.args.text.now) (sym is) (after_blanks c.args.text.now c.utf8.text (subst (λ n. 0 < n) is some))
