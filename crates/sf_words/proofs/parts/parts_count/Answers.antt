use Rattle.std.proofs.Common.{◌∙◌, ◌+◌, ap, sym}
use Rattle.sf_words.proofs.PartLemmas.{parts_counted}
use Rattle.sf_words.proofs.parts.parts_count.Goals as goal

pub returns : goal.returns
returns c = ap (λ n. n + 1) c.returns_count.ensures ∙ sym (parts_counted c.args.text.now)
