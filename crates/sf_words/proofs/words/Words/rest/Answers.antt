use Rattle.std.proofs.Common.{◌≡◌, ◌≢◌, ◌∙◌, ap, sym, subst, length, arith, refl}
use Rattle.std.proofs.lemmas.Grind.{common_steps}
use Rattle.sf_words.specs.Words.{skip_blanks}
use Rattle.sf_words.proofs.WordLemmas.{words-none, words-some}
use Rattle.sf_words.proofs.words.Words.rest.Goals as goal

pub returns-then-is_empty : goal.returns-then-is_empty
returns-then-is_empty c =
    let text : c.skip_blanks-text.result.now ≡ skip_blanks c.args.self.now = c.skip_blanks-text.ensures ∙ ap skip_blanks c.self.view_is in
    let none : length c.skip_blanks-text.result.now ≡ 0 = grind (arith, common_steps) in
    (words-none c.args.self.now (sym (ap length text) ∙ none), refl)

pub returns-else-is_empty : goal.returns-else-is_empty
returns-else-is_empty c =
    let text : c.skip_blanks-text.result.now ≡ skip_blanks c.args.self.now = c.skip_blanks-text.ensures ∙ ap skip_blanks c.self.view_is in
    let some : length c.skip_blanks-text.result.now ≢ 0 = grind (arith, common_steps) in
    (words-some c.args.self.now (subst (λ t. length t ≢ 0) text some), text)
