use Rattle.std.proofs.Common.{◌≡◌, false, ◌∙◌, sym, arith}
use Rattle.std.specs.List.{list_any}
use Rattle.std.proofs.lemmas.Str.Pattern.{contains_char}
use Rattle.sf_words.specs.Parts.{is_return}
use Rattle.sf_words.proofs.PartLemmas.{no_return}
use Rattle.sf_commands.proofs.PartLemmas.{head_of-addressed}
use Rattle.sf_commands.proofs.head.head_of.Goals as goal

pub returns-else-contains : goal.returns-else-contains
returns-else-contains c =
    let text = c.args.text.now in
    let at = contains_char 13 text c.contains.result c.contains.ensures.cases (omega arith) in
    let none : list_any is_return text ≡ false = no_return text (λ i inside is. cc (at.1 i inside is)) in
    head_of-addressed text c.in-Ok.words c.in-Ok.editor _ none c.in-Ok.ensures (sym c.in_ok-head.was ∙ c.head_of_words.ensures)
