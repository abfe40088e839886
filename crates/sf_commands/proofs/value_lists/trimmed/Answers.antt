use Rattle.std.proofs.Common.{◌∙◌, ap, sym}
use Rattle.sf_words.specs.Words.{trimmed_end, words}
use Rattle.sf_commands.proofs.ValueListLemmas.{no_words}
use Rattle.sf_commands.proofs.value_lists.trimmed.Goals as goal

pub returns-in-Err : goal.returns-in-Err
returns-in-Err c = sym (ap trimmed_end (no_words c.args.text.now (ap words (sym c.new.ensures) ∙ c.in-Err.ensures.0)))
