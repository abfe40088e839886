use Rattle.std.proofs.Common.{◌∙◌, ap, rules}
use Rattle.sf_console.specs.Answers.{line}
use Rattle.sf_console.proofs.QueryLemmas.{nine_letters}
use Rattle.sf_console.proofs.reply.matrix_line.Goals as goal

pub returns : goal.returns
returns c = nine_letters c.text.result (search rules) ∙ ap line c.text.ensures
