use Rattle.sf_words.proofs.EditorLemmas.{at-stripped}
use Rattle.sf_words.proofs.addressing.behind_at.Goals as goal

pub returns : goal.returns
returns c = at-stripped c.args.word.now c.strip_prefix.result c.strip_prefix.ensures.cases
