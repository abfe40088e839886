use Rattle.sf_known.proofs.TextLaws.{patterns_are_of_their_texts}
use Rattle.sf_known.proofs.laws.patterns_are_of_their_texts.Goals as goal

pub returns : goal.returns
returns c = patterns_are_of_their_texts
