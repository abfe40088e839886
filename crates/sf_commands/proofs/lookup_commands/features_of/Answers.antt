use Rattle.sf_words.specs.Words.{words}
use Rattle.sf_commands.proofs.LookupLemmas.{named-refused}
use Rattle.sf_commands.proofs.lookup_commands.features_of.Goals as goal

pub returns-in_err-ids : goal.returns-in_err-ids
returns-in_err-ids c =
    named-refused (words c.args.words) (words c.next.new.self) c.in_ok-layer.layer.now _ c.from_residual-in_err-ids.result c.in_ok-layer.ensures.0 c.in_err-ids.ensures c.from_residual-in_err-ids.ensures.1
