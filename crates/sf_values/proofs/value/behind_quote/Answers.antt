use Rattle.sf_values.proofs.QuoteLemmas.{quote-stripped}
use Rattle.sf_values.proofs.value.behind_quote.Goals as goal

pub returns : goal.returns
returns c = quote-stripped c.args.text.now c.strip_prefix.result c.strip_prefix.ensures.cases
