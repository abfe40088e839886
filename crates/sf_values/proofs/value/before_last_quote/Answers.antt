use Rattle.sf_values.proofs.QuoteLemmas.{quote-cut}
use Rattle.sf_values.proofs.value.before_last_quote.Goals as goal

pub returns : goal.returns
returns c = quote-cut c.args.text.now c.strip_suffix.result c.strip_suffix.ensures.cases
