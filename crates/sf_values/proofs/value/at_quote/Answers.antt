use Rattle.std.proofs.Common.{arith}
use Rattle.sf_values.proofs.QuoteLemmas.{quote-split}
use Rattle.sf_values.proofs.value.at_quote.Goals as goal

pub returns : goal.returns
returns c = quote-split c.args.text.now c.split_once.result (c.split_once.ensures.byte (omega arith) (λ w o h. h))
