-- Internal: who wants to trust the program need not read this file.
-- The order by numbers is total.
use Rattle.std.specs.Cmp.{IsTotalOrder, nat_cmp_total, on_total, then_total}
use Rattle.sf_layers.specs.KeyOrder.{keys_total}
use Rattle.sf_rules.specs.Digests.{digested_cmp}

pub digested_total : IsTotalOrder digested_cmp
digested_total = then_total (on_total (λ d. d.digest) nat_cmp_total) (on_total (λ d. d.key) keys_total)
