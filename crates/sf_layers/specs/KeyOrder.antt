-- Internal: who wants to trust the program need not read this file.
-- The pairs of an index are in a total order.
use Rattle.std.specs.Cmp.{IsTotalOrder, nat_cmp_total, on_total, then_total}
use Rattle.sf_features.proofs.ValueTotal.{values_total}
use Rattle.sf_layers.specs.ValueIndexes.{key_cmp}

pub keys_total : IsTotalOrder key_cmp
keys_total = then_total (on_total (λ pair. pair.value) values_total) (on_total (λ pair. pair.id) nat_cmp_total)
