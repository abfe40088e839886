use Rattle.std.proofs.Common.{sym, subst}
use Rattle.std.specs.List.{Contains}
use Rattle.std.specs.List.Sorted.{IsStrictlySortedBy}
use Rattle.std.specs.Ordering.{nat_cmp}
use Rattle.std.proofs.lemmas.List.Filters.{dedup_is}
use Rattle.std.proofs.lemmas.List.Kept.{Contains-dedup_nat}
use Rattle.std.proofs.lemmas.List.Sorted.{Contains-permutation}
use Rattle.std.proofs.lemmas.Map.Keys.{IsStrictlyIncreasing-dedup, sorted_from_strictly_increasing}
use Rattle.sf_layers.proofs.value_index.order.Goals as goal

pub returns-clause-rising : goal.returns-clause-rising
returns-clause-rising c =
    let is = dedup_is _ _ _ c.dedup.ensures.filtered in
    subst (IsStrictlySortedBy nat_cmp) (sym is) (sorted_from_strictly_increasing _ (IsStrictlyIncreasing-dedup _ c.sort_unstable.ensures.sorted))

pub returns-clause-kept : goal.returns-clause-kept
returns-clause-kept c = λ id has.
    let is = dedup_is _ _ _ c.dedup.ensures.filtered in
    subst (λ ids. Contains ids id) (sym is) (Contains-dedup_nat _ id (Contains-permutation _ _ id c.sort_unstable.ensures.permutation has))
