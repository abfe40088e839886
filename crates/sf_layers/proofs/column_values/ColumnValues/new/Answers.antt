use Rattle.std.proofs.Common.{◌∙◌, sym, subst, arith}
use Rattle.std.specs.List.Sorted.{IsStrictlySortedBy}
use Rattle.std.specs.Ordering.{nat_cmp}
use Rattle.sf_layers.proofs.column_values.ColumnValues.new.Goals as goal

pub invariant_of-result : goal.invariant_of-result
unfolding IsStrictlySortedBy
invariant_of-result c = (
  c.new-2.ensures.len ∙ sym c.new.ensures.len,
  omega (arith, c.new.ensures.len),
  subst (IsStrictlySortedBy nat_cmp) (sym c.new.ensures.items) tt,
)
