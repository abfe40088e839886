use Rattle.std.proofs.Common.{◌∙◌, None, ap, subst}
use Rattle.std.specs.List.Sorted.{IsPermutation}
use Rattle.sf_rules.specs.Breaks.{least_from}
use Rattle.sf_rules.specs.Doubles.{doubles_from}
use Rattle.sf_rules.proofs.DoubleLaws.{least-double}
use Rattle.sf_rules.proofs.doubles.first_double_of_all.Goals as goal

pub returns : goal.returns
returns c =
    c.least_double.ensures
    ∙ ap (λ keys. least_from None (doubles_from None keys)) c.as_slice.ensures.value
    ∙ least-double c.args.number c.args.layer.now c.requires c.sort_unstable.new.self.items
    (subst (λ keys. IsPermutation keys c.sort_unstable.new.self.items) c.in_ok-keys.ensures c.sort_unstable.ensures.permutation) c.sort_unstable.ensures.sorted
