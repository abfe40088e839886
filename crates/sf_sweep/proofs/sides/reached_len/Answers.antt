use Rattle.std.proofs.Common.{◌≡◌, sym, subst, true, false}
use Rattle.std.specs.List.Sorted.{IsPartitionPoint}
use Rattle.sf_sweep.specs.Sides.{is_not_above}
use Rattle.sf_sweep.proofs.PrefixLaws.{prefix-parts}
use Rattle.sf_sweep.proofs.sides.reached_len.Goals as goal

pub returns-clause-parted : goal.returns-clause-parted
returns-clause-parted c =
    let test = is_not_above c.args.p.now in
    subst (IsPartitionPoint (λ a. test a ≡ true) (λ a. test a ≡ false) c.args.edges.now) (sym c.not_over_len.ensures.value)
    (prefix-parts test c.args.edges.now c.requires.falling)
