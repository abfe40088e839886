use Rattle.std.proofs.Common.{◌<◌, rules, subst, length}
use Rattle.sf_sweep.specs.Settled.{WasSeamed}
use Rattle.sf_sweep.proofs.SettleLaws.{seamed-more}
use Rattle.sf_sweep.proofs.settle.settle.Goals as goal

pub returns-else-is_empty-clause-settled : goal.returns-else-is_empty-clause-settled
returns-else-is_empty-clause-settled c =
    let some : 0 < length c.args.went.now = search rules in
    record {
      between = c.seam.new.meetings;
      lower_seam = subst (λ table. WasSeamed c.args.x.now c.args.went.now c.args.lower.now table c.seam.new.meetings) c.join.ensures.table c.seam.ensures.seamed;
      upper_seam = seamed-more c.args.x.now c.args.upper.now c.args.went.now c.args.lower.now c.seam.new.meetings c.seam-else-is_empty.new.meetings some
          c.seam-else-is_empty.ensures.seamed;
    }
