use Rattle.std.proofs.Common.{◌≡◌, IfOk, subst, sym}
use Rattle.sf_rules.specs.Breaks.{least_from}
use Rattle.sf_rules.specs.ColumnLooks.{values_of_slot}
use Rattle.sf_rules.proofs.column.least_of_slot.Goals as goal

pub returns : goal.returns
returns c = subst (λ slot. IfOk c.least_at.result (λ found. found ≡ least_from c.args.least (values_of_slot c.args.demand.now c.args.column.now slot))) (sym c.in-State.is) c.least_at.ensures
