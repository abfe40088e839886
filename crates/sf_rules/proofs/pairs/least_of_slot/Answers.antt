use Rattle.std.proofs.Common.{◌≡◌, IfOk, subst, sym}
use Rattle.sf_rules.specs.Breaks.{least_from}
use Rattle.sf_rules.specs.Looks.{pairs_first, pairs_of_slot, pairs_second}
use Rattle.sf_rules.proofs.LoopLaws.{then-both}
use Rattle.sf_rules.proofs.pairs.least_of_slot.Goals as goal

pub returns : goal.returns
returns c =
    subst (λ slot. IfOk c.least_second.result (λ found. found ≡ least_from c.args.least (pairs_of_slot c.args.between.now slot))) (sym c.in-State.is)
    (then-both c.least_second.result c.args.least c.in_ok-least.least (pairs_first c.args.between.now c.in-State.place c.in-State.id) (pairs_second c.args.between.now c.in-State.place c.in-State.id)
    c.in_ok-least.ensures c.least_second.ensures)
