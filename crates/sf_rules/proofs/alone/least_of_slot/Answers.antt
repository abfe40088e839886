use Rattle.std.proofs.Common.{◌≡◌, IfOk, subst, sym}
use Rattle.sf_rules.specs.Breaks.{least_from}
use Rattle.sf_rules.specs.Looks.{alone_first, alone_of_slot, alone_second}
use Rattle.sf_rules.proofs.LoopLaws.{then-both}
use Rattle.sf_rules.proofs.alone.least_of_slot.Goals as goal

pub returns : goal.returns
returns c =
    subst (λ slot. IfOk c.least_second.result (λ found. found ≡ least_from c.args.least (alone_of_slot c.args.between.now slot))) (sym c.in-State.is)
    (then-both c.least_second.result c.args.least c.in_ok-least.least (alone_first c.args.between.now c.in-State.place c.in-State.id) (alone_second c.args.between.now c.in-State.place c.in-State.state)
    c.in_ok-least.ensures
    (subst (λ state. IfOk c.least_second.result (λ found. found ≡ least_from c.in_ok-least.least (alone_second c.args.between.now c.in-State.place state))) c.as_ref.ensures.value c.least_second.ensures))
