use Rattle.std.proofs.Common.{◌≡◌, ℕ, IfOk, rules, subst}
use Rattle.std.specs.Global.{Vec}
use Rattle.std.proofs.lemmas.Result.{IfOk-weaker}
use Rattle.sf_reach.specs.Found.{AreRising}
use Rattle.sf_reach.proofs.FoundLaws.{set-rising}
use Rattle.sf_reach.proofs.found.Found.rising.Goals as goal
use Rattle.sf_reach.proofs.found.Found.rising.Goals.{After-collect}

listed : (c : After-collect) → IfOk c.collect.result (λ ids. ids.items ≡ c.self.inside.ids.keys)
listed c = search rules

pub returns : goal.returns
returns c =
    IfOk-weaker c.collect.result
    (λ (ids : Vec ℕ). ids.items ≡ c.self.inside.ids.keys)
    (λ (ids : Vec ℕ). AreRising c.args.self.now ids.items)
    (λ ids same. subst (λ order. AreRising order ids.items) c.self.view_is (set-rising c.self.inside.ids c.self.inside.order.items ids.items c.self.invariant c.iter.ensures.ordered same))
    (listed c)
