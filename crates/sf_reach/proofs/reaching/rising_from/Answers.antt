use Rattle.std.proofs.Common.{ℕ}
use Rattle.std.specs.Global.{Vec}
use Rattle.std.proofs.lemmas.Result.{IfOk-weaker}
use Rattle.sf_reach.specs.Found.{AreRising}
use Rattle.sf_reach.specs.Replies.{AreReached}
use Rattle.sf_reach.proofs.ReplyLaws.{rising-reached}
use Rattle.sf_reach.proofs.reaching.rising_from.Goals as goal

pub returns : goal.returns
returns c =
    IfOk-weaker c.rising.result
    (λ (ids : Vec ℕ). AreRising c.in_ok-found.found ids.items)
    (λ (ids : Vec ℕ). AreReached c.args.chains.now.layer.now c.args.chains.now.ask c.args.chains.now.until c.args.given.now ids.items)
    (λ ids. rising-reached c.args.chains.now.layer.now c.args.chains.now.ask c.args.chains.now.until c.args.given.now c.in_ok-found.found ids.items c.in_ok-found.ensures)
    c.rising.ensures
