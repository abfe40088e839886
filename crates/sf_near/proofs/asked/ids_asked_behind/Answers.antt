use Rattle.std.proofs.Common.{◌≡◌, ◌∙◌, IfOk, ap, filter, nat_lt, subst, sym}
use Rattle.sf_distance.specs.Reaches.{square_of_reach}
use Rattle.sf_near.specs.Answers.{ids_within}
use Rattle.sf_near.specs.Pairs.{ids_asked}
use Rattle.sf_near.specs.Surrounding.{Surrounding}
use Rattle.sf_near.specs.declared.pair_ask.PairAsk.{PairAsk}
use Rattle.sf_near.proofs.asked.ids_asked_behind.Goals as goal

pub returns-in-Matrix : goal.returns-in-Matrix
returns-in-Matrix c =
    subst (λ items. IfOk c.ids_asked_behind.result (λ ids. ids.items ≡ items))
    (ap (λ (ask : PairAsk). filter (λ other. nat_lt c.args.id other) (ids_asked c.args.layer.now ask c.args.given.now)) (sym c.in-Matrix.is))
    c.ids_asked_behind.ensures

pub returns-in_ok-around-in-Near : goal.returns-in_ok-around-in-Near
returns-in_ok-around-in-Near c =
    subst (λ items. IfOk c.ids_within_behind.result (λ ids. ids.items ≡ items))
    (ap (λ (s : Surrounding). filter (λ other. nat_lt c.args.id other) (ids_within c.args.layer.now (square_of_reach s.reach) s.geometry)) c.in_ok-around-in-Near.ensures.same
    ∙ ap (λ (ask : PairAsk). filter (λ other. nat_lt c.args.id other) (ids_asked c.args.layer.now ask c.args.given.now)) (sym c.in-Near.is))
    c.ids_within_behind.ensures
