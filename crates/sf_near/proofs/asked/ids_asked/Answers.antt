use Rattle.std.proofs.Common.{◌≡◌, ◌∙◌, IfOk, ap, subst, sym}
use Rattle.sf_distance.specs.Reaches.{square_of_reach}
use Rattle.sf_near.specs.Answers.{ids_within}
use Rattle.sf_near.specs.Pairs.{ids_asked}
use Rattle.sf_near.specs.Surrounding.{Surrounding}
use Rattle.sf_near.specs.declared.pair_ask.PairAsk.{PairAsk}
use Rattle.sf_near.proofs.asked.ids_asked.Goals as goal

pub returns-in_ok-features_asked-in-Matrix : goal.returns-in_ok-features_asked-in-Matrix
returns-in_ok-features_asked-in-Matrix c =
    c.in_ok-features_asked-in-Matrix.ensures.ids ∙ ap (λ (ask : PairAsk). ids_asked c.args.layer.now ask c.args.given.now) (sym c.in-Matrix.is)

pub returns-in_ok-around-in-Near : goal.returns-in_ok-around-in-Near
returns-in_ok-around-in-Near c =
    subst (λ items. IfOk c.ids_within.result (λ ids. ids.items ≡ items))
    (ap (λ (s : Surrounding). ids_within c.args.layer.now (square_of_reach s.reach) s.geometry) c.in_ok-around-in-Near.ensures.same
    ∙ ap (λ (ask : PairAsk). ids_asked c.args.layer.now ask c.args.given.now) (sym c.in-Near.is))
    c.ids_within.ensures
