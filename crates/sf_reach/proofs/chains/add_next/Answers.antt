use Rattle.std.proofs.Common.{◌≡◌, ◌∙◌, Some, option_copied, ap, sym}
use Rattle.std.proofs.lemmas.Result.{on_ok_weaker}
use Rattle.sf_layers.specs.Content.{feature_of}
use Rattle.sf_reach.proofs.WalkLaws.{added-end, added-found, stop-rises}
use Rattle.sf_reach.proofs.chains.add_next.Goals as goal
use Rattle.sf_reach.proofs.chains.add_next.Goals.{After-unwrap-feature}

-- the feature of the identifier
feature : (c : After-unwrap-feature) → feature_of c.args.chains.now.layer.now c.args.id ≡ Some c.unwrap-feature.result.now
feature c = sym c.feature.ensures ∙ ap option_copied c.unwrap-feature.ensures

pub returns-then-branch : goal.returns-then-branch
returns-then-branch c =
    added-end c.args.chains.now.layer.now c.args.chains.now.ask c.args.chains.now.until c.args.id c.unwrap-feature.result.now c.args.found.now
    (stop-rises c.args.chains.now.until c.requires.until) (feature (goal.at.returns-then-branch c).After-unwrap-feature) (sym c.in_ok-ends_at.ensures ∙ c.if-branch.true)

pub returns : goal.returns
returns c =
    on_ok_weaker c.add_all.result
    (added-found c.args.chains.now.layer.now c.args.chains.now.ask c.converse.result c.args.chains.now.until c.args.id c.unwrap-feature.result.now c.valid.result.now
    c.as_slice.result.now c.args.found.now c.add_all.new.found
    c.requires.layer.rising (feature (goal.at.returns c).After-unwrap-feature) (sym c.in_ok-ends_at.ensures ∙ c.if-branch.false) c.requires.found
    c.converse.ensures.nine c.converse.ensures.turned c.valid.ensures.same (c.as_slice.ensures.value ∙ c.in_ok-next.ensures.ids))
    c.add_all.ensures
