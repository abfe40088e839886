use Rattle.std.proofs.Common.{◌∙◌, ◌++◌, ℕ, ap, sym}
use Rattle.std.specs.Map.Iter.{deref_pair}
use Rattle.sf_features.specs.Features.{FeatureContent}
use Rattle.sf_joins.proofs.LoopLaws.{row-by-converse, rows-push}
use Rattle.sf_joins.proofs.PlaneLaws.{row}
use Rattle.sf_joins.proofs.joining.pairs_of.Goals as goal

pub loop-id-preserved : goal.loop-id-preserved
loop-id-preserved c =
    let e : ℕ × FeatureContent = (c.in-Some.id.now, c.in-Some.feature.now) in
    c.in_ok-push_pairs.ensures
    ∙ ap (λ r. c.loop-id.pairs.items ++ r)
    (row-by-converse c.args.one c.args.ask.now c.converse_pair-converse.result c.args.second.now e c.valid.result.now c.converse_pair-converse.ensures.kept c.converse_pair-converse.ensures.turned
    c.valid.ensures.same)
    ∙ ap (λ r. r ++ row c.args.one c.args.ask.now c.args.second.now e) c.loop-id.invariant
    ∙ sym (rows-push (row c.args.one c.args.ask.now c.args.second.now) (deref_pair {K = ℕ} {X = FeatureContent}) c.loop-id.yielded (c.in-Some.id, c.in-Some.feature))
