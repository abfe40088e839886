use Rattle.std.proofs.Common.{◌≡◌, ◌∙◌, ◌++◌, ◌∷◌, [], ℕ, ap, flat_map, refl, sym}
use Rattle.std.proofs.lemmas.List.Concat.{flat_map-cons}
use Rattle.std.proofs.lemmas.Map.Iter.{rest_more}
use Rattle.std.specs.Map.Iter.{deref_pair}
use Rattle.sf_features.specs.Features.{FeatureContent}
use Rattle.sf_picture.specs.Pictures.{feature_text}
use Rattle.sf_streams.proofs.Putting.{Putting, Putting-done, Putting-left, Putting-more, Putting-start, breaks}
use Rattle.sf_picture.proofs.layers.put_features.Goals as goal
use Rattle.sf_picture.proofs.layers.put_features.Goals.{In-Some}

-- the features that were left are this one and those that are left then
turn : (g : _) (c : In-Some g) → c.loop-id.id-iterator ≡ (c.in-Some.id.now, c.in-Some.feature.now) ∷ c.next.new.self
turn g c = rest_more (deref_pair {K = ℕ} {X = FeatureContent}) _ _ _ (c.in-Some.id, c.in-Some.feature) c.in-Some.is c.next.ensures.steps

-- so its text is the next one
next-text : (g : _) (c : In-Some g)
    → Putting (g.W.Write.contents c.args.writer.now) (g.W.Write.contents c.loop-id.writer) c.args.output.now c.loop-id.output
    (flat_map (feature_text c.args.choice.now c.args.view.now c.args.name.now) c.args.layer.now.features)
    (feature_text c.args.choice.now c.args.view.now c.args.name.now (c.in-Some.id.now, c.in-Some.feature.now) ++ flat_map (feature_text c.args.choice.now c.args.view.now c.args.name.now) c.next.new.self)
next-text g c =
    let entry : ℕ × FeatureContent = (c.in-Some.id.now, c.in-Some.feature.now) in
    let text = feature_text c.args.choice.now c.args.view.now c.args.name.now in
    Putting-left {whole = flat_map text c.args.layer.now.features} (text entry ++ flat_map text c.next.new.self) (ap (flat_map text) (turn g c) ∙ flat_map-cons text entry c.next.new.self) c.loop-id.invariant

pub loop-id-init : goal.loop-id-init
loop-id-init g c =
    let text = feature_text c.args.choice.now c.args.view.now c.args.name.now in
    let all = c.into_iter-id-iterator.ensures.into_iter_gives ∙ c.features-id-items.ensures.rest in
    Putting-left (flat_map text c.into_iter-id-iterator.result) (ap (flat_map text) (sym all))
    (Putting-start (g.W.Write.contents c.args.writer.now) c.args.output.now (flat_map text c.args.layer.now.features))

pub loop-id-preserved : goal.loop-id-preserved
loop-id-preserved g c =
    let at = (goal.at.loop-id-preserved g c).In-Some in
    let text = feature_text c.args.choice.now c.args.view.now c.args.name.now in
    Putting-more (text (c.in-Some.id.now, c.in-Some.feature.now)) (flat_map text c.next.new.self) refl (next-text g at) c.in_ok-put_feature.ensures.ok

pub returns-in_err-put_feature-clause-broken : goal.returns-in_err-put_feature-clause-broken
returns-in_err-put_feature-clause-broken g c =
    let at = (goal.at.returns-in_err-put_feature-clause-broken g c).In-Some in
    let text = feature_text c.args.choice.now c.args.view.now c.args.name.now in
    breaks c.from_residual.result (text (c.in-Some.id.now, c.in-Some.feature.now)) (flat_map text c.next.new.self) refl (next-text g at) c.in_err-put_feature.ensures.broken

pub returns-clause-ok : goal.returns-clause-ok
returns-clause-ok g c =
    let text = feature_text c.args.choice.now c.args.view.now c.args.name.now in
    Putting-done (Putting-left [] (ap (flat_map text) c.in-None.ensures.steps.0) c.loop-id.invariant)
