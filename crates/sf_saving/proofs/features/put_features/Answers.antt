use Rattle.std.proofs.Common.{◌≡◌, ◌∙◌, ◌++◌, ◌∷◌, [], ℕ, List, ap, flat_map, refl, subst, sym}
use Rattle.std.proofs.lemmas.List.Concat.{flat_map-cons}
use Rattle.std.proofs.lemmas.Map.Iter.{rest_more}
use Rattle.std.specs.List.{AllByRecursion}
use Rattle.std.specs.Map.{values_of}
use Rattle.std.specs.Map.Iter.{deref_pair}
use Rattle.sf_features.specs.Features.{FeatureContent}
use Rattle.sf_format.specs.Canonical.{feature_bytes}
use Rattle.sf_saving.specs.Fits.{FeatureFits}
use Rattle.sf_streams.proofs.Putting.{Putting, Putting-done, Putting-left, Putting-more, Putting-start, breaks}
use Rattle.sf_saving.proofs.features.put_features.Goals as goal
use Rattle.sf_saving.proofs.features.put_features.Goals.{In-Some}

-- the features that were left are this one and those that are left then
turn : (g : _) (c : In-Some g) → c.loop-id.id-iterator ≡ (c.in-Some.id.now, c.in-Some.feature.now) ∷ c.next.new.self
turn g c = rest_more (deref_pair {K = ℕ} {X = FeatureContent}) _ _ _ (c.in-Some.id, c.in-Some.feature) c.in-Some.is c.next.ensures.steps

-- so its bytes are the next ones
next-bytes : (g : _) (c : In-Some g)
    → Putting (g.W.Write.contents c.args.writer.now) (g.W.Write.contents c.loop-id.writer) c.args.output.now c.loop-id.output (flat_map (feature_bytes c.args.layer.now.columns) c.args.layer.now.features)
    (feature_bytes c.args.layer.now.columns (c.in-Some.id.now, c.in-Some.feature.now) ++ flat_map (feature_bytes c.args.layer.now.columns) c.next.new.self)
next-bytes g c =
    let entry : ℕ × FeatureContent = (c.in-Some.id.now, c.in-Some.feature.now) in
    Putting-left (feature_bytes c.args.layer.now.columns entry ++ flat_map (feature_bytes c.args.layer.now.columns) c.next.new.self) (ap (flat_map (feature_bytes c.args.layer.now.columns)) (turn g c) ∙ flat_map-cons (feature_bytes c.args.layer.now.columns) entry c.next.new.self) c.loop-id.invariant.0

-- and it fits, as the others do
fit : (g : _) (c : In-Some g) → FeatureFits c.in-Some.feature.now × AllByRecursion FeatureFits (values_of c.next.new.self)
fit g c = subst (λ (left : List (ℕ × FeatureContent)). AllByRecursion FeatureFits (values_of left)) (turn g c) c.loop-id.invariant.1

pub loop-id-init : goal.loop-id-init
loop-id-init g c =
    let all = c.into_iter-id-iterator.ensures.into_iter_gives ∙ c.features-id-items.ensures.rest in (
      Putting-left (flat_map (feature_bytes c.args.layer.now.columns) c.into_iter-id-iterator.result) (ap (flat_map (feature_bytes c.args.layer.now.columns)) (sym all))
          (Putting-start (g.W.Write.contents c.args.writer.now) c.args.output.now (flat_map (feature_bytes c.args.layer.now.columns) c.args.layer.now.features)),
      subst (λ (left : List (ℕ × FeatureContent)). AllByRecursion FeatureFits (values_of left)) (sym all) c.requires,
    )

pub put_feature-requires : goal.put_feature-requires
put_feature-requires g c = (fit g (goal.at.put_feature-requires g c).In-Some).0

pub loop-id-preserved : goal.loop-id-preserved
loop-id-preserved g c =
    let at = (goal.at.loop-id-preserved g c).In-Some in
    (Putting-more (feature_bytes c.args.layer.now.columns (c.in-Some.id.now, c.in-Some.feature.now)) (flat_map (feature_bytes c.args.layer.now.columns) c.next.new.self) refl (next-bytes g at) c.in_ok-put_feature.ensures.ok, (fit g at).1)

pub returns-in_err-put_feature-clause-broken : goal.returns-in_err-put_feature-clause-broken
returns-in_err-put_feature-clause-broken g c =
    let at = (goal.at.returns-in_err-put_feature-clause-broken g c).In-Some in
    breaks c.from_residual.result (feature_bytes c.args.layer.now.columns (c.in-Some.id.now, c.in-Some.feature.now)) (flat_map (feature_bytes c.args.layer.now.columns) c.next.new.self) refl (next-bytes g at) c.in_err-put_feature.ensures.broken

pub returns-clause-ok : goal.returns-clause-ok
returns-clause-ok g c = Putting-done (Putting-left [] (ap (flat_map (feature_bytes c.args.layer.now.columns)) c.in-None.ensures.steps.0) c.loop-id.invariant.0)
