-- The answers to `join`.
use Rattle.std.proofs.Common.{nat_eq, ◌≡◌, ◌∙◌, ℕ, Bool, List, map, decimal, Option, None, Some, Result, Ok, Err, inl, inr, refl, ap}
use Rattle.std.specs.Prelude.{bytes_eq}
use Rattle.std.specs.Result.{IsErrAnd}
use Rattle.sf_refusals.specs.declared.refusal.Refusal.{Refusal}
use Rattle.sf_features.specs.Features.{FeatureContent}
use Rattle.sf_layers.specs.Content.{LayerContent, feature_of, layer_of}
use Rattle.sf_layers.proofs.Changes.{IsLayer-layer_of}
use Rattle.sf_valid_rules.specs.Validity.{IsValid}
use Rattle.sf_query.proofs.FilterLaws.{value-found}
use Rattle.sf_near.specs.declared.pair_ask.PairAsk.{PairAsk}
use Rattle.sf_near.proofs.FeatureLaws.{geometries-valid}
use Rattle.sf_query.specs.declared.refusal.Refusal.{Refusal as QueryRefusal}
use Rattle.sf_query.specs.declared.refusal.Refusal.TheVariants as queries
use Rattle.sf_query.specs.Refusals.{refusal_of}
use Rattle.sf_joins.specs.declared.joined.Joined.{Joined}
use Rattle.sf_joins.specs.declared.joined.Beside.{Beside}
use Rattle.sf_joins.specs.Joins.{found_beside, pairs_found}
use Rattle.sf_joins.specs.Replies.{IsBeside, IsBesideOf, IsJoin}
use Rattle.sf_joins.proofs.PlaneLaws.{beside_is_over_the_plane, joins_are_over_the_plane}
use Rattle.sf_history.specs.History.{Machine}
use Rattle.sf_console.specs.declared.reply.Reply.{Reply}
use Rattle.sf_console.specs.Answers.{beside, beside_feature, join_told, joined, pair_row, reply, reply_text, rows}
use Rattle.sf_console.specs.Laws.{BesideRepliesAreOverThePlane, JoinRepliesAreOverThePlane}
use Rattle.sf_console.proofs.QueryLemmas.{IsToldAs, refused-as}

-- ---- pairs

pub joined-rows : (one : Bool) (first : Option LayerContent) (ask : PairAsk) (second : Option LayerContent) (done : Joined) → IsJoin one first ask second (Ok done)
    → rows (map pair_row done.pairs.items) ≡ joined one first ask second
joined-rows one None ask second done h = cc
joined-rows one (Some first) ask None done h = cc
joined-rows one (Some first) ask (Some second) done h = ap (λ pairs. rows (map pair_row pairs)) h.0

pub joined-refused : (one : Bool) (first : Option LayerContent) (ask : PairAsk) (second : Option LayerContent) (refusal : QueryRefusal) (r : Result Reply Refusal) → IsJoin one first ask second (Err refusal)
    → IsErrAnd r (λ e. e ≡ refusal_of refusal) → IsToldAs (joined one first ask second) (reply_text r)
joined-refused one None ask second refusal r h is = inl (refused-as refusal queries.NoLayer r is cc)
joined-refused one (Some first) ask None refusal r h is = inl (refused-as refusal queries.NoLayer r is cc)
joined-refused one (Some first) ask (Some second) refusal r want is = inr (refused-as refusal queries.Memory r is want)

-- ---- beside a feature

pub beside-rows : (one : Bool) (first : Option LayerContent) (ask : PairAsk) (second : Option LayerContent) (id : ℕ) (done : Beside) → IsBeside one first ask second id (Ok done)
    → rows (map decimal done.ids.items) ≡ beside one first ask second id
beside-rows one None ask second id done h = cc
beside-rows one (Some first) ask None id done h = cc
beside-rows one (Some first) ask (Some second) id done h = by (feature_of second id) h
  where
    by : (feature : Option FeatureContent) → IsBesideOf one first ask second id feature (Ok done) → rows (map decimal done.ids.items) ≡ beside_feature one first ask id feature
    by None k = cc
    by (Some feature) k = ap (λ ids. rows (map decimal ids)) k.0

pub beside-refused : (one : Bool) (first : Option LayerContent) (ask : PairAsk) (second : Option LayerContent) (id : ℕ) (refusal : QueryRefusal) (r : Result Reply Refusal)
    → IsBeside one first ask second id (Err refusal) → IsErrAnd r (λ e. e ≡ refusal_of refusal) → IsToldAs (beside one first ask second id) (reply_text r)
beside-refused one None ask second id refusal r h is = inl (refused-as refusal queries.NoLayer r is cc)
beside-refused one (Some first) ask None id refusal r h is = inl (refused-as refusal queries.NoLayer r is cc)
beside-refused one (Some first) ask (Some second) id refusal r h is = by (feature_of second id) h
  where
    by : (feature : Option FeatureContent) → IsBesideOf one first ask second id feature (Err refusal) → IsToldAs (beside_feature one first ask id feature) (reply_text r)
    by None missing = inl (refused-as refusal queries.NoFeature r is cc)
    by (Some feature) want = inr (refused-as refusal queries.Memory r is want)

-- ---- over the plane

pub join_replies_are_over_the_plane : JoinRepliesAreOverThePlane
join_replies_are_over_the_plane machine editor name other first second ask fine is at =
    let one : Bool = bytes_eq name other in
    let own = IsLayer-layer_of machine.now name first is fine.now.layers in
    let fits = IsLayer-layer_of machine.now other second at fine.now.layers in (
      pairs_found one first ask second,
      joins_are_over_the_plane one first second ask own.rising fits.rising (geometries-valid first own) (geometries-valid second fits),
      ap (λ o. (machine, joined one o ask (layer_of machine.now other))) is
          ∙ ap (λ o. (machine, joined one (Some first) ask o)) at,
    )

pub beside_replies_are_over_the_plane : BesideRepliesAreOverThePlane
beside_replies_are_over_the_plane machine editor name other first second ask id feature fine is at there =
    let one : Bool = bytes_eq name other in
    let own = IsLayer-layer_of machine.now name first is fine.now.layers in
    let fits = IsLayer-layer_of machine.now other second at fine.now.layers in
    let valid : IsValid feature.geometry = value-found (λ (f : FeatureContent). IsValid f.geometry) (nat_eq id) feature second.features (geometries-valid second fits) there in (
      found_beside one first ask (id, feature),
      beside_is_over_the_plane one first second ask id feature own.rising (geometries-valid first own) valid there,
      ap (λ o. (machine, beside one o ask (layer_of machine.now other) id)) is
          ∙ ap (λ o. (machine, beside one (Some first) ask o id)) at
          ∙ ap (λ f. (machine, beside_feature one first ask id f)) there,
    )
