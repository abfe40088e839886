-- What the rounds find are just the features that chains lead to.
use Rattle.std.proofs.Common.{◌≡◌, ◌∙◌, ◌⊎◌, ℕ, zero, suc, ◌<◌, ◌≤◌, Bool, true, false, ◌&&◌, ◌||◌, List, [], ◌∷◌, ◌++◌, Option, None, Some, IsSome, filter, length, inl, inr, refl, ap, sym, subst, arith}
use Rattle.std.specs.List.{Contains, list_any}
use Rattle.std.specs.List.Sorted.{IsStrictlySortedBy}
use Rattle.std.specs.Map.{keys_of}
use Rattle.std.specs.Ordering.{nat_cmp}
use Rattle.std.proofs.lemmas.Bool.{and_from, and_parts, false≢true}
use Rattle.sf_features.specs.Features.{FeatureContent}
use Rattle.sf_layers.specs.Content.{LayerContent, feature_of}
use Rattle.sf_query.specs.declared.ask.Ask.{Ask}
use Rattle.sf_query.proofs.FilterLaws.{rising-filter}
use Rattle.sf_joins.proofs.PairLaws.{contains-filter, contains-map, filter-contains, map-contains}
use Rattle.sf_reach.specs.Chains.{IsChain, IsReached, IsStep, Stop}
use Rattle.sf_reach.specs.Answers.{are_next, found_after, ids_reached, is_among, is_step}
use Rattle.sf_reach.specs.Replies.{AreThere, StopRises, ReachedIsOverThePlane}
use Rattle.sf_reach.proofs.ListLaws.{among-contains, any-contains, contains-among, contains-any, each-contains, filter-grows, length-filter-le}
use Rattle.sf_reach.proofs.StepLaws.{computed-step, member, step-computed, there}

or-left : (a b : Bool) → a ≡ true → (a || b) ≡ true
or-left a b is = ap (λ t. t || b) is

or-right : (a b : Bool) → b ≡ true → (a || b) ≡ true
or-right true b is = refl
or-right false b is = is

or-cases : (a b : Bool) → (a || b) ≡ true → (a ≡ true) ⊎ (b ≡ true)
or-cases true b is = inl refl
or-cases false b is = inr is

-- what is there has a feature
pub some-feature : (layer : LayerContent) (id : ℕ) → IsSome (feature_of layer id) → (f : FeatureContent) × (feature_of layer id ≡ Some f)
some-feature layer id is = by (feature_of layer id) refl is
  where
    by : (o : Option FeatureContent) → feature_of layer id ≡ o → IsSome o → (f : FeatureContent) × (feature_of layer id ≡ Some f)
    by None at some = absurd (false≢true some)
    by (Some f) at some = (f, at)

-- ---- identifiers of entries that pass

pub key-passes : (p : ℕ × FeatureContent → Bool) (es : List (ℕ × FeatureContent)) (k : ℕ) → Contains (keys_of (filter p es)) k
    → (e : ℕ × FeatureContent) × Contains es e × (p e ≡ true) × (e.0 ≡ k)
key-passes p es k c =
    let at = map-contains (λ (e : ℕ × FeatureContent). e.0) (filter p es) k c in
    let kept = filter-contains p es at.0 at.1 in
    (at.0, kept.0, kept.1, at.2)

pub passes-key : (p : ℕ × FeatureContent → Bool) (es : List (ℕ × FeatureContent)) (e : ℕ × FeatureContent) → Contains es e → p e ≡ true → Contains (keys_of (filter p es)) e.0
passes-key p es e c passes = contains-map (λ (x : ℕ × FeatureContent). x.0) (filter p es) e (contains-filter p es e c passes)

keys-more : (p q : ℕ × FeatureContent → Bool) → ((e : ℕ × FeatureContent) → p e ≡ true → q e ≡ true) → (es : List (ℕ × FeatureContent)) (k : ℕ)
    → Contains (keys_of (filter p es)) k → Contains (keys_of (filter q es)) k
keys-more p q more es k c = let at = key-passes p es k c in subst (Contains (keys_of (filter q es))) at.3 (passes-key q es at.0 at.1 (more at.0 at.2))

-- ---- chains grow by a step

chain-longer : (layer : LayerContent) (ask : Ask) (stop : Option Stop) (i : ℕ) (rest : List ℕ) (k j : ℕ)
    → IsChain layer ask stop i rest k → IsStep layer ask stop k j → IsChain layer ask stop i (rest ++ j ∷ []) j
chain-longer layer ask stop i [] k j is step = (subst (λ n. IsStep layer ask stop n j) (sym is) step, refl)
chain-longer layer ask stop i (n ∷ rest) k j chain step = (chain.0, chain-longer layer ask stop n rest k j chain.1 step)

pub reached-given : (layer : LayerContent) (ask : Ask) (stop : Option Stop) (given : List ℕ) (k : ℕ) → Contains given k → IsReached layer ask stop given k
reached-given layer ask stop given k c = record { first = k; rest = []; is_given = c; chain = refl }

pub reached-step : (layer : LayerContent) (ask : Ask) (stop : Option Stop) (given : List ℕ) (k j : ℕ)
    → IsReached layer ask stop given k → IsStep layer ask stop k j → IsReached layer ask stop given j
reached-step layer ask stop given k j reached step = record {
  first = reached.first;
  rest = reached.rest ++ j ∷ [];
  is_given = reached.is_given;
  chain = chain-longer layer ask stop reached.first reached.rest k j reached.chain step;
}

-- what has the given ones, and is closed under steps, has all that is reached
pub closed-reached : (layer : LayerContent) (ask : Ask) (stop : Option Stop) (given ids : List ℕ) → ((k : ℕ) → Contains given k → Contains ids k)
    → ((i j : ℕ) → Contains ids i → IsStep layer ask stop i j → Contains ids j) → (k : ℕ) → IsReached layer ask stop given k → Contains ids k
closed-reached layer ask stop given ids has closed k reached = along reached.first reached.rest (has reached.first reached.is_given) reached.chain
  where
    along : (i : ℕ) (rest : List ℕ) → Contains ids i → IsChain layer ask stop i rest k → Contains ids k
    along i [] c is = subst (Contains ids) is c
    along i (j ∷ rest) c chain = along j rest (closed i j c chain.0) chain.1

-- ---- rounds

module _ (layer : LayerContent) (ask : Ask) (stop : Option Stop) (given : List ℕ) where
  abbrev found : ℕ → List ℕ
  found n = found_after layer ask stop given n

  -- the identifiers of the next round
  abbrev next : List ℕ → List ℕ
  next ids = keys_of (filter (are_next layer ask stop given ids) layer.features)

  -- what passes in a round
  abbrev passes : ℕ → ℕ × FeatureContent → Bool
  passes zero = is_among given
  passes (suc n) = are_next layer ask stop given (found n)

  found-as : (n : ℕ) → found n ≡ keys_of (filter (passes n) layer.features)
  found-as zero = refl
  found-as (suc n) = refl

  next-more : (ids more : List ℕ) → ((k : ℕ) → Contains ids k → Contains more k) → (e : ℕ × FeatureContent)
      → are_next layer ask stop given ids e ≡ true → are_next layer ask stop given more e ≡ true
  next-more ids more within e h = by (or-cases (is_among given e) (list_any (λ from. is_among ids from && is_step ask stop from e) layer.features) h)
    where
      by : (is_among given e ≡ true) ⊎ (list_any (λ from. is_among ids from && is_step ask stop from e) layer.features ≡ true) → are_next layer ask stop given more e ≡ true
      by (inl is) = or-left (is_among given e) (list_any (λ from. is_among more from && is_step ask stop from e) layer.features) is
      by (inr is) =
          let at = any-contains (λ from. is_among ids from && is_step ask stop from e) layer.features is in
          let parts = and_parts (is_among ids at.0) (is_step ask stop at.0 e) at.2 in
          or-right (is_among given e) (list_any (λ from. is_among more from && is_step ask stop from e) layer.features)
          (contains-any (λ from. is_among more from && is_step ask stop from e) layer.features at.0 at.1
          (and_from (is_among more at.0) (is_step ask stop at.0 e) (contains-among more at.0.0 (within at.0.0 (among-contains ids at.0.0 parts.0))) parts.1))

  -- each round finds what the one before it found
  grows : (n : ℕ) (e : ℕ × FeatureContent) → passes n e ≡ true → passes (suc n) e ≡ true
  grows zero e h = or-left (is_among given e) (list_any (λ from. is_among (found zero) from && is_step ask stop from e) layer.features) h
  grows (suc n) e h = next-more (found n) (found (suc n)) (within (grows n)) e h
    where
      within : ((x : ℕ × FeatureContent) → passes n x ≡ true → passes (suc n) x ≡ true) → (k : ℕ) → Contains (found n) k → Contains (found (suc n)) k
      within before k c = keys-more (passes n) (passes (suc n)) before layer.features k (subst (λ ids. Contains ids k) (found-as n) c)

  -- rounds found nothing more, or as many features as there were rounds
  settled-or-long : (n : ℕ) → (found n ≡ found (suc n)) ⊎ (n ≤ length (filter (passes n) layer.features))
  settled-or-long zero = inr (omega arith)
  settled-or-long (suc n) = by (settled-or-long n)
    where
      at : n ≤ length (filter (passes n) layer.features) → (filter (passes n) layer.features ≡ filter (passes (suc n)) layer.features) ⊎ (length (filter (passes n) layer.features) < length (filter (passes (suc n)) layer.features))
          → (found (suc n) ≡ found (suc (suc n))) ⊎ (suc n ≤ length (filter (passes (suc n)) layer.features))
      at long (inl same) = inl (ap next (found-as n ∙ ap keys_of same))
      at long (inr less) = inr (omega arith)

      by : (found n ≡ found (suc n)) ⊎ (n ≤ length (filter (passes n) layer.features)) → (found (suc n) ≡ found (suc (suc n))) ⊎ (suc n ≤ length (filter (passes (suc n)) layer.features))
      by (inl same) = inl (ap next same)
      by (inr long) = at long (filter-grows (passes n) (passes (suc n)) (grows n) layer.features)

  -- after as many rounds as there are features nothing more is found
  settled : ids_reached layer ask stop given ≡ next (ids_reached layer ask stop given)
  settled = by (settled-or-long (length layer.features))
    where
      at : length layer.features ≤ length (filter (passes (length layer.features)) layer.features)
          → (filter (passes (length layer.features)) layer.features ≡ filter (passes (suc (length layer.features))) layer.features)
          ⊎ (length (filter (passes (length layer.features)) layer.features) < length (filter (passes (suc (length layer.features))) layer.features))
          → found (length layer.features) ≡ found (suc (length layer.features))
      at long (inl same) = found-as (length layer.features) ∙ ap keys_of same
      at long (inr less) =
          let most : length (filter (passes (suc (length layer.features))) layer.features) ≤ length layer.features = length-filter-le (passes (suc (length layer.features))) layer.features in
          absurd (omega arith)

      by : (found (length layer.features) ≡ found (suc (length layer.features))) ⊎ (length layer.features ≤ length (filter (passes (length layer.features)) layer.features))
          → found (length layer.features) ≡ found (suc (length layer.features))
      by (inl same) = same
      by (inr long) = at long (filter-grows (passes (length layer.features)) (passes (suc (length layer.features))) (grows (length layer.features)) layer.features)

  -- ---- what is found is reached

  module _ (rising : IsStrictlySortedBy nat_cmp (keys_of layer.features)) where
    given-reached : (e : ℕ × FeatureContent) (k : ℕ) → is_among given e ≡ true → e.0 ≡ k → IsReached layer ask stop given k
    given-reached e k is same = subst (IsReached layer ask stop given) same (reached-given layer ask stop given e.0 (among-contains given e.0 is))

    found-reached : (n k : ℕ) → Contains (found n) k → IsReached layer ask stop given k
    found-reached zero k c = let e = key-passes (is_among given) layer.features k c in given-reached e.0 k e.2 e.3
    found-reached (suc n) k c =
        let e = key-passes (are_next layer ask stop given (found n)) layer.features k c in
        by e.0 e.1 e.3 (or-cases (is_among given e.0) (list_any (λ from. is_among (found n) from && is_step ask stop from e.0) layer.features) e.2) (found-reached n)
      where
        by : (e : ℕ × FeatureContent) → Contains layer.features e → e.0 ≡ k
            → (is_among given e ≡ true) ⊎ (list_any (λ from. is_among (found n) from && is_step ask stop from e) layer.features ≡ true)
            → ((i : ℕ) → Contains (found n) i → IsReached layer ask stop given i) → IsReached layer ask stop given k
        by e here same (inl is) before = given-reached e k is same
        by e here same (inr is) before =
            let at = any-contains (λ from. is_among (found n) from && is_step ask stop from e) layer.features is in
            let parts = and_parts (is_among (found n) at.0) (is_step ask stop at.0 e) at.2 in
            subst (IsReached layer ask stop given) same
            (reached-step layer ask stop given at.0.0 e.0 (before at.0.0 (among-contains (found n) at.0.0 parts.0))
            (computed-step layer ask stop at.0 e (there layer at.0 rising at.1) (there layer e rising here) parts.1))

    -- ---- what is reached is found

    module _ (stop_rises : StopRises stop) (given_there : AreThere layer given) where
      has-given : (k : ℕ) → Contains given k → Contains (next (ids_reached layer ask stop given)) k
      has-given k c =
          let f = some-feature layer k (each-contains (λ id. IsSome (feature_of layer id)) given k given_there c) in
          passes-key (are_next layer ask stop given (ids_reached layer ask stop given)) layer.features (k, f.0) (member layer k f.0 f.1)
          (or-left (is_among given (k, f.0)) (list_any (λ from. is_among (ids_reached layer ask stop given) from && is_step ask stop from (k, f.0)) layer.features) (contains-among given k c))

      has-step : (i j : ℕ) → Contains (ids_reached layer ask stop given) i → IsStep layer ask stop i j → Contains (next (ids_reached layer ask stop given)) j
      has-step i j c step =
          let ids : List ℕ = ids_reached layer ask stop given in
          let a : ℕ × FeatureContent = (i, step.joined.a) in
          let b : ℕ × FeatureContent = (j, step.joined.b) in
          passes-key (are_next layer ask stop given ids) layer.features b (member layer j step.joined.b step.joined.second_there)
          (or-right (is_among given b) (list_any (λ from. is_among ids from && is_step ask stop from b) layer.features)
          (contains-any (λ from. is_among ids from && is_step ask stop from b) layer.features a (member layer i step.joined.a step.joined.first_there)
          (and_from (is_among ids a) (is_step ask stop a b) (contains-among ids i c)
          (step-computed layer ask stop i j step.joined.a stop_rises step.joined.first_there step))))

      reached-found : (k : ℕ) → IsReached layer ask stop given k → Contains (ids_reached layer ask stop given) k
      reached-found =
          closed-reached layer ask stop given (ids_reached layer ask stop given)
          (λ k c. subst (λ ids. Contains ids k) (sym settled) (has-given k c))
          (λ i j c step. subst (λ ids. Contains ids j) (sym settled) (has-step i j c step))

pub reached_is_over_the_plane : ReachedIsOverThePlane
reached_is_over_the_plane layer ask stop given rising stop_rises given_there = record {
  rising =
      subst (IsStrictlySortedBy nat_cmp) (sym (found-as layer ask stop given (length layer.features)))
      (rising-filter (passes layer ask stop given (length layer.features)) layer.features rising);
  just = λ k. (found-reached layer ask stop given rising (length layer.features) k, reached-found layer ask stop given rising stop_rises given_there k);
}
