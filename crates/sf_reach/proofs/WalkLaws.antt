-- What a walk along chains has found, and that it comes to what is reached.
use Rattle.std.proofs.Common.{◌≡◌, ◌∙◌, ◌⊎◌, ◌↔◌, ℕ, ◌+◌, ◌<◌, ◌≤◌, Bool, true, false, not, List, [], ◌∷◌, ◌++◌, Option, None, Some, IfSome, IsSome, is_some, filter, length, take, take_all, append-nil, get_or, nat_eq, inl, inr, refl, ap, sym, subst, arith}
use Rattle.std.specs.List.{Contains, IsDistinct}
use Rattle.std.specs.List.Sorted.{IsStrictlySortedBy}
use Rattle.std.specs.Map.{keys_of}
use Rattle.std.specs.Ordering.{nat_cmp}
use Rattle.std.proofs.lemmas.Bool.{and_from, and_parts, eqb-true}
use Rattle.std.proofs.lemmas.List.{length-append, take-append-le, take_more}
use Rattle.std.proofs.lemmas.List.Elements.{Contains-append_left, Contains-get_or, Contains-push_cases}
use Rattle.std.proofs.lemmas.Map.Entries.{length-keys_of}
use Rattle.sf_geometry.specs.declared.geometry.Geometry.{Geometry}
use Rattle.sf_features.specs.Features.{FeatureContent}
use Rattle.sf_layers.specs.Content.{LayerContent, feature_of}
use Rattle.sf_layers.specs.WellFormed.{IsLayer}
use Rattle.sf_query.specs.declared.ask.Ask.{Ask}
use Rattle.sf_query.specs.Answers.{ids_found, is_asked}
use Rattle.sf_joins.specs.Converse.{HasNineLetters, converse}
use Rattle.sf_joins.specs.Joins.{are_distinct}
use Rattle.sf_joins.proofs.ConverseLaws.{asks-turn-round}
use Rattle.sf_joins.proofs.PairLaws.{contains-map}
use Rattle.sf_reach.specs.Added.{AreAdded}
use Rattle.sf_reach.specs.Chains.{IsChain, IsReached, IsStep, Stop}
use Rattle.sf_reach.specs.Answers.{is_end}
use Rattle.sf_reach.specs.Replies.{AreThere, StopRises}
use Rattle.sf_reach.proofs.ListLaws.{contains-none, distinct-fit, each-contains}
use Rattle.sf_reach.proofs.RoundLaws.{closed-reached, key-passes, passes-key, reached-given, reached-step, some-feature}
use Rattle.sf_reach.proofs.StepLaws.{computed-end, joined-pair, member, no-end, pair-joined, there}

pub stop-rises : (stop : Option Stop) → IfSome stop (λ s. IsLayer s.layer) → StopRises stop
stop-rises None h = tt
stop-rises (Some stop) h = h.rising

-- ---- one step

-- an end leads nowhere
pub added-end : (layer : LayerContent) (ask : Ask) (stop : Option Stop) (id : ℕ) (f : FeatureContent) (old : List ℕ) → StopRises stop → feature_of layer id ≡ Some f → is_end stop (id, f) ≡ true
    → AreAdded (IsStep layer ask stop id) old old
added-end layer ask stop id f old rising found ends = record {
  more = [];
  behind = sym (append-nil old);
  all = λ k step. absurd (step.goes_on (computed-end layer stop id f rising found ends));
  only = λ k c. inl c;
}

-- what the ask finds, the other way round, are the features that a step leads to, and maybe the feature itself
pub added-found : (layer : LayerContent) (ask turned : Ask) (stop : Option Stop) (id : ℕ) (f : FeatureContent) (geometry : Geometry) (items old new : List ℕ)
    → IsStrictlySortedBy nat_cmp (keys_of layer.features) → feature_of layer id ≡ Some f → is_end stop (id, f) ≡ false → Contains old id
    → HasNineLetters ask → turned ≡ converse ask → geometry ≡ f.geometry → items ≡ ids_found layer turned geometry
    → AreAdded (Contains items) old new → AreAdded (IsStep layer ask stop id) old new
added-found layer ask turned stop id f geometry items old new rising found goes_on own nine is same are added = record {
  more = added.more;
  behind = added.behind;
  all = λ k step. added.all k (subst (λ ids. Contains ids k) (sym listed) (stepped k step));
  only = λ k c. only k (added.only k c);
}
  where
    asked : ℕ × FeatureContent → Bool
    asked e = is_asked (converse ask) e.1.geometry f.geometry

    listed : items ≡ keys_of (filter (λ e. is_asked (converse ask) e.1.geometry f.geometry) layer.features)
    listed = are ∙ ap (λ a. ids_found layer a geometry) is ∙ ap (λ g. ids_found layer (converse ask) g) same

    stepped : (k : ℕ) → IsStep layer ask stop id k → Contains (keys_of (filter (λ e. is_asked (converse ask) e.1.geometry f.geometry) layer.features)) k
    stepped k step =
        let b : FeatureContent = step.joined.b in
        passes-key (λ e. is_asked (converse ask) e.1.geometry f.geometry) layer.features (k, b) (member layer k b step.joined.second_there)
        (sym (asks-turn-round ask f.geometry b.geometry nine)
        ∙ (and_parts (are_distinct true id k) (is_asked ask f.geometry b.geometry) (joined-pair true layer ask layer id k f found step.joined)).1)

    by : (e : ℕ × FeatureContent) → Contains layer.features e → is_asked (converse ask) e.1.geometry f.geometry ≡ true → (b : Bool) → nat_eq id e.0 ≡ b → Contains old e.0 ⊎ IsStep layer ask stop id e.0
    by e here passes true itself = inl (subst (Contains old) (eqb-true id e.0 itself) own)
    by e here passes false other =
        inr (record {
          goes_on = no-end layer stop id f found goes_on;
          joined =
              pair-joined true layer ask layer (id, f) e found (there layer e rising here)
              (and_from (are_distinct true id e.0) (is_asked ask f.geometry e.1.geometry) (ap not other) (asks-turn-round ask f.geometry e.1.geometry nine ∙ passes));
        })

    only : (k : ℕ) → Contains old k ⊎ Contains items k → Contains old k ⊎ IsStep layer ask stop id k
    only k (inl c) = inl c
    only k (inr c) =
        let e = key-passes (λ x. is_asked (converse ask) x.1.geometry f.geometry) layer.features k (subst (λ ids. Contains ids k) listed c) in
        subst (λ n. Contains old n ⊎ IsStep layer ask stop id n) e.3 (by e.0 e.1 e.2 (nat_eq id e.0.0) refl)

-- ---- the walk

-- what was found so far is reached, the given ones are there, and steps from those that were looked at lead to what was found
pub record IsWalked (layer : LayerContent) (ask : Ask) (stop : Option Stop) (given ids : List ℕ) (looked : ℕ) : Type 0 where
  pub within : looked ≤ length ids
  pub only : (k : ℕ) → Contains ids k → IsReached layer ask stop given k
  pub has : (k : ℕ) → Contains given k → Contains ids k
  pub closed : (i j : ℕ) → Contains (take looked ids) i → IsStep layer ask stop i j → Contains ids j

pub walk-begins : (layer : LayerContent) (ask : Ask) (stop : Option Stop) (given none ids : List ℕ) → none ≡ [] → AreAdded (Contains given) none ids → IsWalked layer ask stop given ids 0
walk-begins layer ask stop given none ids empty added = record {
  within = omega arith;
  only = λ k c. by k (added.only k c);
  has = added.all;
  closed = λ i j c step. absurd (contains-none i c);
}
  where
    by : (k : ℕ) → Contains none k ⊎ Contains given k → IsReached layer ask stop given k
    by k (inl c) = absurd (contains-none k (subst (λ l. Contains l k) empty c))
    by k (inr c) = reached-given layer ask stop given k c

pub walk-goes-on : (layer : LayerContent) (ask : Ask) (stop : Option Stop) (given ids new : List ℕ) (looked : ℕ) → looked < length ids → IsWalked layer ask stop given ids looked
    → AreAdded (IsStep layer ask stop (get_or ids looked 0)) ids new → IsWalked layer ask stop given new (looked + 1)
walk-goes-on layer ask stop given ids new looked below was added = record {
  within = omega (arith, ap length added.behind, length-append ids added.more);
  only = λ k c. only k (added.only k c);
  has = λ k c. kept k (was.has k c);
  closed = λ i j c step. closed i j (Contains-push_cases (take looked ids) id i (subst (λ l. Contains l i) next c)) step;
}
  where
    id : ℕ
    id = get_or ids looked 0

    kept : (k : ℕ) → Contains ids k → Contains new k
    kept k c = subst (λ l. Contains l k) (sym added.behind) (Contains-append_left ids added.more k c)

    only : (k : ℕ) → Contains ids k ⊎ IsStep layer ask stop (get_or ids looked 0) k → IsReached layer ask stop given k
    only k (inl c) = was.only k c
    only k (inr step) = reached-step layer ask stop given (get_or ids looked 0) k (was.only (get_or ids looked 0) (Contains-get_or ids looked 0 below)) step

    next : take (looked + 1) new ≡ take looked ids ++ get_or ids looked 0 ∷ []
    next = ap (take (looked + 1)) added.behind ∙ take-append-le (looked + 1) ids added.more (omega arith) ∙ take_more ids looked 0 below

    closed : (i j : ℕ) → Contains (take looked ids) i ⊎ (get_or ids looked 0 ≡ i) → IsStep layer ask stop i j → Contains new j
    closed i j (inl c) step = kept j (was.closed i j c step)
    closed i j (inr same) step = added.all j (subst (λ n. IsStep layer ask stop n j) (sym same) step)

pub walk-ends : (layer : LayerContent) (ask : Ask) (stop : Option Stop) (given ids : List ℕ) (looked : ℕ) → length ids ≤ looked → IsWalked layer ask stop given ids looked
    → (k : ℕ) → Contains ids k ↔ IsReached layer ask stop given k
walk-ends layer ask stop given ids looked all was k =
    (was.only k, closed-reached layer ask stop given ids was.has (λ i j c step. was.closed i j (subst (λ l. Contains l i) (sym (take_all looked ids all)) c) step) k)

-- ---- what is reached is there

pub reached-there : (layer : LayerContent) (ask : Ask) (stop : Option Stop) (given : List ℕ) → AreThere layer given → (k : ℕ) → IsReached layer ask stop given k → IsSome (feature_of layer k)
reached-there layer ask stop given given_there k reached =
    along reached.first reached.rest (each-contains (λ id. IsSome (feature_of layer id)) given reached.first given_there reached.is_given) reached.chain
  where
    along : (i : ℕ) (rest : List ℕ) → IsSome (feature_of layer i) → IsChain layer ask stop i rest k → IsSome (feature_of layer k)
    along i [] some is = subst (λ n. IsSome (feature_of layer n)) is some
    along i (j ∷ rest) some chain = along j rest (ap is_some chain.0.joined.second_there) chain.1

-- so no more are found than the layer has features
pub walk-fits : (layer : LayerContent) (ask : Ask) (stop : Option Stop) (given ids : List ℕ) (looked : ℕ) → AreThere layer given → IsDistinct nat_eq ids → IsWalked layer ask stop given ids looked
    → length ids ≤ length layer.features
walk-fits layer ask stop given ids looked given_there distinct was =
    let fits : length ids ≤ length (keys_of layer.features) = distinct-fit ids (keys_of layer.features) distinct (λ k c. key k (some-feature layer k (reached-there layer ask stop given given_there k (was.only k c)))) in
    omega (arith, length-keys_of layer.features)
  where
    key : (k : ℕ) → (f : FeatureContent) × (feature_of layer k ≡ Some f) → Contains (keys_of layer.features) k
    key k f = contains-map (λ (e : ℕ × FeatureContent). e.0) layer.features (k, f.0) (member layer k f.0 f.1)
