-- What is computed of a join is what is joined over all points of the plane.
use Rattle.std.proofs.Common.{◌≡◌, ◌∙◌, ℕ, Bool, true, List, filter, map, Some, nat_eq, sym, subst}
use Rattle.std.specs.List.{Contains}
use Rattle.std.specs.List.Sorted.{IsStrictlySortedBy}
use Rattle.std.specs.Map.{keys_of}
use Rattle.std.specs.Ordering.{nat_cmp}
use Rattle.std.proofs.lemmas.Bool.{and_from, and_parts, eqb-true}
use Rattle.std.proofs.lemmas.List.Elements.{All-contains, All-from_recursion}
use Rattle.std.proofs.lemmas.Map.Views.{Contains-from_lookup}
use Rattle.sf_features.specs.Features.{FeatureContent}
use Rattle.sf_layers.specs.Content.{LayerContent, feature_of}
use Rattle.sf_valid_rules.specs.Validity.{IsValid}
use Rattle.sf_near.proofs.Passed.{IsFoundIn, each-found, rising-filter, value-found}
use Rattle.sf_near.specs.declared.pair_ask.PairAsk.{PairAsk}
use Rattle.sf_near.specs.Pairs.{are_asked}
use Rattle.sf_near.proofs.AskedLaws.{asks_are_over_the_plane}
use Rattle.sf_joins.specs.Joins.{BesideIsOverThePlane, HasValid, IsJoined, JoinsAreOverThePlane, are_distinct, found_beside, is_pair, pairs_found}
use Rattle.sf_joins.proofs.PairLaws.{contains-filter, contains-flat, contains-map, filter-contains, flat-contains, flat-rises, map-contains, row-begins, row-rises}

-- the pairs of one feature of the first layer
abbrev pub row : Bool → PairAsk → LayerContent → ℕ × FeatureContent → List (ℕ × ℕ)
row one ask second a = map (λ b. (a.0, b.0)) (filter (is_pair one ask a) second.features)

-- a feature is found under its identifier
there : (layer : LayerContent) (e : ℕ × FeatureContent) → IsStrictlySortedBy nat_cmp (keys_of layer.features) → Contains layer.features e → feature_of layer e.0 ≡ Some e.1
there layer e rising c = All-contains (IsFoundIn layer.features) layer.features e (All-from_recursion (IsFoundIn layer.features) layer.features (each-found layer.features rising)) c

-- and what is found under one is there
member : (layer : LayerContent) (i : ℕ) (f : FeatureContent) → feature_of layer i ≡ Some f → Contains layer.features (i, f)
member layer i f found = Contains-from_lookup {eq = nat_eq} eqb-true i f layer.features found

-- what is found is valid
valid : (layer : LayerContent) (i : ℕ) (f : FeatureContent) → HasValid layer → feature_of layer i ≡ Some f → IsValid f.geometry
valid layer i f all found = value-found (λ (feature : FeatureContent). IsValid feature.geometry) (nat_eq i) f layer.features all found

-- a pair is joined
pair-joined : (one : Bool) (first : LayerContent) (ask : PairAsk) (second : LayerContent) (a b : ℕ × FeatureContent) → IsValid a.1.geometry → IsValid b.1.geometry
    → feature_of first a.0 ≡ Some a.1 → feature_of second b.0 ≡ Some b.1 → is_pair one ask a b ≡ true → IsJoined one first ask second a.0 b.0
pair-joined one first ask second a b va vb found other h =
    let parts = and_parts (are_distinct one a.0 b.0) (are_asked ask a.1.geometry b.1.geometry) h in
    record {
      a = a.1;
      b = b.1;
      first_there = found;
      second_there = other;
      distinct = parts.0;
      asked = (asks_are_over_the_plane ask a.1.geometry b.1.geometry va vb).0 parts.1;
    }

-- what is joined is a pair
joined-pair : (one : Bool) (first : LayerContent) (ask : PairAsk) (second : LayerContent) (i j : ℕ) (joined : IsJoined one first ask second i j) → IsValid joined.a.geometry → IsValid joined.b.geometry
    → is_pair one ask (i, joined.a) (j, joined.b) ≡ true
joined-pair one first ask second i j joined va vb =
    and_from (are_distinct one i j) (are_asked ask joined.a.geometry joined.b.geometry) joined.distinct
    ((asks_are_over_the_plane ask joined.a.geometry joined.b.geometry va vb).1 joined.asked)

pub joins_are_over_the_plane : JoinsAreOverThePlane
joins_are_over_the_plane one first second ask rising others va vb =
    record {
      rising =
          flat-rises (row one ask second) (λ a. row-begins a.0 (filter (is_pair one ask a) second.features))
          (λ a. row-rises a.0 (filter (is_pair one ask a) second.features) (rising-filter (is_pair one ask a) second.features others)) first.features rising;
      just = λ i j. (to i j, from i j);
    }
  where
    to : (i j : ℕ) → Contains (pairs_found one first ask second) (i, j) → IsJoined one first ask second i j
    to i j c =
        let a = flat-contains (row one ask second) first.features (i, j) c in
        let b = map-contains (λ (e : ℕ × FeatureContent). (a.0.0, e.0)) (filter (is_pair one ask a.0) second.features) (i, j) a.2 in
        let kept = filter-contains (is_pair one ask a.0) second.features b.0 b.1 in
        subst (λ (p : ℕ × ℕ). IsJoined one first ask second p.0 p.1) b.2
        (pair-joined one first ask second a.0 b.0 (valid first a.0.0 a.0.1 va (there first a.0 rising a.1)) (valid second b.0.0 b.0.1 vb (there second b.0 others kept.0))
        (there first a.0 rising a.1) (there second b.0 others kept.0) kept.1)

    from : (i j : ℕ) → IsJoined one first ask second i j → Contains (pairs_found one first ask second) (i, j)
    from i j joined =
        let a : ℕ × FeatureContent = (i, joined.a) in
        let b : ℕ × FeatureContent = (j, joined.b) in
        contains-flat (row one ask second) first.features a (i, j) (member first i joined.a joined.first_there)
        (contains-map (λ (e : ℕ × FeatureContent). (i, e.0)) (filter (is_pair one ask a) second.features) b
        (contains-filter (is_pair one ask a) second.features b (member second j joined.b joined.second_there)
        (joined-pair one first ask second i j joined (valid first i joined.a va joined.first_there) (valid second j joined.b vb joined.second_there))))

pub beside_is_over_the_plane : BesideIsOverThePlane
beside_is_over_the_plane one first second ask id feature rising va vb found =
    record {
      rising = rising-filter (λ a. is_pair one ask a (id, feature)) first.features rising;
      just = λ i. (to i, from i);
    }
  where
    to : (i : ℕ) → Contains (found_beside one first ask (id, feature)) i → IsJoined one first ask second i id
    to i c =
        let a = map-contains (λ (e : ℕ × FeatureContent). e.0) (filter (λ e. is_pair one ask e (id, feature)) first.features) i c in
        let kept = filter-contains (λ e. is_pair one ask e (id, feature)) first.features a.0 a.1 in
        subst (λ n. IsJoined one first ask second n id) a.2 (pair-joined one first ask second a.0 (id, feature) (valid first a.0.0 a.0.1 va (there first a.0 rising kept.0)) vb (there first a.0 rising kept.0) found kept.1)

    same : (b : FeatureContent) → feature_of second id ≡ Some b → b ≡ feature
    same b is = some-is b feature (sym is ∙ found)
      where
        some-is : (x y : FeatureContent) → Some x ≡ Some y → x ≡ y
        some-is x y h = cc

    from : (i : ℕ) → IsJoined one first ask second i id → Contains (found_beside one first ask (id, feature)) i
    from i joined =
        contains-map (λ (e : ℕ × FeatureContent). e.0) (filter (λ e. is_pair one ask e (id, feature)) first.features) (i, joined.a)
        (contains-filter (λ e. is_pair one ask e (id, feature)) first.features (i, joined.a) (member first i joined.a joined.first_there)
        (subst (λ b. is_pair one ask (i, joined.a) (id, b) ≡ true) (same joined.b joined.second_there)
        (joined-pair one first ask second i id joined (valid first i joined.a va joined.first_there)
        (subst (λ (f : FeatureContent). IsValid f.geometry) (sym (same joined.b joined.second_there)) vb))))
