-- The values of a column, moved out of their features and into them one by one.
use Rattle.std.proofs.Common.{◌≡◌, ℕ, zero, suc, ◌+◌, ◌<◌, ◌≤◌, Bool, true, false, cond, if◌then◌else◌, List, [], ◌∷◌, ◌++◌, map, filter_map, length, drop, zip, slice_index_or, Option, Some, None, IsSome, IsSomeAnd, option_map, is_some, nat_eq, refl, ap, sym, subst, ◌∙◌, arith}
use Rattle.std.proofs.lemmas.Bool.{eq-eqb}
use Rattle.std.proofs.lemmas.Bool.Decides.{nat_tests}
use Rattle.std.proofs.lemmas.List.{append_assoc, drop_more}
use Rattle.std.proofs.Math.ListN.{drop_of_length-le}
use Rattle.std.specs.declared.cmp.Ordering.TheVariants.{Less}
use Rattle.std.specs.BTreeMap.{is_at}
use Rattle.std.specs.List.{AllByRecursion, cons_option}
use Rattle.std.specs.List.Sorted.{IsStrictlySortedBy}
use Rattle.std.specs.Map.{lookup, keys_of, values_of, set_value}
use Rattle.std.specs.Ordering.{nat_cmp}
use Rattle.indexmap.proofs.ReorderLemmas.{zip_of_parts}
use Rattle.sf_features.specs.declared.attr_value.AttrValue.{AttrValue}
use Rattle.sf_features.specs.Features.{FeatureContent, value_in, with_value, without_value}
use Rattle.sf_layers.specs.Content.{change_value}
use Rattle.sf_layers.specs.Moves.{Features, IsTaking, Takes, put_each, values_in}
use Rattle.sf_layers.proofs.Changed.{holds-of, is_at-nat_eq, lookup-same, set_value-change_value, set_value-same}
use Rattle.sf_layers.proofs.ChangedAt.{features-at, some_of}
use Rattle.sf_layers.proofs.Values.{bare, less-below, lookup-insert_entry, nat_eq-apart-above, remove_entry-insert_entry, valued, valued-above, without_value-none}

-- ---- what the map gives and takes

-- a feature that the map gives is the one of the identifier
pub feature-given : (features : Features) (id : ℕ) (o : Option FeatureContent) → o ≡ lookup (is_at (nat_cmp id)) features → lookup (nat_eq id) features ≡ o
feature-given features id o given = sym (lookup-same (is_at (nat_cmp id)) (nat_eq id) (is_at-nat_eq id) features) ∙ sym given

-- what is written to it changes it
pub feature-written : (features after : Features) (id : ℕ) (feature new : FeatureContent) (f : FeatureContent → FeatureContent) → Some feature ≡ lookup (is_at (nat_cmp id)) features
    → after ≡ set_value (is_at (nat_cmp id)) features new → new ≡ f feature → after ≡ change_value (nat_eq id) features f
feature-written features after id feature new f given written is =
    written ∙ set_value-change_value (is_at (nat_cmp id)) (nat_eq id) (is_at-nat_eq id) features feature new f (sym given) is

-- and where it is the same, so are the features
pub feature-rewritten : (features after : Features) (id : ℕ) (feature new : FeatureContent) → Some feature ≡ lookup (is_at (nat_cmp id)) features
    → after ≡ set_value (is_at (nat_cmp id)) features new → new ≡ feature → after ≡ features
feature-rewritten features after id feature new given written is = written ∙ set_value-same (is_at (nat_cmp id)) features feature new (sym given) is

-- ---- taking one after the other

-- the next value, and what is left after it
pub record IsNext (number : ℕ) (ids : List ℕ) (after : Features) (all : List AttrValue) (features : Features) (n : ℕ) (values : List AttrValue) : Type 0 where
  pub value : AttrValue
  pub feature : FeatureContent
  pub found : lookup (nat_eq (slice_index_or ids n 0)) features ≡ Some feature
  pub held : value_in number feature ≡ Some value
  pub next : IsTaking number ids after all (change_value (nat_eq (slice_index_or ids n 0)) features (without_value number)) (n + 1) (values ++ value ∷ [])

pub IsNext-taking : (number : ℕ) (ids : List ℕ) (after : Features) (all : List AttrValue) (features : Features) (n : ℕ) (values : List AttrValue) → n < length ids
    → IsTaking number ids after all features n values → IsNext number ids after all features n values
IsNext-taking number ids after all features n values below t = by t.rest t.keys t.takes t.whole
  where
    ahead : drop n ids ≡ slice_index_or ids n 0 ∷ drop (n + 1) ids
    ahead = drop_more ids n 0 below

    by : (rest : List (ℕ × AttrValue)) → keys_of rest ≡ drop n ids → Takes number rest features after → values ++ values_of rest ≡ all → IsNext number ids after all features n values
    by [] keys takes whole = let none : [] ≡ slice_index_or ids n 0 ∷ drop (n + 1) ids = keys ∙ ahead in cc
    by (e ∷ es) keys takes whole =
        let both : e.0 ∷ keys_of es ≡ slice_index_or ids n 0 ∷ drop (n + 1) ids = keys ∙ ahead in
        let id : e.0 ≡ slice_index_or ids n 0 = cc in
        let later : keys_of es ≡ drop (n + 1) ids = cc in
        let there = some_of (λ f. value_in number f ≡ Some e.1) (lookup (nat_eq e.0) features) takes.0 in
        record {
          value = e.1;
          feature = there.0;
          found = ap (λ k. lookup (nat_eq k) features) (sym id) ∙ there.1.0;
          held = there.1.1;
          next = record {
            rest = es;
            keys = later;
            takes = subst (λ k. Takes number es (change_value (nat_eq k) features (without_value number)) after) id takes.1;
            whole = append_assoc values (e.1 ∷ []) (values_of es) ∙ whole;
          };
        }

-- the value of the next feature is pushed
pub IsTaking-step : (number : ℕ) (ids : List ℕ) (after : Features) (all : List AttrValue) (features new_features : Features) (n m : ℕ) (values new_values : List AttrValue) (feature new : FeatureContent) (value : AttrValue)
    → n < length ids → IsTaking number ids after all features n values
    → Some feature ≡ lookup (is_at (nat_cmp (slice_index_or ids n 0))) features → new_features ≡ set_value (is_at (nat_cmp (slice_index_or ids n 0))) features new → new ≡ without_value number feature
    → value_in number feature ≡ Some value → m ≡ n + 1 → new_values ≡ values ++ value ∷ [] → IsTaking number ids after all new_features m new_values
IsTaking-step number ids after all features new_features n m values new_values feature new value below t given written is holds one pushed =
    let next = IsNext-taking number ids after all features n values below t in
    let found : lookup (nat_eq (slice_index_or ids n 0)) features ≡ Some feature = feature-given features (slice_index_or ids n 0) (Some feature) given in
    let there : ◌≡◌ {A = Option FeatureContent} (Some next.feature) (Some feature) = sym next.found ∙ found in
    let same : ◌≡◌ {A = FeatureContent} next.feature feature = cc in
    let both : ◌≡◌ {A = Option AttrValue} (Some next.value) (Some value) = sym next.held ∙ ap (value_in number) same ∙ holds in
    let value_same : ◌≡◌ {A = AttrValue} next.value value = cc in
    let changed = feature-written features new_features (slice_index_or ids n 0) feature new (without_value number) given written is in
    subst (λ fs. IsTaking number ids after all fs m new_values) (sym changed)
    (subst (λ k. IsTaking number ids after all (change_value (nat_eq (slice_index_or ids n 0)) features (without_value number)) k new_values) (sym one)
    (subst (λ vs. IsTaking number ids after all (change_value (nat_eq (slice_index_or ids n 0)) features (without_value number)) (n + 1) vs) (ap (λ v. values ++ v ∷ []) value_same ∙ sym pushed) next.next))

-- where no identifier is left, features and values have come to what they were to
pub IsTaking-end : (number : ℕ) (ids : List ℕ) (after : Features) (all : List AttrValue) (features : Features) (n : ℕ) (values : List AttrValue) → length ids ≤ n
    → IsTaking number ids after all features n values → (features ≡ after) × (values ≡ all)
IsTaking-end number ids after all features n values over t = by t.rest (t.keys ∙ drop_of_length-le ids over) t.takes t.whole
  where
    by : (rest : List (ℕ × AttrValue)) → keys_of rest ≡ [] → Takes number rest features after → values ++ values_of rest ≡ all → (features ≡ after) × (values ≡ all)
    by [] keys takes whole = (takes, sym (append-nil values) ∙ whole)
      where
        append-nil : (vs : List AttrValue) → vs ++ [] ≡ vs
        append-nil [] = refl
        append-nil (v ∷ vs) = ap (λ r. v ∷ r) (append-nil vs)
    by (e ∷ es) keys takes whole = cc

-- ---- all values of a column

-- another feature before all of them stays
Takes-over : (number m : ℕ) (feature : FeatureContent) (vs : List (ℕ × AttrValue)) (es fs : Features) → AllByRecursion (λ n. nat_cmp m n ≡ Less) (keys_of vs)
    → Takes number vs es fs → Takes number vs ((m, feature) ∷ es) ((m, feature) ∷ fs)
Takes-over number m feature [] es fs above takes = ap (λ rest. (m, feature) ∷ rest) takes
Takes-over number m feature (v ∷ vs) es fs above takes =
    let apart : nat_eq v.0 m ≡ false = nat_eq-apart-above v.0 m (less-below m v.0 above.0) in (
      subst (λ b. IsSomeAnd (cond b (Some feature) (lookup (nat_eq v.0) es)) (λ f. value_in number f ≡ Some v.1)) (sym apart) takes.0,
      subst (λ b. Takes number vs (if b then (m, without_value number feature) ∷ es else (m, feature) ∷ change_value (nat_eq v.0) es (without_value number)) ((m, feature) ∷ fs)) (sym apart)
          (Takes-over number m feature vs (change_value (nat_eq v.0) es (without_value number)) fs above.1 takes.1),
    )

-- the values of a column, taken out one by one, leave no value in it
pub Takes-bare : (number : ℕ) (es : Features) → IsStrictlySortedBy nat_cmp (keys_of es) → Takes number (filter_map (valued number) es) es (map (bare number) es)
unfolding IsStrictlySortedBy
Takes-bare number [] rising = refl
Takes-bare number (e ∷ es) rising = by (Takes-bare number es rising.1) (value_in number e.1) refl
  where
    by : Takes number (filter_map (valued number) es) es (map (bare number) es) → (o : Option AttrValue) → value_in number e.1 ≡ o
        → Takes number (cons_option (option_map (λ value. (e.0, value)) o) (filter_map (valued number) es)) (e ∷ es) (bare number e ∷ map (bare number) es)
    by later None is =
        subst (λ f. Takes number (filter_map (valued number) es) (e ∷ es) ((e.0, f) ∷ map (bare number) es)) (sym (without_value-none number e.1 is))
        (Takes-over number e.0 e.1 (filter_map (valued number) es) es (map (bare number) es) (valued-above number e.0 es rising.0) later)
    by later (Some value) is =
        let here : nat_eq e.0 e.0 ≡ true = eq-eqb e.0 e.0 refl in (
          subst (λ b. IsSomeAnd (cond b (Some e.1) (lookup (nat_eq e.0) es)) (λ f. value_in number f ≡ Some value)) (sym here) is,
          subst (λ b. Takes number (filter_map (valued number) es) (if b then (e.0, without_value number e.1) ∷ es else e ∷ change_value (nat_eq e.0) es (without_value number)) (bare number e ∷ map (bare number) es)) (sym here)
              (Takes-over number e.0 (without_value number e.1) (filter_map (valued number) es) es (map (bare number) es) (valued-above number e.0 es rising.0) later),
        )

-- their identifiers rise
pub rising-values_in : (number : ℕ) (es : Features) → IsStrictlySortedBy nat_cmp (keys_of es) → IsStrictlySortedBy nat_cmp (keys_of (filter_map (valued number) es))
unfolding IsStrictlySortedBy
rising-values_in number [] rising = tt
rising-values_in number (e ∷ es) rising = by (rising-values_in number es rising.1) (value_in number e.1)
  where
    by : IsStrictlySortedBy nat_cmp (keys_of (filter_map (valued number) es)) → (o : Option AttrValue)
        → IsStrictlySortedBy nat_cmp (keys_of (cons_option (option_map (λ value. (e.0, value)) o) (filter_map (valued number) es)))
    by later None = later
    by later (Some value) = (valued-above number e.0 es rising.0, later)

-- where there are none, no feature has one
pub none-values_in : (number : ℕ) (es : Features) → values_in number es ≡ [] → AllByRecursion (λ feature. value_in number feature ≡ None) (values_of es)
none-values_in number [] none = tt
none-values_in number (e ∷ es) none = by (none-values_in number es) (value_in number e.1) refl none
  where
    by : (values_in number es ≡ [] → AllByRecursion (λ feature. value_in number feature ≡ None) (values_of es)) → (o : Option AttrValue) → value_in number e.1 ≡ o
        → cons_option (option_map (λ value. (e.0, value)) o) (values_in number es) ≡ []
        → AllByRecursion (λ feature. value_in number feature ≡ None) (values_of (e ∷ es))
    by later None is h = (is, later h)
    by later (Some value) is h = cc

-- ---- putting one after the other

lookup-other : {X : Type 0} (id k : ℕ) (es : List (ℕ × X)) (f : X → X) → nat_eq id k ≡ false → lookup (nat_eq id) (change_value (nat_eq k) es f) ≡ lookup (nat_eq id) es
lookup-other id k [] f apart = refl
lookup-other {X} id k (e ∷ es) f apart = by (lookup-other id k es f apart) (nat_eq k e.0) refl
  where
    by : lookup (nat_eq id) (change_value (nat_eq k) es f) ≡ lookup (nat_eq id) es → (b : Bool) → nat_eq k e.0 ≡ b
        → lookup (nat_eq id) (if b then (e.0, f e.1) ∷ es else e ∷ change_value (nat_eq k) es f) ≡ cond (nat_eq id e.0) (Some e.1) (lookup (nat_eq id) es)
    by later true is =
        let same : k ≡ e.0 = grind (arith, nat_tests, is) in
        let no : nat_eq id e.0 ≡ false = ap (nat_eq id) (sym same) ∙ apart in
        ap (λ b. cond b (Some (f e.1)) (lookup (nat_eq id) es)) no ∙ sym (ap (λ b. cond b (Some e.1) (lookup (nat_eq id) es)) no)
    by later false is = ap (cond (nat_eq id e.0) (Some e.1)) later

lookup-changed : {X : Type 0} (id : ℕ) (es : List (ℕ × X)) (x : X) (f : X → X) → lookup (nat_eq id) es ≡ Some x → lookup (nat_eq id) (change_value (nat_eq id) es f) ≡ Some (f x)
lookup-changed id [] x f found = cc
lookup-changed {X} id (e ∷ es) x f found = by (lookup-changed id es x f) (nat_eq id e.0) refl found
  where
    by : (lookup (nat_eq id) es ≡ Some x → lookup (nat_eq id) (change_value (nat_eq id) es f) ≡ Some (f x)) → (b : Bool) → nat_eq id e.0 ≡ b → cond b (Some e.1) (lookup (nat_eq id) es) ≡ Some x
        → lookup (nat_eq id) (if b then (e.0, f e.1) ∷ es else e ∷ change_value (nat_eq id) es f) ≡ Some (f x)
    by later true is h =
        let there : e.1 ≡ x = cc in ap (λ b. cond b (Some (f e.1)) (lookup (nat_eq id) es)) is ∙ ap (λ y. Some (f y)) there
    by later false is h = ap (λ b. cond b (Some e.1) (lookup (nat_eq id) (change_value (nat_eq id) es f))) is ∙ later h

-- a change and the change back
change_value-back : {X : Type 0} (id : ℕ) (es : List (ℕ × X)) (x : X) (f g : X → X) → lookup (nat_eq id) es ≡ Some x → g (f x) ≡ x → change_value (nat_eq id) (change_value (nat_eq id) es f) g ≡ es
change_value-back id [] x f g found back = refl
change_value-back {X} id (e ∷ es) x f g found back = by (λ there. change_value-back id es x f g there back) (nat_eq id e.0) refl found
  where
    by : (lookup (nat_eq id) es ≡ Some x → change_value (nat_eq id) (change_value (nat_eq id) es f) g ≡ es) → (b : Bool) → nat_eq id e.0 ≡ b → cond b (Some e.1) (lookup (nat_eq id) es) ≡ Some x
        → change_value (nat_eq id) (if b then (e.0, f e.1) ∷ es else e ∷ change_value (nat_eq id) es f) g ≡ e ∷ es
    by later true is h =
        let there : x ≡ e.1 = cc in
        ap (λ b. if b then (e.0, g (f e.1)) ∷ es else (e.0, f e.1) ∷ change_value (nat_eq id) es g) is ∙ ap (λ y. (e.0, y) ∷ es) (subst (λ y. g (f y) ≡ y) there back)
    by later false is h =
        ap (λ b. if b then (e.0, g e.1) ∷ change_value (nat_eq id) es f else e ∷ change_value (nat_eq id) (change_value (nat_eq id) es f) g) is ∙ ap (λ rest. e ∷ rest) (later h)

-- values of later features leave the one of an identifier as it is
lookup-put_each : (number id : ℕ) (vs : List (ℕ × AttrValue)) (es : Features) → AllByRecursion (λ n. nat_cmp id n ≡ Less) (keys_of vs) → lookup (nat_eq id) (put_each number vs es) ≡ lookup (nat_eq id) es
lookup-put_each number id [] es above = refl
lookup-put_each number id (v ∷ vs) es above =
    let below : id < v.0 = less-below id v.0 above.0 in
    let apart : nat_eq id v.0 ≡ false = grind (arith, nat_tests, below) in
    lookup-other id v.0 (put_each number vs es) (with_value number v.1) apart ∙ lookup-put_each number id vs es above.1

-- values that were put where none was are taken out again
pub Takes-put_each : (number : ℕ) (vs : List (ℕ × AttrValue)) (es : Features) → IsStrictlySortedBy nat_cmp (keys_of vs) → AllByRecursion (λ id. IsSome (lookup (nat_eq id) es)) (keys_of vs)
    → AllByRecursion (λ feature. value_in number feature ≡ None) (values_of es) → Takes number vs (put_each number vs es) es
unfolding IsStrictlySortedBy
Takes-put_each number [] es rising there none = refl
Takes-put_each number (v ∷ vs) es rising there none = by (Takes-put_each number vs es rising.1 there.1 none) (lookup (nat_eq v.0) es) refl there.0
  where
    put : Features
    put = put_each number vs es

    by : Takes number vs put es → (o : Option FeatureContent) → lookup (nat_eq v.0) es ≡ o → IsSome o → Takes number (v ∷ vs) (put_each number (v ∷ vs) es) es
    by later None is h = cc
    by later (Some feature) is h =
        let found : lookup (nat_eq v.0) put ≡ Some feature = lookup-put_each number v.0 vs es rising.0 ∙ is in
        let empty : value_in number feature ≡ None = features-at (λ f. value_in number f ≡ None) es v.0 feature is none in
        let back : without_value number (with_value number v.1 feature) ≡ feature =
        ap (λ xs. let f : FeatureContent = record feature { values = xs } in f) (remove_entry-insert_entry number v.1 feature.values empty) in (
          holds-of (λ f. value_in number f ≡ Some v.1) (lookup (nat_eq v.0) (change_value (nat_eq v.0) put (with_value number v.1))) (with_value number v.1 feature)
              (lookup-changed v.0 put feature (with_value number v.1) found) (lookup-insert_entry number v.1 feature.values),
          subst (λ fs. Takes number vs fs es) (sym (change_value-back v.0 put feature (with_value number v.1) (without_value number) found back)) later,
        )

-- of the values the first n are still to be put; the others are in their features
pub record IsPutting (number : ℕ) (ids : List ℕ) (before : Features) (all : List AttrValue) (features : Features) (n : ℕ) (values : List AttrValue) : Type 0 where
  pub rest : List (ℕ × AttrValue)
  pub keys : keys_of rest ≡ drop n ids
  pub whole : values ++ values_of rest ≡ all
  pub put : features ≡ put_each number rest before

rising-drop : (ids : List ℕ) (n : ℕ) → IsStrictlySortedBy nat_cmp ids → IsStrictlySortedBy nat_cmp (drop n ids)
unfolding IsStrictlySortedBy
rising-drop [] zero rising = rising
rising-drop [] (suc n) rising = rising
rising-drop (id ∷ ids) zero rising = rising
rising-drop (id ∷ ids) (suc n) rising = rising-drop ids n rising.1

all-drop : (P : ℕ → Type 0) (ids : List ℕ) (n : ℕ) → AllByRecursion P ids → AllByRecursion P (drop n ids)
all-drop P [] zero all = all
all-drop P [] (suc n) all = all
all-drop P (id ∷ ids) zero all = all
all-drop P (id ∷ ids) (suc n) all = all-drop P ids n all.1

-- where one could not be put, those that are in their features can be taken out again
pub IsTaking-putting : (number : ℕ) (ids : List ℕ) (before : Features) (all : List AttrValue) (features new_features : Features) (n m : ℕ) (values new_values : List AttrValue)
    → new_features ≡ features → m ≡ n → new_values ≡ values → IsStrictlySortedBy nat_cmp ids → AllByRecursion (λ id. IsSome (lookup (nat_eq id) before)) ids → AllByRecursion (λ feature. value_in number feature ≡ None) (values_of before)
    → IsPutting number ids before all features n values → IsTaking number ids before all new_features m new_values
IsTaking-putting number ids before all features new_features n m values new_values kept same pushed rising there none p = record {
  rest = p.rest;
  keys = p.keys ∙ ap (λ k. drop k ids) (sym same);
  takes = subst (λ fs. Takes number p.rest fs before) (sym (kept ∙ p.put))
      (Takes-put_each number p.rest before (subst (IsStrictlySortedBy nat_cmp) (sym p.keys) (rising-drop ids n rising))
      (subst (AllByRecursion (λ id. IsSome (lookup (nat_eq id) before))) (sym p.keys) (all-drop (λ id. IsSome (lookup (nat_eq id) before)) ids n there)) none);
  whole = ap (λ vs. vs ++ values_of p.rest) pushed ∙ p.whole;
}

-- the feature of each identifier is there
is_some-change_value : {X : Type 0} (id k : ℕ) (es : List (ℕ × X)) (f : X → X) → is_some (lookup (nat_eq id) (change_value (nat_eq k) es f)) ≡ is_some (lookup (nat_eq id) es)
is_some-change_value id k [] f = refl
is_some-change_value {X} id k (e ∷ es) f = by (is_some-change_value id k es f) (nat_eq k e.0)
  where
    same : (c : Bool) (x : X) (o : Option X) → is_some (cond c (Some x) o) ≡ is_some (cond c (Some e.1) o)
    same true x o = refl
    same false x o = refl

    rest : (c : Bool) (o p : Option X) → is_some o ≡ is_some p → is_some (cond c (Some e.1) o) ≡ is_some (cond c (Some e.1) p)
    rest true o p h = refl
    rest false o p h = h

    by : is_some (lookup (nat_eq id) (change_value (nat_eq k) es f)) ≡ is_some (lookup (nat_eq id) es) → (b : Bool)
        → is_some (lookup (nat_eq id) (if b then (e.0, f e.1) ∷ es else e ∷ change_value (nat_eq k) es f)) ≡ is_some (lookup (nat_eq id) (e ∷ es))
    by later true = same (nat_eq id e.0) (f e.1) (lookup (nat_eq id) es)
    by later false = rest (nat_eq id e.0) (lookup (nat_eq id) (change_value (nat_eq k) es f)) (lookup (nat_eq id) es) later

is_some-put_each : (number id : ℕ) (vs : List (ℕ × AttrValue)) (es : Features) → is_some (lookup (nat_eq id) (put_each number vs es)) ≡ is_some (lookup (nat_eq id) es)
is_some-put_each number id [] es = refl
is_some-put_each number id (v ∷ vs) es = is_some-change_value id v.0 (put_each number vs es) (with_value number v.1) ∙ is_some-put_each number id vs es

all-index : (P : ℕ → Type 0) (ids : List ℕ) (n : ℕ) → n < length ids → AllByRecursion P ids → P (slice_index_or ids n 0)
all-index P [] n below all = absurd (omega (arith, below))
all-index P (id ∷ ids) zero below all = all.0
all-index P (id ∷ ids) (suc n) below all = all-index P ids n (omega (arith, below)) all.1

pub IsSome-putting : (number : ℕ) (ids : List ℕ) (before : Features) (all : List AttrValue) (features : Features) (n m : ℕ) (values : List AttrValue)
    → AllByRecursion (λ id. IsSome (lookup (nat_eq id) before)) ids → n < length ids → IsPutting number ids before all features m values
    → IsSome (lookup (nat_eq (slice_index_or ids n 0)) features)
IsSome-putting number ids before all features n m values there below p =
    ap (λ fs. is_some (lookup (nat_eq (slice_index_or ids n 0)) fs)) p.put ∙ is_some-put_each number (slice_index_or ids n 0) p.rest before
    ∙ all-index (λ id. IsSome (lookup (nat_eq id) before)) ids n below there

-- the last value that was still to be put is put
pub IsPutting-step : (number : ℕ) (ids : List ℕ) (before : Features) (all : List AttrValue) (features new_features : Features) (n m : ℕ) (values new_values : List AttrValue) (value : AttrValue)
    → n < length ids → m ≡ n + 1 → values ≡ new_values ++ value ∷ [] → new_features ≡ change_value (nat_eq (slice_index_or ids n 0)) features (with_value number value)
    → IsPutting number ids before all features m values → IsPutting number ids before all new_features n new_values
IsPutting-step number ids before all features new_features n m values new_values value below one popped changed p =
    let id = slice_index_or ids n 0 in
    record {
      rest = (id, value) ∷ p.rest;
      keys = ap (λ rest. id ∷ rest) (p.keys ∙ ap (λ k. drop k ids) one) ∙ sym (drop_more ids n 0 below);
      whole = sym (append_assoc new_values (value ∷ []) (values_of p.rest)) ∙ ap (λ vs. vs ++ values_of p.rest) (sym popped) ∙ p.whole;
      put = changed ∙ ap (λ fs. change_value (nat_eq id) fs (with_value number value)) p.put;
    }

-- where none is left to be put, all are in their features
pub IsPutting-end : (number : ℕ) (ids : List ℕ) (before : Features) (all : List AttrValue) (features : Features) (n : ℕ) (values : List AttrValue) → n ≡ 0 → values ≡ []
    → IsPutting number ids before all features n values → features ≡ put_each number (zip ids all) before
IsPutting-end number ids before all features n values none empty p =
    let keys : keys_of p.rest ≡ ids = p.keys ∙ ap (λ k. drop k ids) none in
    let values_same : values_of p.rest ≡ all = sym (ap (λ vs. vs ++ values_of p.rest) empty) ∙ p.whole in
    p.put ∙ ap (λ vs. put_each number vs before) (sym (zip_of_parts p.rest) ∙ ap (λ ks. zip ks (values_of p.rest)) keys ∙ ap (zip ids) values_same)

-- ---- the identifiers, gathered

-- one feature more that has a value, or has none
pub keys-values_in-some : (number id : ℕ) (feature : FeatureContent) (es : Features) → IsSome (value_in number feature)
    → keys_of (values_in number (es ++ (id, feature) ∷ [])) ≡ keys_of (values_in number es) ++ id ∷ []
keys-values_in-some number id feature [] some = by (value_in number feature) some
  where
    by : (o : Option AttrValue) → IsSome o → keys_of (cons_option (option_map (λ value. (id, value)) o) []) ≡ id ∷ []
    by None h = cc
    by (Some value) h = refl
keys-values_in-some number id feature (e ∷ es) some = by (keys-values_in-some number id feature es some) (value_in number e.1)
  where
    by : keys_of (values_in number (es ++ (id, feature) ∷ [])) ≡ keys_of (values_in number es) ++ id ∷ [] → (o : Option AttrValue)
        → keys_of (cons_option (option_map (λ value. (e.0, value)) o) (values_in number (es ++ (id, feature) ∷ []))) ≡ keys_of (cons_option (option_map (λ value. (e.0, value)) o) (values_in number es)) ++ id ∷ []
    by later None = later
    by later (Some value) = ap (λ rest. e.0 ∷ rest) later

pub keys-values_in-none : (number id : ℕ) (feature : FeatureContent) (es : Features) → value_in number feature ≡ None
    → keys_of (values_in number (es ++ (id, feature) ∷ [])) ≡ keys_of (values_in number es)
keys-values_in-none number id feature [] none = ap (λ o. keys_of (cons_option (option_map (λ value. (id, value)) o) [])) none
keys-values_in-none number id feature (e ∷ es) none = by (keys-values_in-none number id feature es none) (value_in number e.1)
  where
    by : keys_of (values_in number (es ++ (id, feature) ∷ [])) ≡ keys_of (values_in number es) → (o : Option AttrValue)
        → keys_of (cons_option (option_map (λ value. (e.0, value)) o) (values_in number (es ++ (id, feature) ∷ []))) ≡ keys_of (cons_option (option_map (λ value. (e.0, value)) o) (values_in number es))
    by later None = later
    by later (Some value) = ap (λ rest. e.0 ∷ rest) later

-- the values of a column, all still in their features
pub IsTaking-all : (number : ℕ) (ids : List ℕ) (es : Features) (n : ℕ) (values : List AttrValue) → ids ≡ keys_of (values_in number es) → IsStrictlySortedBy nat_cmp (keys_of es) → n ≡ 0 → values ≡ []
    → IsTaking number ids (map (bare number) es) (values_of (values_in number es)) es n values
IsTaking-all number ids es n values same rising none empty = record {
  rest = values_in number es;
  keys = sym same ∙ ap (λ k. drop k ids) (sym none);
  takes = Takes-bare number es rising;
  whole = ap (λ vs. vs ++ values_of (values_in number es)) empty;
}

-- as many keys as values
pub length-parts : {K X : Type 0} (es : List (K × X)) → length (keys_of es) ≡ length (values_of es)
length-parts [] = refl
length-parts (e ∷ es) = ap suc (length-parts es)
