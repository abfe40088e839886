-- Of a rule that held the first break is among changed features, and those near them.
use Rattle.std.proofs.Common.{◌≡◌, ℕ, Bool, true, false, cond, not, ◌&&◌, ◌||◌, if◌then◌else◌, List, [], ◌∷◌, ◌++◌, map, flat_map, filter, None, Some, IsTrue, nat_eq, refl, ap, sym, subst, ◌∙◌}
use Rattle.std.proofs.lemmas.Bool.{eq-eqb, eqb-true}
use Rattle.std.specs.List.{AllByRecursion, list_any}
use Rattle.std.specs.List.Sorted.{IsStrictlySortedBy}
use Rattle.std.specs.Map.{keys_of, values_of, lookup}
use Rattle.std.specs.Option.{option_map_or}
use Rattle.sf_geometry.specs.declared.geometry.Geometry.{Geometry}
use Rattle.sf_geometry.specs.Envelope.{envelope_of, extents_meet}
use Rattle.sf_valid_rules.specs.Validity.{IsValid}
use Rattle.std.specs.Ordering.{nat_cmp}
use Rattle.std.specs.declared.cmp.Ordering.TheVariants.{Less}
use Rattle.sf_features.specs.Features.{FeatureContent}
use Rattle.sf_layers.specs.Content.{LayerContent, feature_of}
use Rattle.sf_layers.specs.WellFormed.{IsFeature, IsLayer}
use Rattle.sf_layers.proofs.Values.{lookup-below}
use Rattle.sf_joins.specs.Passed.{PairAsk}
use Rattle.sf_joins.specs.Passed.{Matrix, Near}
use Rattle.sf_joins.specs.Passed.{are_asked, pair_needs_contact}
use Rattle.sf_joins.proofs.Passed.{far-fails}
use Rattle.sf_joins.specs.Joins.{are_distinct, is_pair, pairs_found}
use Rattle.sf_rules.specs.declared.breaks.Break.{Break}
use Rattle.sf_rules.specs.Rules.{alone_break, first_of, lacks_partner, pair_break}
use Rattle.sf_rules.specs.Near.{BreaksAreNear, Changed, KeepsOthers, alone_near, changed_pairs, is_changed, may_be_alone, was_near}

-- ---- lists that are empty

append-empty : {X : Type 0} (a b : List X) → a ++ b ≡ [] → (a ≡ []) × (b ≡ [])
append-empty [] b h = (refl, h)
append-empty (x ∷ a) b h = cc

map-empty : {X Y : Type 0} (f : X → Y) (xs : List X) → map f xs ≡ [] → xs ≡ []
map-empty f [] h = refl
map-empty f (x ∷ xs) h = cc

no-first : {X : Type 0} (f : X → Break) (xs : List X) → first_of (map f xs) ≡ None → xs ≡ []
no-first f [] h = refl
no-first f (x ∷ xs) h = cc

-- ---- entries by rising numbers

module _ {X : Type 0} where
  found-later : (k : ℕ) (v : X) (e : ℕ × X) (es : List (ℕ × X)) → AllByRecursion (λ n. nat_cmp e.0 n ≡ Less) (keys_of es) → lookup (nat_eq k) es ≡ Some v → lookup (nat_eq k) (e ∷ es) ≡ Some v
  found-later k v e es above found = by (nat_eq k e.0) refl
    where
      by : (b : Bool) → nat_eq k e.0 ≡ b → cond b (Some e.1) (lookup (nat_eq k) es) ≡ Some v
      by true is =
          let none : lookup (nat_eq k) es ≡ None = lookup-below k es (subst (λ m. AllByRecursion (λ n. nat_cmp m n ≡ Less) (keys_of es)) (sym (eqb-true k e.0 is)) above) in
          let no : None ≡ Some v = sym none ∙ found in cc
      by false is = found

  found-first : (e : ℕ × X) (es : List (ℕ × X)) → lookup (nat_eq e.0) (e ∷ es) ≡ Some e.1
  found-first e es = ap (λ b. cond b (Some e.1) (lookup (nat_eq e.0) es)) (eq-eqb e.0 e.0 refl)

  -- tests that agree on what is found keep the same
  filter-agree : (p q : ℕ × X → Bool) (es : List (ℕ × X)) → IsStrictlySortedBy nat_cmp (keys_of es) → ((k : ℕ) (v : X) → lookup (nat_eq k) es ≡ Some v → p (k, v) ≡ q (k, v)) → filter p es ≡ filter q es
  unfolding IsStrictlySortedBy
  filter-agree p q [] rising agree = refl
  filter-agree p q (e ∷ es) rising agree =
      let later : filter p es ≡ filter q es = filter-agree p q es rising.1 (λ k v found. agree k v (found-later k v e es rising.0 found)) in
      ap (λ b. cond b (e ∷ filter p es) (filter p es)) (agree e.0 e.1 (found-first e es)) ∙ ap (λ xs. cond (q e) (e ∷ xs) xs) later

  flat_map-agree : {Y : Type 0} (f g : ℕ × X → List Y) (es : List (ℕ × X)) → IsStrictlySortedBy nat_cmp (keys_of es) → ((k : ℕ) (v : X) → lookup (nat_eq k) es ≡ Some v → f (k, v) ≡ g (k, v)) → flat_map f es ≡ flat_map g es
  unfolding IsStrictlySortedBy
  flat_map-agree f g [] rising agree = refl
  flat_map-agree f g (e ∷ es) rising agree =
      ap (λ xs. xs ++ flat_map f es) (agree e.0 e.1 (found-first e es)) ∙ ap (λ ys. g e ++ ys) (flat_map-agree f g es rising.1 (λ k v found. agree k v (found-later k v e es rising.0 found)))

  -- where nothing is kept, nothing that is found passes
  filter-empty : (p : ℕ × X → Bool) (es : List (ℕ × X)) → filter p es ≡ [] → (k : ℕ) (v : X) → lookup (nat_eq k) es ≡ Some v → p (k, v) ≡ false
  filter-empty p [] none k v found = cc
  filter-empty p (e ∷ es) none k v found = by (p e) refl none (λ rest there. filter-empty p es rest k v there)
    where
      at : p e ≡ false → (filter p es ≡ [] → lookup (nat_eq k) es ≡ Some v → p (k, v) ≡ false) → filter p es ≡ [] → (b : Bool) → nat_eq k e.0 ≡ b → cond b (Some e.1) (lookup (nat_eq k) es) ≡ Some v → p (k, v) ≡ false
      at fails later rest true is h =
          let value : e.1 ≡ v = cc in
          ap (λ n. p (n, v)) (eqb-true k e.0 is) ∙ ap (λ x. p (e.0, x)) (sym value) ∙ fails
      at fails later rest false is h = later rest h

      by : (b : Bool) → p e ≡ b → cond b (e ∷ filter p es) (filter p es) ≡ [] → (filter p es ≡ [] → lookup (nat_eq k) es ≡ Some v → p (k, v) ≡ false) → p (k, v) ≡ false
      by true is h later = cc
      by false is h later = at is later h (nat_eq k e.0) refl found

  flat_map-empty : {Y : Type 0} (f : ℕ × X → List Y) (es : List (ℕ × X)) → flat_map f es ≡ [] → (k : ℕ) (v : X) → lookup (nat_eq k) es ≡ Some v → f (k, v) ≡ []
  flat_map-empty f [] none k v found = cc
  flat_map-empty {Y} f (e ∷ es) none k v found = by (append-empty (f e) (flat_map f es) none) (nat_eq k e.0) refl found (λ rest there. flat_map-empty f es rest k v there)
    where
      by : (f e ≡ []) × (flat_map f es ≡ []) → (b : Bool) → nat_eq k e.0 ≡ b → cond b (Some e.1) (lookup (nat_eq k) es) ≡ Some v → (flat_map f es ≡ [] → lookup (nat_eq k) es ≡ Some v → f (k, v) ≡ []) → f (k, v) ≡ []
      by both true is h later =
          let value : e.1 ≡ v = cc in
          ap (λ n. f (n, v)) (eqb-true k e.0 is) ∙ ap (λ x. f (e.0, x)) (sym value) ∙ both.0
      by both false is h later = later both.1 h

-- ---- a rule that forbids

-- where it held no two features that were there were as asked
none-before : (one : Bool) (first second : LayerContent) (ask : PairAsk) → first_of (map pair_break (pairs_found one first ask second)) ≡ None → (i : ℕ) (a : FeatureContent) (j : ℕ) (b : FeatureContent)
    → feature_of first i ≡ Some a → feature_of second j ≡ Some b → is_pair one ask (i, a) (j, b) ≡ false
none-before one first second ask held i a j b there there' =
    let all : pairs_found one first ask second ≡ [] = no-first pair_break (pairs_found one first ask second) held in
    let row = flat_map-empty (λ x. map (λ y. (x.0, y.0)) (filter (is_pair one ask x) second.features)) first.features all i a there in
    filter-empty (is_pair one ask (i, a)) second.features (map-empty (λ y. (i, y.0)) (filter (is_pair one ask (i, a)) second.features) row) j b there'

never-near : (one : Bool) (old_first first old_second second : LayerContent) (ask : PairAsk) (of_first of_second : Changed) → IsLayer first → IsLayer second
    → KeepsOthers old_first first of_first → KeepsOthers old_second second of_second → first_of (map pair_break (pairs_found one old_first ask old_second)) ≡ None
    → first_of (map pair_break (pairs_found one first ask second)) ≡ first_of (map pair_break (changed_pairs one first ask second of_first of_second))
never-near one old_first first old_second second ask of_first of_second fine fine' keeps keeps' held =
    ap (λ ps. first_of (map pair_break ps)) (flat_map-agree (λ a. map (λ b. (a.0, b.0)) (filter (is_pair one ask a) second.features))
    (λ a. map (λ b. (a.0, b.0)) (filter (λ b. (is_changed of_first a.0 || is_changed of_second b.0) && is_pair one ask a b) second.features)) first.features fine.rising
    (λ i a there. ap (map (λ b. (i, b.0))) (filter-agree (is_pair one ask (i, a)) (λ b. (is_changed of_first i || is_changed of_second b.0) && is_pair one ask (i, a) b) second.features fine'.rising
    (λ j b there'. by i a j b there there' (is_changed of_first i) refl (is_changed of_second j) refl))))
  where
    by : (i : ℕ) (a : FeatureContent) (j : ℕ) (b : FeatureContent) → feature_of first i ≡ Some a → feature_of second j ≡ Some b → (c : Bool) → is_changed of_first i ≡ c → (d : Bool) → is_changed of_second j ≡ d
        → is_pair one ask (i, a) (j, b) ≡ (c || d) && is_pair one ask (i, a) (j, b)
    by i a j b there there' true c_is d d_is = refl
    by i a j b there there' false c_is true d_is = refl
    by i a j b there there' false c_is false d_is =
        none-before one old_first old_second ask held i a j b (sym (keeps i c_is) ∙ there) (sym (keeps' j d_is) ∙ there')

-- ---- a rule that demands

or_split : (a b : Bool) → a || b ≡ false → (a ≡ false) × (b ≡ false)
or_split true b h = cc
or_split false b h = (refl, h)

and_split : (a b : Bool) → a && b ≡ true → (a ≡ true) × (b ≡ true)
and_split true true h = (refl, refl)
and_split true false h = cc
and_split false b h = cc

-- a test that implies another
any-implies : {X : Type 0} (p q : X → Bool) (xs : List X) → ((x : X) → p x ≡ true → q x ≡ true) → list_any p xs ≡ true → list_any q xs ≡ true
any-implies p q [] f h = cc
any-implies {X} p q (x ∷ xs) f h = by (p x) refl h (λ rest. any-implies p q xs f rest)
  where
    left : (b : Bool) → b ≡ true → b || list_any q xs ≡ true
    left true is = refl
    left false is = cc

    right : (b : Bool) → list_any q xs ≡ true → b || list_any q xs ≡ true
    right true is = refl
    right false is = is

    by : (b : Bool) → p x ≡ b → b || list_any p xs ≡ true → (list_any p xs ≡ true → list_any q xs ≡ true) → q x || list_any q xs ≡ true
    by true is g later = left (q x) (f x is)
    by false is g later = right (q x) (later g)

-- what is found under an identifier
record IsFoundWith {X : Type 0} (p : ℕ × X → Bool) (es : List (ℕ × X)) : Type 0 where
  key : ℕ
  value : X
  found : lookup (nat_eq key) es ≡ Some value
  passes : p (key, value) ≡ true

module _ {X : Type 0} where
  any-found : (p : ℕ × X → Bool) (es : List (ℕ × X)) → IsStrictlySortedBy nat_cmp (keys_of es) → list_any p es ≡ true → IsFoundWith p es
  unfolding IsStrictlySortedBy
  any-found p [] rising h = cc
  any-found p (e ∷ es) rising h = by (p e) refl h (λ rest. any-found p es rising.1 rest)
    where
      by : (b : Bool) → p e ≡ b → b || list_any p es ≡ true → (list_any p es ≡ true → IsFoundWith p es) → IsFoundWith p (e ∷ es)
      by true is g later = record { key = e.0; value = e.1; found = found-first e es; passes = is }
      by false is g later = let f = later g in record { key = f.key; value = f.value; found = found-later f.key f.value e es rising.0 f.found; passes = f.passes }

  any-of : (p : ℕ × X → Bool) (es : List (ℕ × X)) (k : ℕ) (v : X) → lookup (nat_eq k) es ≡ Some v → p (k, v) ≡ true → list_any p es ≡ true
  any-of p [] k v found passes = cc
  any-of p (e ∷ es) k v found passes = by (nat_eq k e.0) refl found (λ rest. any-of p es k v rest passes)
    where
      right : (b : Bool) → list_any p es ≡ true → b || list_any p es ≡ true
      right true is = refl
      right false is = is

      by : (b : Bool) → nat_eq k e.0 ≡ b → cond b (Some e.1) (lookup (nat_eq k) es) ≡ Some v → (lookup (nat_eq k) es ≡ Some v → list_any p es ≡ true) → p e || list_any p es ≡ true
      by true is h later =
          let value : e.1 ≡ v = cc in
          let here : p e ≡ true = ap (λ x. p (e.0, x)) value ∙ ap (λ n. p (n, v)) (sym (eqb-true k e.0 is)) ∙ passes in
          ap (λ b. b || list_any p es) here
      by false is h later = right (p e) (later h)

  all-of : (P : X → Type 0) (k : ℕ) (es : List (ℕ × X)) (v : X) → AllByRecursion P (values_of es) → lookup (nat_eq k) es ≡ Some v → P v
  all-of P k [] v all found = cc
  all-of P k (e ∷ es) v all found = by (nat_eq k e.0) found (λ rest. all-of P k es v all.1 rest)
    where
      by : (b : Bool) → cond b (Some e.1) (lookup (nat_eq k) es) ≡ Some v → (lookup (nat_eq k) es ≡ Some v → P v) → P v
      by true h later = let is : e.1 ≡ v = cc in subst P is all.0
      by false h later = later h

-- where the ask needs contact, geometries whose boxes don't meet are not as asked
pair-far-fails : (ask : PairAsk) (a b : Geometry) → IsTrue (pair_needs_contact ask) → IsValid a → IsValid b → extents_meet (envelope_of a) (envelope_of b) ≡ false → are_asked ask a b ≡ false
pair-far-fails (Matrix ask) a b needs va vb far = far-fails ask a b needs va vb far
pair-far-fails (Near reach) a b needs va vb far = cc

-- features that are as asked, where contact is needed, have boxes that meet
boxes-met : (one : Bool) (ask : PairAsk) (i j : ℕ) (a b : FeatureContent) → IsTrue (pair_needs_contact ask) → IsValid a.geometry → IsValid b.geometry → is_pair one ask (i, a) (j, b) ≡ true
    → extents_meet (envelope_of a.geometry) (envelope_of b.geometry) ≡ true
boxes-met one ask i j a b needs fine fine' pair = by (extents_meet (envelope_of a.geometry) (envelope_of b.geometry)) refl
  where
    by : (m : Bool) → extents_meet (envelope_of a.geometry) (envelope_of b.geometry) ≡ m → m ≡ true
    by true is = refl
    by false is =
        let asked : are_asked ask a.geometry b.geometry ≡ true = (and_split (are_distinct one i j) (are_asked ask a.geometry b.geometry) pair).1 in
        let fails : are_asked ask a.geometry b.geometry ≡ false = pair-far-fails ask a.geometry b.geometry needs fine fine' is in
        sym fails ∙ asked

each-near : (one : Bool) (old_first first old_second second : LayerContent) (ask : PairAsk) (of_first of_second : Changed) → IsLayer old_first → IsLayer first → IsLayer old_second → IsLayer second
    → KeepsOthers old_first first of_first → KeepsOthers old_second second of_second → first_of (map alone_break (keys_of (filter (lacks_partner one ask old_second) old_first.features))) ≡ None
    → first_of (map alone_break (keys_of (filter (lacks_partner one ask second) first.features))) ≡ first_of (map alone_break (alone_near one first ask old_second second of_first of_second))
each-near one old_first first old_second second ask of_first of_second old_fine fine old_fine' fine' keeps keeps' held =
    ap (λ (es : List (ℕ × FeatureContent)). first_of (map alone_break (keys_of es))) (filter-agree (lacks_partner one ask second) (λ a. may_be_alone ask old_second of_first of_second a && lacks_partner one ask second a) first.features fine.rising
    (λ i a there. by i a there (may_be_alone ask old_second of_first of_second (i, a)) refl))
  where
    keys-empty : (es : List (ℕ × FeatureContent)) → keys_of es ≡ [] → es ≡ []
    keys-empty [] h = refl
    keys-empty (e ∷ es) h = cc

    none_alone : filter (lacks_partner one ask old_second) old_first.features ≡ []
    none_alone = keys-empty (filter (lacks_partner one ask old_second) old_first.features) (no-first alone_break (keys_of (filter (lacks_partner one ask old_second) old_first.features)) held)

    not_false : (b : Bool) → not b ≡ false → b ≡ true
    not_false true h = refl
    not_false false h = cc

    -- contact is needed, the feature is unchanged, and it was near no changed one
    parts : (n c w : Bool) → (if n then c || w else true) ≡ false → (n ≡ true) × (c ≡ false) × (w ≡ false)
    parts true c w h = let both = or_split c w h in (refl, both.0, both.1)
    parts false c w h = cc

    partnered : (i : ℕ) (a : FeatureContent) → feature_of old_first i ≡ Some a → pair_needs_contact ask ≡ true → was_near old_second of_second a.geometry ≡ false → IsFoundWith (is_pair one ask (i, a)) old_second.features
        → list_any (is_pair one ask (i, a)) second.features ≡ true
    partnered i a there needs far f = at (is_changed of_second f.key) refl
      where
        at : (d : Bool) → is_changed of_second f.key ≡ d → list_any (is_pair one ask (i, a)) second.features ≡ true
        at false d_is = any-of (is_pair one ask (i, a)) second.features f.key f.value (keeps' f.key d_is ∙ f.found) f.passes
        at true d_is =
            let met : extents_meet (envelope_of a.geometry) (envelope_of f.value.geometry) ≡ true =
            boxes-met one ask i f.key a f.value needs (all-of (IsFeature old_first.kind old_first.columns) i old_first.features a old_fine.features there).valid
            (all-of (IsFeature old_second.kind old_second.columns) f.key old_second.features f.value old_fine'.features f.found).valid f.passes in
            let near : was_near old_second of_second a.geometry ≡ true =
            any-implies (nat_eq f.key) (λ id. option_map_or (λ feature. extents_meet (envelope_of a.geometry) (envelope_of feature.geometry)) (feature_of old_second id) false) of_second
            (λ id is. ap (λ n. option_map_or (λ feature. extents_meet (envelope_of a.geometry) (envelope_of feature.geometry)) (feature_of old_second n) false) (sym (eqb-true f.key id is))
            ∙ ap (λ o. option_map_or (λ feature. extents_meet (envelope_of a.geometry) (envelope_of feature.geometry)) o false) f.found ∙ met) d_is in
            let wrong : true ≡ false = sym near ∙ far in cc

    by : (i : ℕ) (a : FeatureContent) → feature_of first i ≡ Some a → (m : Bool) → may_be_alone ask old_second of_first of_second (i, a) ≡ m
        → lacks_partner one ask second (i, a) ≡ m && lacks_partner one ask second (i, a)
    by i a there true is = refl
    by i a there false is =
        let p = parts (pair_needs_contact ask) (is_changed of_first i) (was_near old_second of_second a.geometry) is in
        let old_there : feature_of old_first i ≡ Some a = sym (keeps i p.1) ∙ there in
        let had : list_any (is_pair one ask (i, a)) old_second.features ≡ true =
        not_false (list_any (is_pair one ask (i, a)) old_second.features) (filter-empty (lacks_partner one ask old_second) old_first.features none_alone i a old_there) in
        ap not (partnered i a old_there p.0 p.2 (any-found (is_pair one ask (i, a)) old_second.features old_fine'.rising had))

pub breaks-near : BreaksAreNear
breaks-near one old_first first old_second second ask of_first of_second old_fine fine old_fine' fine' keeps keeps' = (
  λ held. never-near one old_first first old_second second ask of_first of_second fine fine' keeps keeps' held,
  λ held. each-near one old_first first old_second second ask of_first of_second old_fine fine old_fine' fine' keeps keeps' held,
)
