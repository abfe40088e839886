-- Entries under numbers, put in, taken out and changed; the values of a column, taken out of the features and put back.
use Rattle.std.proofs.Common.{◌≡◌, ℕ, ◌<◌, Bool, true, false, cond, if◌then◌else◌, List, [], ◌∷◌, map, filter_map, Option, Some, None, option_map, nat_eq, refl, ap, sym, subst, ◌∙◌, arith}
use Rattle.std.proofs.lemmas.Bool.{eq-eqb}
use Rattle.std.proofs.lemmas.Bool.Decides.{nat_tests}
use Rattle.std.specs.declared.cmp.Ordering.{Ordering}
use Rattle.std.specs.declared.cmp.Ordering.TheVariants.{Less, Equal, Greater}
use Rattle.std.specs.Ordering.{nat_cmp, match_ordering}
use Rattle.std.specs.BTreeMap.{insert_entry}
use Rattle.std.specs.List.{AllByRecursion, cons_option}
use Rattle.std.specs.List.Sorted.{IsStrictlySortedBy}
use Rattle.std.specs.Map.{lookup, keys_of, values_of, remove_entry}
use Rattle.sf_features.specs.declared.attr_value.AttrValue.{AttrValue}
use Rattle.sf_features.specs.Features.{FeatureContent, with_value, without_value, value_in}
use Rattle.sf_layers.specs.Content.{LayerContent, change_value, change_feature, column_values, with_values, without_values}
use Rattle.sf_layers.specs.Moves.{put_each}

pub less-below : (m n : ℕ) → nat_cmp m n ≡ Less → m < n
less-below m n h = grind (arith, nat_tests)

pub equal-same : (m n : ℕ) → nat_cmp m n ≡ Equal → m ≡ n
equal-same m n h = grind (arith, nat_tests)

pub greater-above : (m n : ℕ) → nat_cmp m n ≡ Greater → n < m
greater-above m n h = grind (arith, nat_tests)

nat_eq-apart : (m n : ℕ) → m < n → nat_eq m n ≡ false
nat_eq-apart m n h = grind (arith, nat_tests)

pub nat_eq-apart-above : (m n : ℕ) → n < m → nat_eq m n ≡ false
nat_eq-apart-above m n h = grind (arith, nat_tests)

pub nat_cmp-of_above : (m n : ℕ) → n < m → nat_cmp m n ≡ Greater
nat_cmp-of_above m n h = grind (arith, nat_tests)

pub nat_cmp-of_same : (n : ℕ) → nat_cmp n n ≡ Equal
nat_cmp-of_same n = grind (arith, nat_tests)

pub nat_cmp-of_below : (m n : ℕ) → m < n → nat_cmp m n ≡ Less
nat_cmp-of_below m n h = grind (arith, nat_tests)

-- below all keys there is no entry
pub lookup-below : {X : Type 0} (k : ℕ) (es : List (ℕ × X)) → AllByRecursion (λ n. nat_cmp k n ≡ Less) (keys_of es) → lookup (nat_eq k) es ≡ None
lookup-below k [] all = refl
lookup-below k (e ∷ es) all =
    ap (λ b. cond b (Some e.1) (lookup (nat_eq k) es)) (nat_eq-apart k e.0 (less-below k e.0 all.0)) ∙ lookup-below k es all.1

-- and what is put in stands first
insert_entry-below : {X : Type 0} (k : ℕ) (v : X) (es : List (ℕ × X)) → AllByRecursion (λ n. nat_cmp k n ≡ Less) (keys_of es) → insert_entry nat_cmp es k v ≡ (k, v) ∷ es
insert_entry-below k v [] all = refl
insert_entry-below k v (e ∷ es) all = ap (λ o. match_ordering o ((k, v) ∷ e ∷ es) ((e.0, v) ∷ es) (e ∷ insert_entry nat_cmp es k v)) all.0

-- what is put in is found
pub lookup-insert_entry : {X : Type 0} (k : ℕ) (v : X) (es : List (ℕ × X)) → lookup (nat_eq k) (insert_entry nat_cmp es k v) ≡ Some v
lookup-insert_entry k v [] = ap (λ b. cond b (Some v) None) (eq-eqb k k refl)
lookup-insert_entry {X} k v (e ∷ es) = by (lookup-insert_entry k v es) (nat_cmp k e.0) refl
  where
    by : lookup (nat_eq k) (insert_entry nat_cmp es k v) ≡ Some v → (o : Ordering) → nat_cmp k e.0 ≡ o
        → lookup (nat_eq k) (match_ordering o ((k, v) ∷ e ∷ es) ((e.0, v) ∷ es) (e ∷ insert_entry nat_cmp es k v)) ≡ Some v
    by later Less is = ap (λ b. cond b (Some v) (lookup (nat_eq k) (e ∷ es))) (eq-eqb k k refl)
    by later Equal is = ap (λ b. cond b (Some v) (lookup (nat_eq k) es)) (eq-eqb k e.0 (equal-same k e.0 is))
    by later Greater is =
        ap (λ b. cond b (Some e.1) (lookup (nat_eq k) (insert_entry nat_cmp es k v))) (nat_eq-apart-above k e.0 (greater-above k e.0 is)) ∙ later

-- and taken out again, where nothing was there
pub remove_entry-insert_entry : {X : Type 0} (k : ℕ) (v : X) (es : List (ℕ × X)) → lookup (nat_eq k) es ≡ None → remove_entry (nat_eq k) (insert_entry nat_cmp es k v) ≡ es
remove_entry-insert_entry k v [] none = ap (λ b. cond b [] ((k, v) ∷ [])) (eq-eqb k k refl)
remove_entry-insert_entry {X} k v (e ∷ es) none = by (remove_entry-insert_entry k v es) (nat_cmp k e.0) refl (nat_eq k e.0) refl none
  where
    by : (lookup (nat_eq k) es ≡ None → remove_entry (nat_eq k) (insert_entry nat_cmp es k v) ≡ es) → (o : Ordering) → nat_cmp k e.0 ≡ o
        → (b : Bool) → nat_eq k e.0 ≡ b → cond b (Some e.1) (lookup (nat_eq k) es) ≡ None
        → remove_entry (nat_eq k) (match_ordering o ((k, v) ∷ e ∷ es) ((e.0, v) ∷ es) (e ∷ insert_entry nat_cmp es k v)) ≡ e ∷ es
    by later o is true same h = cc
    by later Less is false apart h = ap (λ b. cond b (e ∷ es) ((k, v) ∷ remove_entry (nat_eq k) (e ∷ es))) (eq-eqb k k refl)
    by later Equal is false apart h = let yes : nat_eq k e.0 ≡ true = eq-eqb k e.0 (equal-same k e.0 is) in cc
    by later Greater is false apart h =
        ap (λ b. cond b (insert_entry nat_cmp es k v) (e ∷ remove_entry (nat_eq k) (insert_entry nat_cmp es k v))) apart ∙ ap (λ rest. e ∷ rest) (later h)

pub all_below : (k m : ℕ) (ks : List ℕ) → k < m → AllByRecursion (λ n. nat_cmp m n ≡ Less) ks → AllByRecursion (λ n. nat_cmp k n ≡ Less) ks
all_below k m [] h all = tt
all_below k m (n ∷ ks) h all = (nat_cmp-of_below k n (omega (arith, h, less-below m n all.0)), all_below k m ks h all.1)

-- an old value comes back in the place of another, or of none
module _ {X : Type 0} where
  pub insert_entry-insert_entry : (k : ℕ) (v w : X) (es : List (ℕ × X)) → IsStrictlySortedBy nat_cmp (keys_of es) → lookup (nat_eq k) es ≡ Some v
      → insert_entry nat_cmp (insert_entry nat_cmp es k w) k v ≡ es
  unfolding IsStrictlySortedBy
  insert_entry-insert_entry k v w [] rising found = cc
  insert_entry-insert_entry k v w (e ∷ es) rising found = by (insert_entry-insert_entry k v w es rising.1) (nat_cmp k e.0) refl (nat_eq k e.0) refl found
    where
      by : (lookup (nat_eq k) es ≡ Some v → insert_entry nat_cmp (insert_entry nat_cmp es k w) k v ≡ es) → (o : Ordering) → nat_cmp k e.0 ≡ o
          → (b : Bool) → nat_eq k e.0 ≡ b → cond b (Some e.1) (lookup (nat_eq k) es) ≡ Some v
          → insert_entry nat_cmp (match_ordering o ((k, w) ∷ e ∷ es) ((e.0, w) ∷ es) (e ∷ insert_entry nat_cmp es k w)) k v ≡ e ∷ es
      by later Equal is b tested h =
          let yes : nat_eq k e.0 ≡ true = eq-eqb k e.0 (equal-same k e.0 is) in
          let found : cond true (Some e.1) (lookup (nat_eq k) es) ≡ Some v = ap (λ t. cond t (Some e.1) (lookup (nat_eq k) es)) (sym yes ∙ tested) ∙ h in
          let there : e.1 ≡ v = cc in
          ap (λ o. match_ordering o ((k, v) ∷ (e.0, w) ∷ es) ((e.0, v) ∷ es) ((e.0, w) ∷ insert_entry nat_cmp es k v)) is ∙ ap (λ x. (e.0, x) ∷ es) (sym there)
      by later Less is true tested h = let no : nat_eq k e.0 ≡ false = nat_eq-apart k e.0 (less-below k e.0 is) in cc
      by later Less is false tested h =
          let k_below : AllByRecursion (λ n. nat_cmp k n ≡ Less) (keys_of es) = all_below k e.0 (keys_of es) (less-below k e.0 is) rising.0 in
          let none : lookup (nat_eq k) es ≡ None = lookup-below k es k_below in cc
      by later Greater is true tested h = let no : nat_eq k e.0 ≡ false = nat_eq-apart-above k e.0 (greater-above k e.0 is) in cc
      by later Greater is false tested h =
          ap (λ o. match_ordering o ((k, v) ∷ e ∷ insert_entry nat_cmp es k w) ((e.0, v) ∷ insert_entry nat_cmp es k w) (e ∷ insert_entry nat_cmp (insert_entry nat_cmp es k w) k v)) is
          ∙ ap (λ rest. e ∷ rest) (later h)

-- nothing is taken out where nothing is there
pub remove_entry-none : {X : Type 0} (k : ℕ) (es : List (ℕ × X)) → lookup (nat_eq k) es ≡ None → remove_entry (nat_eq k) es ≡ es
remove_entry-none k [] none = refl
remove_entry-none {X} k (e ∷ es) none = by (remove_entry-none k es) (nat_eq k e.0) none
  where
    by : (lookup (nat_eq k) es ≡ None → remove_entry (nat_eq k) es ≡ es) → (b : Bool) → cond b (Some e.1) (lookup (nat_eq k) es) ≡ None
        → cond b es (e ∷ remove_entry (nat_eq k) es) ≡ e ∷ es
    by later true h = cc
    by later false h = ap (λ rest. e ∷ rest) (later h)

-- what is found stands above what is below all
pub found_above : {X : Type 0} (m k : ℕ) (v : X) (es : List (ℕ × X)) → AllByRecursion (λ n. nat_cmp m n ≡ Less) (keys_of es) → lookup (nat_eq k) es ≡ Some v → m < k
found_above m k v [] all found = cc
found_above {X} m k v (e ∷ es) all found = by (found_above m k v es all.1) (nat_eq k e.0) refl found
  where
    by : (lookup (nat_eq k) es ≡ Some v → m < k) → (b : Bool) → nat_eq k e.0 ≡ b → cond b (Some e.1) (lookup (nat_eq k) es) ≡ Some v → m < k
    by later true is h = let same : k ≡ e.0 = grind (arith, nat_tests, is) in omega (arith, same, less-below m e.0 all.0)
    by later false is h = later h

-- a value that was taken out is put back
module _ {X : Type 0} where
  pub insert_entry-remove_entry : (k : ℕ) (v : X) (es : List (ℕ × X)) → IsStrictlySortedBy nat_cmp (keys_of es) → lookup (nat_eq k) es ≡ Some v
      → insert_entry nat_cmp (remove_entry (nat_eq k) es) k v ≡ es
  unfolding IsStrictlySortedBy
  insert_entry-remove_entry k v [] rising found = cc
  insert_entry-remove_entry k v (e ∷ es) rising found = by (insert_entry-remove_entry k v es rising.1) (nat_eq k e.0) refl found
    where
      by : (lookup (nat_eq k) es ≡ Some v → insert_entry nat_cmp (remove_entry (nat_eq k) es) k v ≡ es) → (b : Bool) → nat_eq k e.0 ≡ b
          → cond b (Some e.1) (lookup (nat_eq k) es) ≡ Some v
          → insert_entry nat_cmp (cond b es (e ∷ remove_entry (nat_eq k) es)) k v ≡ e ∷ es
      by later true is h =
          let same : k ≡ e.0 = grind (arith, nat_tests, is) in
          let there : e.1 ≡ v = cc in
          let above : AllByRecursion (λ n. nat_cmp k n ≡ Less) (keys_of es) = subst (λ m. AllByRecursion (λ n. nat_cmp m n ≡ Less) (keys_of es)) (sym same) rising.0 in
          insert_entry-below k v es above ∙ ap (λ n. (n, v) ∷ es) same ∙ ap (λ x. (e.0, x) ∷ es) (sym there)
      by later false is h =
          let over : e.0 < k = found_above e.0 k v es rising.0 h in
          ap (λ o. match_ordering o ((k, v) ∷ e ∷ remove_entry (nat_eq k) es) ((e.0, v) ∷ remove_entry (nat_eq k) es) (e ∷ insert_entry nat_cmp (remove_entry (nat_eq k) es) k v)) (nat_cmp-of_above k e.0 over)
          ∙ ap (λ rest. e ∷ rest) (later h)

-- ---- the values of a column

-- a feature's value in a column, taken out and put back
with_value-without_value : (number : ℕ) (value : AttrValue) (feature : FeatureContent) → IsStrictlySortedBy nat_cmp (keys_of feature.values) → value_in number feature ≡ Some value
    → with_value number value (without_value number feature) ≡ feature
with_value-without_value number value feature rising found =
    ap (λ vs. let f : FeatureContent = record feature { values = vs } in f) (insert_entry-remove_entry number value feature.values rising found)

pub without_value-none : (number : ℕ) (feature : FeatureContent) → value_in number feature ≡ None → without_value number feature ≡ feature
without_value-none number feature none = ap (λ vs. let f : FeatureContent = record feature { values = vs } in f) (remove_entry-none number feature.values none)

abbrev pub valued : ℕ → ℕ × FeatureContent → Option (ℕ × AttrValue)
valued number entry = option_map (λ value. (entry.0, value)) (value_in number entry.1)

abbrev pub bare : ℕ → ℕ × FeatureContent → ℕ × FeatureContent
bare number entry = (entry.0, without_value number entry.1)

-- values of later features leave the first one as it is
put-over : (number m : ℕ) (feature : FeatureContent) (vs : List (ℕ × AttrValue)) (es : List (ℕ × FeatureContent)) → AllByRecursion (λ n. nat_cmp m n ≡ Less) (keys_of vs)
    → put_each number vs ((m, feature) ∷ es) ≡ (m, feature) ∷ put_each number vs es
put-over number m feature [] es above = refl
put-over number m feature (v ∷ vs) es above =
    ap (λ fs. change_value (nat_eq v.0) fs (with_value number v.1)) (put-over number m feature vs es above.1)
    ∙ ap (λ b. if b then (m, with_value number v.1 feature) ∷ put_each number vs es else (m, feature) ∷ change_value (nat_eq v.0) (put_each number vs es) (with_value number v.1))
    (nat_eq-apart-above v.0 m (less-below m v.0 above.0))

pub valued-above : (number m : ℕ) (es : List (ℕ × FeatureContent)) → AllByRecursion (λ n. nat_cmp m n ≡ Less) (keys_of es) → AllByRecursion (λ n. nat_cmp m n ≡ Less) (keys_of (filter_map (valued number) es))
valued-above number m [] all = tt
valued-above number m (e ∷ es) all = by (valued-above number m es all.1) (value_in number e.1)
  where
    by : AllByRecursion (λ n. nat_cmp m n ≡ Less) (keys_of (filter_map (valued number) es)) → (o : Option AttrValue)
        → AllByRecursion (λ n. nat_cmp m n ≡ Less) (keys_of (cons_option (option_map (λ value. (e.0, value)) o) (filter_map (valued number) es)))
    by later None = later
    by later (Some value) = (all.0, later)

-- each feature's values stand in order
abbrev pub HasRising : FeatureContent → Type 0
HasRising feature = IsStrictlySortedBy nat_cmp (keys_of feature.values)

-- the values of a column, taken out of all features, are put back
pub put-back : (number : ℕ) (es : List (ℕ × FeatureContent)) → IsStrictlySortedBy nat_cmp (keys_of es) → AllByRecursion HasRising (values_of es)
    → put_each number (filter_map (valued number) es) (map (bare number) es) ≡ es
unfolding IsStrictlySortedBy
put-back number [] rising all = refl
put-back number (e ∷ es) rising all = by (put-back number es rising.1 all.1) (value_in number e.1) refl
  where
    by : put_each number (filter_map (valued number) es) (map (bare number) es) ≡ es → (o : Option AttrValue) → value_in number e.1 ≡ o
        → put_each number (cons_option (option_map (λ value. (e.0, value)) o) (filter_map (valued number) es)) (bare number e ∷ map (bare number) es) ≡ e ∷ es
    by later None is =
        put-over number e.0 (without_value number e.1) (filter_map (valued number) es) (map (bare number) es) (valued-above number e.0 es rising.0)
        ∙ ap (λ fs. (e.0, without_value number e.1) ∷ fs) later
        ∙ ap (λ f. (e.0, f) ∷ es) (without_value-none number e.1 is)
    by later (Some value) is =
        ap (λ fs. change_value (nat_eq e.0) fs (with_value number value))
        (put-over number e.0 (without_value number e.1) (filter_map (valued number) es) (map (bare number) es) (valued-above number e.0 es rising.0)
        ∙ ap (λ fs. (e.0, without_value number e.1) ∷ fs) later)
        ∙ ap (λ b. if b then (e.0, with_value number value (without_value number e.1)) ∷ es else (e.0, without_value number e.1) ∷ change_value (nat_eq e.0) es (with_value number value)) (eq-eqb e.0 e.0 refl)
        ∙ ap (λ f. (e.0, f) ∷ es) (with_value-without_value number value e.1 all.0 is)

-- putting values into features changes the features of the layer alone
pub with_values-put : (number : ℕ) (vs : List (ℕ × AttrValue)) (layer : LayerContent) → with_values number vs layer ≡ record layer { features = put_each number vs layer.features }
with_values-put number [] layer = refl
with_values-put number (v ∷ vs) layer = ap (change_feature v.0 (with_value number v.1)) (with_values-put number vs layer)

-- the values of a column, taken out of a layer, are put back
pub with_values-without_values : (number : ℕ) (layer : LayerContent) → IsStrictlySortedBy nat_cmp (keys_of layer.features) → AllByRecursion HasRising (values_of layer.features)
    → with_values number (column_values number layer) (without_values number layer) ≡ layer
with_values-without_values number layer rising all =
    with_values-put number (column_values number layer) (without_values number layer)
    ∙ ap (λ fs. let l : LayerContent = record layer { features = fs } in l) (put-back number layer.features rising all)
