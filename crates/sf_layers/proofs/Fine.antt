-- Layers put in, moved and renamed, features changed and columns added leave a content well formed.
use Rattle.std.proofs.Common.{◌≡◌, ℕ, zero, suc, ◌+◌, ◌<◌, Bool, true, false, cond, if◌then◌else◌, List, [], ◌∷◌, map, length, insert, remove, slice_get, slice_set, Some, None, IsTrue, bytes_eq, nat_eq, refl, ap, sym, subst, ◌∙◌, arith}
use Rattle.std.specs.Cmp.Lexicographic.{nat_list_eq_equiv}
use Rattle.std.specs.List.{list_any, AllByRecursion}
use Rattle.std.specs.List.Sorted.{IsStrictlySortedBy}
use Rattle.std.specs.Map.{lookup, keys_of, values_of}
use Rattle.std.specs.BTreeMap.{insert_entry}
use Rattle.std.specs.declared.cmp.Ordering.{Ordering}
use Rattle.std.specs.declared.cmp.Ordering.TheVariants.{Less, Equal, Greater}
use Rattle.std.specs.Option.{option_map_or}
use Rattle.std.specs.Ordering.{nat_cmp, match_ordering}
use Rattle.sf_features.specs.Names.{is_name}
use Rattle.sf_features.specs.Features.{FeatureContent}
use Rattle.sf_layers.specs.Content.{Content, LayerContent, layer_of, place_of, change_value, change_feature, feature_of, moved, renamed_at}
use Rattle.sf_features.specs.Columns.{IsDistinct}
use Rattle.sf_layers.specs.WellFormed.{IsFeature, IsLayer, IsWellFormed, IsIssued, layers_max}
use Rattle.sf_layers.proofs.Kept.{none_or, none-from, IsWellFormed-remove}
use Rattle.sf_layers.proofs.Values.{all_below, nat_cmp-of_below, less-below, equal-same, greater-above}
use Rattle.sf_layers.proofs.Places.{entry_at_place, layer_of-remove, slice_get-below, length-remove}

-- ---- one element more, at a place

pub all-insert : {X Y : Type 0} (P : Y → Type 0) (f : X → Y) (xs : List X) (i : ℕ) (x : X) → AllByRecursion P (map f xs) → P (f x) → AllByRecursion P (map f (insert xs i x))
all-insert P f [] zero x all new = (new, tt)
all-insert P f [] (suc i) x all new = (new, tt)
all-insert P f (y ∷ ys) zero x all new = (new, all)
all-insert P f (y ∷ ys) (suc i) x all new = (all.0, all-insert P f ys i x all.1 new)

none-insert : {X Y : Type 0} (test : Y → Bool) (f : X → Y) (xs : List X) (i : ℕ) (x : X) → list_any test (map f xs) ≡ false → test (f x) ≡ false → list_any test (map f (insert xs i x)) ≡ false
none-insert test f [] zero x h new = none-from (test (f x)) false new refl
none-insert test f [] (suc i) x h new = none-from (test (f x)) false new refl
none-insert test f (y ∷ ys) zero x h new = none-from (test (f x)) (list_any test (map f (y ∷ ys))) new h
none-insert test f (y ∷ ys) (suc i) x h new =
    let both = none_or (test (f y)) (list_any test (map f ys)) h in
    none-from (test (f y)) (list_any test (map f (insert ys i x))) both.0 (none-insert test f ys i x both.1 new)

lookup-none : (name : List ℕ) (es : Content) → layer_of es name ≡ None → list_any (bytes_eq name) (keys_of es) ≡ false
lookup-none name [] h = refl
lookup-none name (e ∷ es) h = by (lookup-none name es) (bytes_eq name e.0) refl h
  where
    by : (layer_of es name ≡ None → list_any (bytes_eq name) (keys_of es) ≡ false) → (b : Bool) → bytes_eq name e.0 ≡ b → cond b (Some e.1) (layer_of es name) ≡ None
        → list_any (bytes_eq name) (keys_of (e ∷ es)) ≡ false
    by later true is h = cc
    by later false is h = none-from (bytes_eq name e.0) (list_any (bytes_eq name) (keys_of es)) is (later h)

distinct-insert : (es : Content) (i : ℕ) (name : List ℕ) (layer : LayerContent) → layer_of es name ≡ None → IsDistinct bytes_eq (keys_of es) → IsDistinct bytes_eq (keys_of (insert es i (name, layer)))
distinct-insert [] zero name layer absent h = (refl, tt)
distinct-insert [] (suc i) name layer absent h = (refl, tt)
distinct-insert (e ∷ es) zero name layer absent h = (lookup-none name (e ∷ es) absent, h)
distinct-insert (e ∷ es) (suc i) name layer absent h = by (λ none. distinct-insert es i name layer none h.1) (bytes_eq name e.0) refl absent
  where
    by : (layer_of es name ≡ None → IsDistinct bytes_eq (keys_of (insert es i (name, layer)))) → (b : Bool) → bytes_eq name e.0 ≡ b → cond b (Some e.1) (layer_of es name) ≡ None → IsDistinct bytes_eq (keys_of (e ∷ insert es i (name, layer)))
    by later true is none = cc
    by later false is none =
        (none-insert (bytes_eq e.0) (λ x. x.0) es i (name, layer) h.0 (nat_list_eq_equiv.symm e.0 name ∙ is), later none)

length-insert : {X : Type 0} (xs : List X) (i : ℕ) (x : X) → length (insert xs i x) ≡ length xs + 1
length-insert [] zero x = refl
length-insert [] (suc i) x = refl
length-insert (y ∷ ys) zero x = omega arith
length-insert (y ∷ ys) (suc i) x = let later : length (insert ys i x) ≡ length ys + 1 = length-insert ys i x in omega (arith, later)

-- a layer under a name that is free, put in at a place
pub IsWellFormed-insert : (content : Content) (place : ℕ) (name : List ℕ) (layer : LayerContent) → IsTrue (is_name name) → layer_of content name ≡ None → length content < layers_max → IsLayer layer
    → IsWellFormed content → IsWellFormed (insert content place (name, layer))
IsWellFormed-insert content place name layer named absent room fits h = record {
  few = omega (arith, length-insert content place (name, layer), room);
  named = all-insert (λ bytes. IsTrue (is_name bytes)) (λ e. e.0) content place (name, layer) h.named named;
  distinct = distinct-insert content place name layer absent h.distinct;
  layers = all-insert IsLayer (λ e. e.1) content place (name, layer) h.layers fits;
}

pub all-at : {X Y : Type 0} (P : Y → Type 0) (f : X → Y) (xs : List X) (i : ℕ) (x : X) → AllByRecursion P (map f xs) → slice_get xs i ≡ Some x → P (f x)
all-at P f [] i x all there = cc
all-at P f (y ∷ ys) zero x all there = let is : y ≡ x = cc in subst (λ z. P (f z)) is all.0
all-at P f (y ∷ ys) (suc i) x all there = all-at P f ys i x all.1 there

-- a layer that was taken out and put in at another place
pub IsWellFormed-moved_at : (content : Content) (from to : ℕ) (name : List ℕ) (layer : LayerContent) → slice_get content from ≡ Some (name, layer) → layer_of (remove content from) name ≡ None
    → IsWellFormed content → IsWellFormed (insert (remove content from) to (name, layer))
IsWellFormed-moved_at content from to name layer there absent h =
    let shorter : length (remove content from) + 1 ≡ length content = length-remove content from (slice_get-below content from (name, layer) there) in
    IsWellFormed-insert (remove content from) to name layer (all-at (λ bytes. IsTrue (is_name bytes)) (λ e. e.0) content from (name, layer) h.named there)
    absent (omega (arith, shorter, h.few)) (all-at IsLayer (λ e. e.1) content from (name, layer) h.layers there) (IsWellFormed-remove content from h)

-- a layer moved
pub IsWellFormed-moved : (content : Content) (name : List ℕ) (layer : LayerContent) (to : ℕ) → layer_of content name ≡ Some layer → IsWellFormed content → IsWellFormed (moved (place_of content name) to content)
IsWellFormed-moved content name layer to found h =
    let from = place_of content name in
    let there : slice_get content from ≡ Some (name, layer) = entry_at_place content name layer found in
    subst IsWellFormed (sym (ap (λ o. option_map_or (λ e. insert (remove content from) to e) o content) there))
    (IsWellFormed-moved_at content from to name layer there (layer_of-remove content name layer h.distinct found) h)

-- ---- a layer under another name

length-slice_set : {X : Type 0} (xs : List X) (i : ℕ) (x : X) → length (slice_set xs i x) ≡ length xs
length-slice_set [] i x = refl
length-slice_set (y ∷ ys) zero x = refl
length-slice_set (y ∷ ys) (suc i) x = ap suc (length-slice_set ys i x)

all-slice_set : {X Y : Type 0} (P : Y → Type 0) (f : X → Y) (xs : List X) (i : ℕ) (x : X) → AllByRecursion P (map f xs) → P (f x) → AllByRecursion P (map f (slice_set xs i x))
all-slice_set P f [] i x all new = tt
all-slice_set P f (y ∷ ys) zero x all new = (new, all.1)
all-slice_set P f (y ∷ ys) (suc i) x all new = (all.0, all-slice_set P f ys i x all.1 new)

none-slice_set : {X Y : Type 0} (test : Y → Bool) (f : X → Y) (xs : List X) (i : ℕ) (x : X) → list_any test (map f xs) ≡ false → test (f x) ≡ false → list_any test (map f (slice_set xs i x)) ≡ false
none-slice_set test f [] i x h new = refl
none-slice_set test f (y ∷ ys) zero x h new = none-from (test (f x)) (list_any test (map f ys)) new (none_or (test (f y)) (list_any test (map f ys)) h).1
none-slice_set test f (y ∷ ys) (suc i) x h new =
    let both = none_or (test (f y)) (list_any test (map f ys)) h in
    none-from (test (f y)) (list_any test (map f (slice_set ys i x))) both.0 (none-slice_set test f ys i x both.1 new)

distinct-slice_set : (es : Content) (i : ℕ) (name : List ℕ) (layer : LayerContent) → layer_of es name ≡ None → IsDistinct bytes_eq (keys_of es) → IsDistinct bytes_eq (keys_of (slice_set es i (name, layer)))
distinct-slice_set [] i name layer absent h = tt
distinct-slice_set (e ∷ es) zero name layer absent h = ((none_or (bytes_eq name e.0) (list_any (bytes_eq name) (keys_of es)) (lookup-none name (e ∷ es) absent)).1, h.1)
distinct-slice_set (e ∷ es) (suc i) name layer absent h = by (λ none. distinct-slice_set es i name layer none h.1) (bytes_eq name e.0) refl absent
  where
    by : (layer_of es name ≡ None → IsDistinct bytes_eq (keys_of (slice_set es i (name, layer)))) → (b : Bool) → bytes_eq name e.0 ≡ b → cond b (Some e.1) (layer_of es name) ≡ None → IsDistinct bytes_eq (keys_of (e ∷ slice_set es i (name, layer)))
    by later true is none = cc
    by later false is none =
        (none-slice_set (bytes_eq e.0) (λ x. x.0) es i (name, layer) h.0 (nat_list_eq_equiv.symm e.0 name ∙ is), later none)

pub IsWellFormed-renamed_at : (content : Content) (place : ℕ) (name new_name : List ℕ) (layer : LayerContent) → slice_get content place ≡ Some (name, layer) → IsTrue (is_name new_name) → layer_of content new_name ≡ None
    → IsWellFormed content → IsWellFormed (renamed_at place new_name content)
IsWellFormed-renamed_at content place name new_name layer there named absent h =
    subst IsWellFormed (sym (ap (λ o. option_map_or (λ e. slice_set content place (new_name, e.1)) o content) there)) (record {
      few = omega (arith, length-slice_set content place (new_name, layer), h.few);
      named = all-slice_set (λ bytes. IsTrue (is_name bytes)) (λ e. e.0) content place (new_name, layer) h.named named;
      distinct = distinct-slice_set content place new_name layer absent h.distinct;
      layers = all-slice_set IsLayer (λ e. e.1) content place (new_name, layer) h.layers (all-at IsLayer (λ e. e.1) content place (name, layer) h.layers there);
    })

-- ---- a feature changed

keys-change_value : {X : Type 0} (id : ℕ) (es : List (ℕ × X)) (f : X → X) → keys_of (change_value (nat_eq id) es f) ≡ keys_of es
keys-change_value id [] f = refl
keys-change_value {X} id (e ∷ es) f = by (keys-change_value id es f) (nat_eq id e.0)
  where
    by : keys_of (change_value (nat_eq id) es f) ≡ keys_of es → (b : Bool) → keys_of (if b then (e.0, f e.1) ∷ es else e ∷ change_value (nat_eq id) es f) ≡ e.0 ∷ keys_of es
    by later true = refl
    by later false = ap (λ rest. e.0 ∷ rest) later

all-change_value : {X : Type 0} (P : X → Type 0) (id : ℕ) (es : List (ℕ × X)) (x : X) (f : X → X) → lookup (nat_eq id) es ≡ Some x → P (f x) → AllByRecursion P (values_of es) → AllByRecursion P (values_of (change_value (nat_eq id) es f))
all-change_value P id [] x f found new all = tt
all-change_value {X} P id (e ∷ es) x f found new all = by (λ there. all-change_value P id es x f there new all.1) (nat_eq id e.0) found
  where
    by : (lookup (nat_eq id) es ≡ Some x → AllByRecursion P (values_of (change_value (nat_eq id) es f))) → (b : Bool) → cond b (Some e.1) (lookup (nat_eq id) es) ≡ Some x
        → AllByRecursion P (values_of (if b then (e.0, f e.1) ∷ es else e ∷ change_value (nat_eq id) es f))
    by later true h = let is : x ≡ e.1 = cc in (subst (λ y. P (f y)) is new, all.1)
    by later false h = (all.0, later h)

pub IsLayer-change_feature : (layer : LayerContent) (id : ℕ) (feature : FeatureContent) (f : FeatureContent → FeatureContent) → feature_of layer id ≡ Some feature → IsFeature layer.kind layer.columns (f feature)
    → IsLayer layer → IsLayer (change_feature id f layer)
IsLayer-change_feature layer id feature f found fits h =
    let same = sym (keys-change_value id layer.features f) in
    record {
      next_id = h.next_id;
      next_column = h.next_column;
      columns = h.columns;
      column_names = h.column_names;
      column_numbers = h.column_numbers;
      rising = subst (IsStrictlySortedBy nat_cmp) same h.rising;
      ids = subst (AllByRecursion (IsIssued layer.next_id)) same h.ids;
      features = all-change_value (IsFeature layer.kind layer.columns) id layer.features feature f found fits h.features;
    }

-- ---- a value put in

rising-insert_entry-below : {X : Type 0} (m k : ℕ) (v : X) (es : List (ℕ × X)) → m < k → AllByRecursion (λ n. nat_cmp m n ≡ Less) (keys_of es) → AllByRecursion (λ n. nat_cmp m n ≡ Less) (keys_of (insert_entry nat_cmp es k v))
rising-insert_entry-below m k v [] below all = (nat_cmp-of_below m k below, tt)
rising-insert_entry-below {X} m k v (e ∷ es) below all = by (rising-insert_entry-below m k v es below all.1) (nat_cmp k e.0)
  where
    by : AllByRecursion (λ n. nat_cmp m n ≡ Less) (keys_of (insert_entry nat_cmp es k v)) → (o : Ordering)
        → AllByRecursion (λ n. nat_cmp m n ≡ Less) (keys_of (match_ordering o ((k, v) ∷ e ∷ es) ((e.0, v) ∷ es) (e ∷ insert_entry nat_cmp es k v)))
    by later Less = (nat_cmp-of_below m k below, all)
    by later Equal = all
    by later Greater = (all.0, later)

module _ {X : Type 0} where
  pub rising-insert_entry : (k : ℕ) (v : X) (es : List (ℕ × X)) → IsStrictlySortedBy nat_cmp (keys_of es) → IsStrictlySortedBy nat_cmp (keys_of (insert_entry nat_cmp es k v))
  unfolding IsStrictlySortedBy
  rising-insert_entry k v [] rising = (tt, tt)
  rising-insert_entry k v (e ∷ es) rising = by (rising-insert_entry k v es rising.1) (nat_cmp k e.0) refl
    where
      by : IsStrictlySortedBy nat_cmp (keys_of (insert_entry nat_cmp es k v)) → (o : Ordering) → nat_cmp k e.0 ≡ o
          → IsStrictlySortedBy nat_cmp (keys_of (match_ordering o ((k, v) ∷ e ∷ es) ((e.0, v) ∷ es) (e ∷ insert_entry nat_cmp es k v)))
      by later Less is = ((is, all_below k e.0 (keys_of es) (less-below k e.0 is) rising.0), rising)
      by later Equal is = rising
      by later Greater is = (rising-insert_entry-below e.0 k v es (greater-above k e.0 is) rising.0, later)

-- what holds of each entry and of the new one
pub all-insert_entry : {X : Type 0} (P : ℕ × X → Type 0) (k : ℕ) (v : X) (es : List (ℕ × X)) → P (k, v) → AllByRecursion P es → AllByRecursion P (insert_entry nat_cmp es k v)
all-insert_entry P k v [] new all = (new, tt)
all-insert_entry {X} P k v (e ∷ es) new all = by (all-insert_entry P k v es new all.1) (nat_cmp k e.0) refl
  where
    by : AllByRecursion P (insert_entry nat_cmp es k v) → (o : Ordering) → nat_cmp k e.0 ≡ o → AllByRecursion P (match_ordering o ((k, v) ∷ e ∷ es) ((e.0, v) ∷ es) (e ∷ insert_entry nat_cmp es k v))
    by later Less is = (new, all)
    by later Equal is = (subst (λ n. P (n, v)) (equal-same k e.0 is) new, all.1)
    by later Greater is = (all.0, later)
