-- What is taken out of a well-formed content leaves it well formed.
use Rattle.std.proofs.Common.{◌≡◌, ℕ, zero, suc, ◌≤◌, Bool, true, false, cond, ◌||◌, if◌then◌else◌, List, [], ◌∷◌, map, length, remove, bytes_eq, nat_eq, refl, ap, sym, subst, ◌∙◌, arith}
use Rattle.std.specs.List.{list_any, AllByRecursion}
use Rattle.std.specs.List.Sorted.{IsStrictlySortedBy}
use Rattle.std.specs.Map.{keys_of, values_of, remove_entry}
use Rattle.std.specs.Ordering.{nat_cmp}
use Rattle.sf_layers.specs.Content.{Content, LayerContent, change_layer, change_at, without_feature}
use Rattle.sf_features.specs.Columns.{IsDistinct}
use Rattle.sf_layers.specs.WellFormed.{IsFeature, IsLayer, IsWellFormed}
use Rattle.sf_layers.proofs.Orders.{map-remove}

-- ---- a list with one element out

pub remove-all : {X : Type 0} (P : X → Type 0) (xs : List X) (i : ℕ) → AllByRecursion P xs → AllByRecursion P (remove xs i)
remove-all P [] zero h = h
remove-all P [] (suc i) h = h
remove-all P (x ∷ xs) zero h = h.1
remove-all P (x ∷ xs) (suc i) h = (h.0, remove-all P xs i h.1)

pub all-remove : {X Y : Type 0} (P : Y → Type 0) (f : X → Y) (xs : List X) (i : ℕ) → AllByRecursion P (map f xs) → AllByRecursion P (map f (remove xs i))
all-remove P f xs i h = subst (AllByRecursion P) (sym (map-remove f xs i)) (remove-all P (map f xs) i h)

pub none_or : (a b : Bool) → (a || b) ≡ false → (a ≡ false) × (b ≡ false)
none_or false b h = (refl, h)
none_or true b h = cc

pub none-from : (a b : Bool) → a ≡ false → b ≡ false → (a || b) ≡ false
none-from a b p q = ap (λ c. c || b) p ∙ q

pub none-remove : {X Y : Type 0} (test : Y → Bool) (f : X → Y) (xs : List X) (i : ℕ) → list_any test (map f xs) ≡ false → list_any test (map f (remove xs i)) ≡ false
none-remove test f [] zero h = h
none-remove test f [] (suc i) h = h
none-remove test f (x ∷ xs) zero h = (none_or (test (f x)) (list_any test (map f xs)) h).1
none-remove test f (x ∷ xs) (suc i) h =
    let both = none_or (test (f x)) (list_any test (map f xs)) h in
    none-from (test (f x)) (list_any test (map f (remove xs i))) both.0 (none-remove test f xs i both.1)

pub distinct-remove : {X Y : Type 0} (eq : Y → Y → Bool) (f : X → Y) (xs : List X) (i : ℕ) → IsDistinct eq (map f xs) → IsDistinct eq (map f (remove xs i))
distinct-remove eq f [] zero h = h
distinct-remove eq f [] (suc i) h = h
distinct-remove eq f (x ∷ xs) zero h = h.1
distinct-remove eq f (x ∷ xs) (suc i) h = (none-remove (eq (f x)) f xs i h.0, distinct-remove eq f xs i h.1)

length-remove-le : {X : Type 0} (xs : List X) (i : ℕ) → length (remove xs i) ≤ length xs
length-remove-le [] zero = omega arith
length-remove-le [] (suc i) = omega arith
length-remove-le (x ∷ xs) zero = omega arith
length-remove-le (x ∷ xs) (suc i) = omega (arith, length-remove-le xs i)

-- a well-formed content less a layer is well formed
pub IsWellFormed-remove : (content : Content) (place : ℕ) → IsWellFormed content → IsWellFormed (remove content place)
IsWellFormed-remove content place h = record {
  few = omega (arith, length-remove-le content place, h.few);
  named = all-remove _ (λ entry. entry.0) content place h.named;
  distinct = distinct-remove bytes_eq (λ entry. entry.0) content place h.distinct;
  layers = all-remove IsLayer (λ entry. entry.1) content place h.layers;
}

-- ---- a layer changed in its place

pub keys-change_layer : (content : Content) (name : List ℕ) (f : LayerContent → LayerContent) → keys_of (change_layer content name f) ≡ keys_of content
keys-change_layer [] name f = refl
keys-change_layer (e ∷ es) name f = at_entry (keys-change_layer es name f) (bytes_eq name e.0)
  where
    at_entry : keys_of (change_layer es name f) ≡ keys_of es → (b : Bool)
        → keys_of (if b then (e.0, f e.1) ∷ es else e ∷ change_layer es name f) ≡ e.0 ∷ keys_of es
    at_entry later true = refl
    at_entry later false = ap (λ rest. e.0 ∷ rest) later

pub length-change_layer : (content : Content) (name : List ℕ) (f : LayerContent → LayerContent) → length (change_layer content name f) ≡ length content
length-change_layer [] name f = refl
length-change_layer (e ∷ es) name f = at_entry (length-change_layer es name f) (bytes_eq name e.0)
  where
    at_entry : length (change_layer es name f) ≡ length es → (b : Bool)
        → length (if b then (e.0, f e.1) ∷ es else e ∷ change_layer es name f) ≡ length (e ∷ es)
    at_entry later true = refl
    at_entry later false = ap suc later

layers-change_at : (content : Content) (place : ℕ) (f : LayerContent → LayerContent) → ((layer : LayerContent) → IsLayer layer → IsLayer (f layer))
    → AllByRecursion IsLayer (values_of content) → AllByRecursion IsLayer (values_of (change_at place f content))
layers-change_at [] place f keeps h = h
layers-change_at (e ∷ es) zero f keeps h = (keeps e.1 h.0, h.1)
layers-change_at (e ∷ es) (suc i) f keeps h = (h.0, layers-change_at es i f keeps h.1)

pub keys-change_at : (content : Content) (place : ℕ) (f : LayerContent → LayerContent) → keys_of (change_at place f content) ≡ keys_of content
keys-change_at [] place f = refl
keys-change_at (e ∷ es) zero f = refl
keys-change_at (e ∷ es) (suc i) f = ap (λ rest. e.0 ∷ rest) (keys-change_at es i f)

pub length-change_at : (content : Content) (place : ℕ) (f : LayerContent → LayerContent) → length (change_at place f content) ≡ length content
length-change_at [] place f = refl
length-change_at (e ∷ es) zero f = refl
length-change_at (e ∷ es) (suc i) f = ap suc (length-change_at es i f)

-- a change that keeps a layer well formed keeps the content so
pub IsWellFormed-change_at : (content : Content) (place : ℕ) (f : LayerContent → LayerContent) → ((layer : LayerContent) → IsLayer layer → IsLayer (f layer))
    → IsWellFormed content → IsWellFormed (change_at place f content)
IsWellFormed-change_at content place f keeps h = record {
  few = omega (arith, length-change_at content place f, h.few);
  named = subst (AllByRecursion _) (sym (keys-change_at content place f)) h.named;
  distinct = subst (IsDistinct bytes_eq) (sym (keys-change_at content place f)) h.distinct;
  layers = layers-change_at content place f keeps h.layers;
}

-- ---- a layer less a feature

pub all-remove_entry : {K X Y : Type 0} (P : Y → Type 0) (f : K × X → Y) (test : K → Bool) (es : List (K × X)) → AllByRecursion P (map f es) → AllByRecursion P (map f (remove_entry test es))
all-remove_entry P f test [] h = h
all-remove_entry {K} {X} P f test (e ∷ es) h = at_entry (all-remove_entry P f test es h.1) (test e.0)
  where
    at_entry : AllByRecursion P (map f (remove_entry test es)) → (b : Bool) → AllByRecursion P (map f (cond b es (e ∷ remove_entry test es)))
    at_entry later true = h.1
    at_entry later false = (h.0, later)

pub rising-remove_entry : {X : Type 0} (test : ℕ → Bool) (es : List (ℕ × X)) → IsStrictlySortedBy nat_cmp (keys_of es) → IsStrictlySortedBy nat_cmp (keys_of (remove_entry test es))
unfolding IsStrictlySortedBy
rising-remove_entry test [] h = h
rising-remove_entry {X} test (e ∷ es) h = at_entry (rising-remove_entry test es h.1) (test e.0)
  where
    at_entry : IsStrictlySortedBy nat_cmp (keys_of (remove_entry test es)) → (b : Bool) → IsStrictlySortedBy nat_cmp (keys_of (cond b es (e ∷ remove_entry test es)))
    at_entry later true = h.1
    at_entry later false = (all-remove_entry _ (λ x. x.0) test es h.0, later)

pub IsLayer-without_feature : (id : ℕ) (layer : LayerContent) → IsLayer layer → IsLayer (without_feature id layer)
IsLayer-without_feature id layer h = record {
  next_id = h.next_id;
  next_column = h.next_column;
  columns = h.columns;
  column_names = h.column_names;
  column_numbers = h.column_numbers;
  rising = rising-remove_entry (nat_eq id) layer.features h.rising;
  ids = all-remove_entry _ (λ x. x.0) (nat_eq id) layer.features h.ids;
  features = all-remove_entry (IsFeature layer.kind layer.columns) (λ x. x.1) (nat_eq id) layer.features h.features;
}

pub all-weaker : {X : Type 0} (P Q : X → Type 0) → ((x : X) → P x → Q x) → (xs : List X) → AllByRecursion P xs → AllByRecursion Q xs
all-weaker P Q f [] h = h
all-weaker P Q f (x ∷ xs) h = (f x h.0, all-weaker P Q f xs h.1)
