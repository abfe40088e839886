-- Lists with an element put in or taken out at a place, and lists in which none stands twice.
use Rattle.std.proofs.Common.{◌≡◌, ℕ, zero, suc, Bool, true, false, ◌||◌, List, [], ◌∷◌, ◌++◌, map, length, insert, remove, slice_get, option_map, Some, None, refl, ap, ◌∙◌}
use Rattle.std.specs.Option.{option_map_or}
use Rattle.std.specs.Map.{lookup, keys_of}
use Rattle.std.specs.List.{list_any, position_or_len}
use Rattle.sf_features.specs.Columns.{IsDistinct}
use Rattle.indexmap.specs.IndexMap.{move_index}
use Rattle.indexmap.proofs.MapLemmas.{or_len-absent, absent_from_lookup}

pub slice_get-map : {X Y : Type 0} (f : X → Y) (xs : List X) (i : ℕ) → slice_get (map f xs) i ≡ option_map f (slice_get xs i)
slice_get-map f [] i = refl
slice_get-map f (x ∷ xs) zero = refl
slice_get-map f (x ∷ xs) (suc i) = slice_get-map f xs i

pub map-insert : {X Y : Type 0} (f : X → Y) (xs : List X) (i : ℕ) (x : X) → map f (insert xs i x) ≡ insert (map f xs) i (f x)
map-insert f [] zero x = refl
map-insert f [] (suc i) x = refl
map-insert f (y ∷ ys) zero x = refl
map-insert f (y ∷ ys) (suc i) x = ap (λ rest. f y ∷ rest) (map-insert f ys i x)

pub map-remove : {X Y : Type 0} (f : X → Y) (xs : List X) (i : ℕ) → map f (remove xs i) ≡ remove (map f xs) i
map-remove f [] zero = refl
map-remove f [] (suc i) = refl
map-remove f (y ∷ ys) zero = refl
map-remove f (y ∷ ys) (suc i) = ap (λ rest. f y ∷ rest) (map-remove f ys i)

slice_get-push : {X : Type 0} (xs : List X) (x : X) → slice_get (xs ++ x ∷ []) (length xs) ≡ Some x
slice_get-push [] x = refl
slice_get-push (y ∷ ys) x = slice_get-push ys x

remove-push : {X : Type 0} (xs : List X) (x : X) → remove (xs ++ x ∷ []) (length xs) ≡ xs
remove-push [] x = refl
remove-push (y ∷ ys) x = ap (λ rest. y ∷ rest) (remove-push ys x)

-- a new last entry that is moved to a place is put in there
pub move_index-new : {K X : Type 0} (test : K → Bool) (es : List (K × X)) (e : K × X) (place : ℕ) → lookup test es ≡ None
    → move_index (es ++ e ∷ []) (position_or_len test (keys_of es)) place ≡ insert es place e
move_index-new test es e place absent =
    ap (λ i. move_index (es ++ e ∷ []) i place) (or_len-absent test es (absent_from_lookup test es absent))
    ∙ ap (λ o. option_map_or (λ x. insert (remove (es ++ e ∷ []) (length es)) place x) o (es ++ e ∷ [])) (slice_get-push es e)
    ∙ ap (λ rest. insert rest place e) (remove-push es e)

-- ---- a test that no element passes

pub none_or : (a b : Bool) → (a || b) ≡ false → (a ≡ false) × (b ≡ false)
none_or false b h = (refl, h)
none_or true b h = cc

pub none-from : (a b : Bool) → a ≡ false → b ≡ false → (a || b) ≡ false
none-from a b p q = ap (λ c. c || b) p ∙ q

none-insert : {X : Type 0} (test : X → Bool) (xs : List X) (i : ℕ) (x : X) → list_any test xs ≡ false → test x ≡ false → list_any test (insert xs i x) ≡ false
none-insert test [] zero x h new = none-from (test x) false new refl
none-insert test [] (suc i) x h new = none-from (test x) false new refl
none-insert test (y ∷ ys) zero x h new = none-from (test x) (list_any test (y ∷ ys)) new h
none-insert test (y ∷ ys) (suc i) x h new =
    let both = none_or (test y) (list_any test ys) h in
    none-from (test y) (list_any test (insert ys i x)) both.0 (none-insert test ys i x both.1 new)

none-remove : {X : Type 0} (test : X → Bool) (xs : List X) (i : ℕ) → list_any test xs ≡ false → list_any test (remove xs i) ≡ false
none-remove test [] zero h = h
none-remove test [] (suc i) h = h
none-remove test (x ∷ xs) zero h = (none_or (test x) (list_any test xs) h).1
none-remove test (x ∷ xs) (suc i) h =
    let both = none_or (test x) (list_any test xs) h in
    none-from (test x) (list_any test (remove xs i)) both.0 (none-remove test xs i both.1)

-- ---- lists in which no element stands twice

pub distinct-insert : {X : Type 0} (eq : X → X → Bool) → ((x y : X) → eq x y ≡ eq y x) → (xs : List X) (i : ℕ) (x : X) → list_any (eq x) xs ≡ false → IsDistinct eq xs → IsDistinct eq (insert xs i x)
distinct-insert eq symmetric [] zero x absent h = (refl, tt)
distinct-insert eq symmetric [] (suc i) x absent h = (refl, tt)
distinct-insert eq symmetric (y ∷ ys) zero x absent h = (absent, h)
distinct-insert eq symmetric (y ∷ ys) (suc i) x absent h =
    let both = none_or (eq x y) (list_any (eq x) ys) absent in
    (none-insert (eq y) ys i x h.0 (symmetric y x ∙ both.0), distinct-insert eq symmetric ys i x both.1 h.1)

pub distinct-remove : {X : Type 0} (eq : X → X → Bool) (xs : List X) (i : ℕ) → IsDistinct eq xs → IsDistinct eq (remove xs i)
distinct-remove eq [] zero h = h
distinct-remove eq [] (suc i) h = h
distinct-remove eq (x ∷ xs) zero h = h.1
distinct-remove eq (x ∷ xs) (suc i) h = (none-remove (eq x) xs i h.0, distinct-remove eq xs i h.1)
