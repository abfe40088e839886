-- Lists with an element put in or taken out at a place.
use Rattle.std.proofs.Common.{◌≡◌, ℕ, zero, suc, Bool, List, [], ◌∷◌, ◌++◌, map, length, insert, remove, slice_get, option_map, Some, None, refl, ap, ◌∙◌}
use Rattle.std.specs.Option.{option_map_or}
use Rattle.std.specs.Map.{lookup, keys_of}
use Rattle.std.specs.List.{position_or_len}
use Rattle.indexmap.specs.IndexMap.{move_index}
use Rattle.indexmap.proofs.MapLemmas.{or_len-absent, absent_from_lookup}

pub slice_get-map : {X Y : Type 0} (f : X → Y) (xs : List X) (i : ℕ) → slice_get (map f xs) i ≡ option_map f (slice_get xs i)
slice_get-map f [] i = refl
slice_get-map f (x ∷ xs) zero = refl
slice_get-map f (x ∷ xs) (suc i) = slice_get-map f xs i

pub map-insert : {X Y : Type 0} (f : X → Y) (xs : List X) (i : ℕ) (x : X) → map f (insert xs i x) ≡ insert (map f xs) i (f x)
map-insert f [] zero x = refl
map-insert f [] (suc i) x = refl
map-insert f (y ∷ ys) zero x = refl
map-insert f (y ∷ ys) (suc i) x = ap (λ rest. f y ∷ rest) (map-insert f ys i x)

pub map-remove : {X Y : Type 0} (f : X → Y) (xs : List X) (i : ℕ) → map f (remove xs i) ≡ remove (map f xs) i
map-remove f [] zero = refl
map-remove f [] (suc i) = refl
map-remove f (y ∷ ys) zero = refl
map-remove f (y ∷ ys) (suc i) = ap (λ rest. f y ∷ rest) (map-remove f ys i)

slice_get-push : {X : Type 0} (xs : List X) (x : X) → slice_get (xs ++ x ∷ []) (length xs) ≡ Some x
slice_get-push [] x = refl
slice_get-push (y ∷ ys) x = slice_get-push ys x

remove-push : {X : Type 0} (xs : List X) (x : X) → remove (xs ++ x ∷ []) (length xs) ≡ xs
remove-push [] x = refl
remove-push (y ∷ ys) x = ap (λ rest. y ∷ rest) (remove-push ys x)

-- a new last entry that is moved to a place is put in there
pub move_index-new : {K X : Type 0} (test : K → Bool) (es : List (K × X)) (e : K × X) (place : ℕ) → lookup test es ≡ None
    → move_index (es ++ e ∷ []) (position_or_len test (keys_of es)) place ≡ insert es place e
move_index-new test es e place absent =
    ap (λ i. move_index (es ++ e ∷ []) i place) (or_len-absent test es (absent_from_lookup test es absent))
    ∙ ap (λ o. option_map_or (λ x. insert (remove (es ++ e ∷ []) (length es)) place x) o (es ++ e ∷ [])) (slice_get-push es e)
    ∙ ap (λ rest. insert rest place e) (remove-push es e)
