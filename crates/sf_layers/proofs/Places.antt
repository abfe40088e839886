-- Elements put in, taken out and moved at places, and the places of names.
use Rattle.std.proofs.Common.{◌≡◌, ℕ, zero, suc, ◌+◌, ◌<◌, ◌≤◌, Bool, true, false, not, cond, List, [], ◌∷◌, length, insert, remove, slice_get, slice_set, Some, None, bytes_eq, refl, ap, sym, ◌∙◌, arith}
use Rattle.std.specs.Option.{option_map_or}
use Rattle.std.specs.List.{list_any}
use Rattle.std.specs.Map.{keys_of}
use Rattle.std.proofs.lemmas.Slice.Eq.{bytes_eq-Decides}
use Rattle.sf_layers.specs.Content.{Content, LayerContent, layer_of, place_of, renamed_at, moved}
use Rattle.sf_features.specs.Columns.{IsDistinct}
use Rattle.sf_layers.proofs.Kept.{none_or}

-- what is taken out is put back
pub insert-remove : {X : Type 0} (xs : List X) (i : ℕ) (x : X) → slice_get xs i ≡ Some x → insert (remove xs i) i x ≡ xs
insert-remove [] i x h = cc
insert-remove (y ∷ ys) zero x h = let is : y ≡ x = cc in ap (λ z. z ∷ ys) (sym is)
insert-remove (y ∷ ys) (suc i) x h = ap (λ rest. y ∷ rest) (insert-remove ys i x h)

-- what is put in is taken out
pub remove-insert : {X : Type 0} (xs : List X) (i : ℕ) (x : X) → i ≤ length xs → remove (insert xs i x) i ≡ xs
remove-insert [] zero x h = refl
remove-insert [] (suc i) x h = absurd (omega (arith, h))
remove-insert (y ∷ ys) zero x h = refl
remove-insert (y ∷ ys) (suc i) x h = ap (λ rest. y ∷ rest) (remove-insert ys i x (omega (arith, h)))

-- and stands where it was put in
pub slice_get-insert : {X : Type 0} (xs : List X) (i : ℕ) (x : X) → i ≤ length xs → slice_get (insert xs i x) i ≡ Some x
slice_get-insert [] zero x h = refl
slice_get-insert [] (suc i) x h = absurd (omega (arith, h))
slice_get-insert (y ∷ ys) zero x h = refl
slice_get-insert (y ∷ ys) (suc i) x h = slice_get-insert ys i x (omega (arith, h))

pub length-remove : {X : Type 0} (xs : List X) (i : ℕ) → i < length xs → length (remove xs i) + 1 ≡ length xs
length-remove [] i h = absurd (omega (arith, h))
length-remove (y ∷ ys) zero h = omega arith
length-remove (y ∷ ys) (suc i) h =
    let later : length (remove ys i) + 1 ≡ length ys = length-remove ys i (omega (arith, h)) in omega (arith, later)

pub slice_get-below : {X : Type 0} (xs : List X) (i : ℕ) (x : X) → slice_get xs i ≡ Some x → i < length xs
slice_get-below [] i x h = cc
slice_get-below (y ∷ ys) zero x h = omega arith
slice_get-below (y ∷ ys) (suc i) x h = let later : i < length ys = slice_get-below ys i x h in omega (arith, later)

-- the layer of a name stands at the place of the name
pub entry_at_place : (content : Content) (name : List ℕ) (layer : LayerContent) → layer_of content name ≡ Some layer
    → slice_get content (place_of content name) ≡ Some (name, layer)
entry_at_place [] name layer found = cc
entry_at_place (e ∷ es) name layer found = at_entry (entry_at_place es name layer) (bytes_eq name e.0) refl found
  where
    at_entry : (layer_of es name ≡ Some layer → slice_get es (place_of es name) ≡ Some (name, layer)) → (b : Bool) → bytes_eq name e.0 ≡ b
        → cond b (Some e.1) (layer_of es name) ≡ Some layer
        → slice_get (e ∷ es) (cond (not (bytes_eq name e.0)) (1 + place_of es name) 0) ≡ Some (name, layer)
    at_entry later true is h =
        let same : name ≡ e.0 = (bytes_eq-Decides name e.0).0 is in
        let there : e.1 ≡ layer = cc in
        ap (λ b. slice_get (e ∷ es) (cond (not b) (1 + place_of es name) 0)) is ∙ ap (λ n. Some (n, e.1)) (sym same) ∙ ap (λ l. Some (name, l)) there
    at_entry later false is h =
        let next : 1 + place_of es name ≡ suc (place_of es name) = omega arith in
        ap (λ b. slice_get (e ∷ es) (cond (not b) (1 + place_of es name) 0)) is ∙ ap (slice_get (e ∷ es)) next ∙ later h

-- where no layer has the name, one that is put in under it stands at its place
pub place_of-insert : (content : Content) (to : ℕ) (name : List ℕ) (layer : LayerContent) → layer_of content name ≡ None → to ≤ length content
    → place_of (insert content to (name, layer)) name ≡ to
place_of-insert [] zero name layer absent h = ap (λ b. cond (not b) (1 + 0) 0) ((bytes_eq-Decides name name).1 refl)
place_of-insert [] (suc to) name layer absent h = absurd (omega (arith, h))
place_of-insert (e ∷ es) zero name layer absent h = ap (λ b. cond (not b) (1 + place_of (e ∷ es) name) 0) ((bytes_eq-Decides name name).1 refl)
place_of-insert (e ∷ es) (suc to) name layer absent h = at_entry (λ there. place_of-insert es to name layer there (omega (arith, h))) (bytes_eq name e.0) refl absent
  where
    at_entry : (layer_of es name ≡ None → place_of (insert es to (name, layer)) name ≡ to) → (b : Bool) → bytes_eq name e.0 ≡ b
        → cond b (Some e.1) (layer_of es name) ≡ None
        → cond (not (bytes_eq name e.0)) (1 + place_of (insert es to (name, layer)) name) 0 ≡ suc to
    at_entry later true is none = cc
    at_entry later false is none =
        let rest : place_of (insert es to (name, layer)) name ≡ to = later none in
        ap (λ b. cond (not b) (1 + place_of (insert es to (name, layer)) name) 0) is ∙ omega (arith, rest)

none-lookup : (name : List ℕ) (es : Content) → list_any (bytes_eq name) (keys_of es) ≡ false → layer_of es name ≡ None
none-lookup name [] h = refl
none-lookup name (e ∷ es) h =
    let both = none_or (bytes_eq name e.0) (list_any (bytes_eq name) (keys_of es)) h in
    ap (λ b. cond b (Some e.1) (layer_of es name)) both.0 ∙ none-lookup name es both.1

-- once the layer of a name is taken out, no layer has the name
pub layer_of-remove : (content : Content) (name : List ℕ) (layer : LayerContent) → IsDistinct bytes_eq (keys_of content) → layer_of content name ≡ Some layer
    → layer_of (remove content (place_of content name)) name ≡ None
layer_of-remove [] name layer distinct found = cc
layer_of-remove (e ∷ es) name layer distinct found = at_entry (layer_of-remove es name layer distinct.1) (bytes_eq name e.0) refl found
  where
    at_entry : (layer_of es name ≡ Some layer → layer_of (remove es (place_of es name)) name ≡ None) → (b : Bool) → bytes_eq name e.0 ≡ b
        → cond b (Some e.1) (layer_of es name) ≡ Some layer
        → layer_of (remove (e ∷ es) (cond (not (bytes_eq name e.0)) (1 + place_of es name) 0)) name ≡ None
    at_entry later true is h =
        let same : name ≡ e.0 = (bytes_eq-Decides name e.0).0 is in
        ap (λ b. layer_of (remove (e ∷ es) (cond (not b) (1 + place_of es name) 0)) name) is
        ∙ none-lookup name es (ap (λ n. list_any (bytes_eq n) (keys_of es)) same ∙ distinct.0)
    at_entry later false is h =
        let next : 1 + place_of es name ≡ suc (place_of es name) = omega arith in
        ap (λ b. layer_of (remove (e ∷ es) (cond (not b) (1 + place_of es name) 0)) name) is ∙ ap (λ n. layer_of (remove (e ∷ es) n) name) next
        ∙ ap (λ b. cond b (Some e.1) (layer_of (remove es (place_of es name)) name)) is ∙ later h

-- ---- layers taken out, moved and renamed, and back

moved-found : (from to : ℕ) (content : Content) (entry : List ℕ × LayerContent) → slice_get content from ≡ Some entry → moved from to content ≡ insert (remove content from) to entry
moved-found from to content entry found = ap (λ o. option_map_or (λ e. insert (remove content from) to e) o content) found

-- a layer that was moved is moved back by its name
pub moved-back : (content : Content) (name : List ℕ) (layer : LayerContent) (to : ℕ) → IsDistinct bytes_eq (keys_of content) → layer_of content name ≡ Some layer → to < length content
    → moved (place_of (moved (place_of content name) to content) name) (place_of content name) (moved (place_of content name) to content) ≡ content
moved-back content name layer to distinct found below =
    let from = place_of content name in
    let there : slice_get content from ≡ Some (name, layer) = entry_at_place content name layer found in
    let out : Content = remove content from in
    let shorter : length out + 1 ≡ length content = length-remove content from (slice_get-below content from (name, layer) there) in
    let fits : to ≤ length out = omega (arith, shorter, below) in
    let new : moved from to content ≡ insert out to (name, layer) = moved-found from to content (name, layer) there in
    let place : place_of (insert out to (name, layer)) name ≡ to = place_of-insert out to name layer (layer_of-remove content name layer distinct found) fits in
    ap (λ c. moved (place_of c name) from c) new
    ∙ ap (λ n. moved n from (insert out to (name, layer))) place
    ∙ moved-found to from (insert out to (name, layer)) (name, layer) (slice_get-insert out to (name, layer) fits)
    ∙ ap (λ c. insert c from (name, layer)) (remove-insert out to (name, layer) fits)
    ∙ insert-remove content from (name, layer) there

-- and stands at the place that it was moved to
pub place_of-moved : (content : Content) (name : List ℕ) (layer : LayerContent) (to : ℕ) → IsDistinct bytes_eq (keys_of content) → layer_of content name ≡ Some layer → to < length content
    → place_of (moved (place_of content name) to content) name ≡ to
place_of-moved content name layer to distinct found below =
    let from = place_of content name in
    let there : slice_get content from ≡ Some (name, layer) = entry_at_place content name layer found in
    let shorter : length (remove content from) + 1 ≡ length content = length-remove content from (slice_get-below content from (name, layer) there) in
    ap (λ c. place_of c name) (moved-found from to content (name, layer) there)
    ∙ place_of-insert (remove content from) to name layer (layer_of-remove content name layer distinct found) (omega (arith, shorter, below))

pub slice_get-slice_set : {X : Type 0} (xs : List X) (i : ℕ) (x y : X) → slice_get xs i ≡ Some x → slice_get (slice_set xs i y) i ≡ Some y
slice_get-slice_set [] i x y h = cc
slice_get-slice_set (z ∷ zs) zero x y h = refl
slice_get-slice_set (z ∷ zs) (suc i) x y h = slice_get-slice_set zs i x y h

pub slice_set-slice_set : {X : Type 0} (xs : List X) (i : ℕ) (x y : X) → slice_get xs i ≡ Some x → slice_set (slice_set xs i y) i x ≡ xs
slice_set-slice_set [] i x y h = cc
slice_set-slice_set (z ∷ zs) zero x y h = let is : z ≡ x = cc in ap (λ v. v ∷ zs) (sym is)
slice_set-slice_set (z ∷ zs) (suc i) x y h = ap (λ rest. z ∷ rest) (slice_set-slice_set zs i x y h)

renamed-found : (place : ℕ) (name : List ℕ) (content : Content) (entry : List ℕ × LayerContent) → slice_get content place ≡ Some entry → renamed_at place name content ≡ slice_set content place (name, entry.1)
renamed-found place name content entry found = ap (λ o. option_map_or (λ e. slice_set content place (name, e.1)) o content) found

-- a layer that was renamed gets its old name back
pub renamed-back : (content : Content) (place : ℕ) (name new_name : List ℕ) (layer : LayerContent) → slice_get content place ≡ Some (name, layer)
    → renamed_at place name (renamed_at place new_name content) ≡ content
renamed-back content place name new_name layer there =
    ap (renamed_at place name) (renamed-found place new_name content (name, layer) there)
    ∙ renamed-found place name (slice_set content place (new_name, layer)) (new_name, layer) (slice_get-slice_set content place (name, layer) (new_name, layer) there)
    ∙ slice_set-slice_set content place (name, layer) (new_name, layer) there
