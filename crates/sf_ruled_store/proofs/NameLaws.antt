-- Layers found by name once others are put in, taken out, moved or renamed.
use Rattle.std.proofs.Common.{◌≡◌, ℕ, zero, suc, ◌+◌, Bool, true, false, not, cond, List, [], ◌∷◌, ◌++◌, insert, remove, slice_get, slice_set, Some, None, is_some, bytes_eq, refl, ap, sym, subst, ◌∙◌, arith}
use Rattle.std.specs.Option.{option_map_or}
use Rattle.std.specs.Map.{keys_of}
use Rattle.std.proofs.lemmas.Slice.Eq.{bytes_eq-Decides}
use Rattle.sf_features.specs.Columns.{IsDistinct}
use Rattle.sf_layers.specs.Content.{Content, LayerContent, layer_of, place_of, renamed_at, moved}
use Rattle.sf_layers.proofs.Places.{entry_at_place, layer_of-remove}

pub same-names : (a b : List ℕ) → bytes_eq a b ≡ true → a ≡ b
same-names a b h = (bytes_eq-Decides a b).0 h

pub itself : (a : List ℕ) → bytes_eq a a ≡ true
itself a = (bytes_eq-Decides a a).1 refl

-- names that differ differ the other way round
pub turned : (a b : List ℕ) → bytes_eq a b ≡ false → bytes_eq b a ≡ false
turned a b h = by (bytes_eq b a) refl
  where
    by : (t : Bool) → bytes_eq b a ≡ t → t ≡ false
    by false is = refl
    by true is =
        let yes : bytes_eq a b ≡ true = subst (λ n. bytes_eq a n ≡ true) (sym (same-names b a is)) (itself a) in cc

-- a layer that is there is found behind which another is put
pub layer_of-push : (content : Content) (name : List ℕ) (entry : List ℕ × LayerContent) → is_some (layer_of content name) ≡ true
    → layer_of (content ++ entry ∷ []) name ≡ layer_of content name
layer_of-push [] name entry there = cc
layer_of-push (e ∷ es) name entry there = by (λ h. layer_of-push es name entry h) (bytes_eq name e.0) there
  where
    by : (is_some (layer_of es name) ≡ true → layer_of (es ++ entry ∷ []) name ≡ layer_of es name) → (t : Bool) → is_some (cond t (Some e.1) (layer_of es name)) ≡ true
        → cond t (Some e.1) (layer_of (es ++ entry ∷ []) name) ≡ cond t (Some e.1) (layer_of es name)
    by later true h = refl
    by later false h = later h

-- layers of other names are found as before where one is put in
pub layer_of-insert-other : (content : Content) (place : ℕ) (entry : List ℕ × LayerContent) (name : List ℕ) → bytes_eq name entry.0 ≡ false
    → layer_of (insert content place entry) name ≡ layer_of content name
layer_of-insert-other [] zero entry name apart = ap (λ b. cond b (Some entry.1) (layer_of [] name)) apart
layer_of-insert-other [] (suc place) entry name apart = ap (λ b. cond b (Some entry.1) (layer_of [] name)) apart
layer_of-insert-other (e ∷ es) zero entry name apart = ap (λ b. cond b (Some entry.1) (layer_of (e ∷ es) name)) apart
layer_of-insert-other (e ∷ es) (suc place) entry name apart = ap (λ o. cond (bytes_eq name e.0) (Some e.1) o) (layer_of-insert-other es place entry name apart)

-- the layer that is put in is found where none had its name
pub layer_of-insert-new : (content : Content) (place : ℕ) (name : List ℕ) (layer : LayerContent) → layer_of content name ≡ None
    → layer_of (insert content place (name, layer)) name ≡ Some layer
layer_of-insert-new [] zero name layer none = ap (λ b. cond b (Some layer) (layer_of [] name)) (itself name)
layer_of-insert-new [] (suc place) name layer none = ap (λ b. cond b (Some layer) (layer_of [] name)) (itself name)
layer_of-insert-new (e ∷ es) zero name layer none = ap (λ b. cond b (Some layer) (layer_of (e ∷ es) name)) (itself name)
layer_of-insert-new (e ∷ es) (suc place) name layer none = by (λ h. layer_of-insert-new es place name layer h) (bytes_eq name e.0) none
  where
    by : (layer_of es name ≡ None → layer_of (insert es place (name, layer)) name ≡ Some layer) → (t : Bool) → cond t (Some e.1) (layer_of es name) ≡ None
        → cond t (Some e.1) (layer_of (insert es place (name, layer)) name) ≡ Some layer
    by later true h = cc
    by later false h = later h

-- layers of other names are found as before where that of a name is taken out
pub layer_of-remove-other : (content : Content) (name other : List ℕ) → bytes_eq name other ≡ false
    → layer_of (remove content (place_of content name)) other ≡ layer_of content other
layer_of-remove-other [] name other apart = refl
layer_of-remove-other (e ∷ es) name other apart = at_entry (layer_of-remove-other es name other apart) (bytes_eq name e.0) refl
  where
    at_entry : layer_of (remove es (place_of es name)) other ≡ layer_of es other → (b : Bool) → bytes_eq name e.0 ≡ b
        → layer_of (remove (e ∷ es) (cond (not (bytes_eq name e.0)) (1 + place_of es name) 0)) other ≡ layer_of (e ∷ es) other
    at_entry later true is =
        let elsewhere : bytes_eq other e.0 ≡ false = turned e.0 other (subst (λ n. bytes_eq n other ≡ false) (same-names name e.0 is) apart) in
        ap (λ b. layer_of (remove (e ∷ es) (cond (not b) (1 + place_of es name) 0)) other) is
        ∙ sym (ap (λ b. cond b (Some e.1) (layer_of es other)) elsewhere)
    at_entry later false is =
        let next : 1 + place_of es name ≡ suc (place_of es name) = omega arith in
        ap (λ b. layer_of (remove (e ∷ es) (cond (not b) (1 + place_of es name) 0)) other) is
        ∙ ap (λ n. layer_of (remove (e ∷ es) n) other) next
        ∙ ap (λ o. cond (bytes_eq other e.0) (Some e.1) o) later

moved-is : (from to : ℕ) (content : Content) (entry : List ℕ × LayerContent) → slice_get content from ≡ Some entry → moved from to content ≡ insert (remove content from) to entry
moved-is from to content entry found = ap (λ o. option_map_or (λ e. insert (remove content from) to e) o content) found

-- all layers are found as before where one is moved
pub layer_of-moved : (content : Content) (name : List ℕ) (layer : LayerContent) (to : ℕ) (other : List ℕ) → IsDistinct bytes_eq (keys_of content) → layer_of content name ≡ Some layer
    → layer_of (moved (place_of content name) to content) other ≡ layer_of content other
layer_of-moved content name layer to other distinct found =
    ap (λ c. layer_of c other) (moved-is (place_of content name) to content (name, layer) (entry_at_place content name layer found)) ∙ by (bytes_eq name other) refl
  where
    by : (t : Bool) → bytes_eq name other ≡ t → layer_of (insert (remove content (place_of content name)) to (name, layer)) other ≡ layer_of content other
    by true is =
        subst (λ n. layer_of (insert (remove content (place_of content name)) to (name, layer)) n ≡ layer_of content n) (same-names name other is)
        (layer_of-insert-new (remove content (place_of content name)) to name layer (layer_of-remove content name layer distinct found) ∙ sym found)
    by false is =
        layer_of-insert-other (remove content (place_of content name)) to (name, layer) other (turned name other is) ∙ layer_of-remove-other content name other is

renamed-is : (place : ℕ) (name : List ℕ) (content : Content) (entry : List ℕ × LayerContent) → slice_get content place ≡ Some entry → renamed_at place name content ≡ slice_set content place (name, entry.1)
renamed-is place name content entry found = ap (λ o. option_map_or (λ e. slice_set content place (name, e.1)) o content) found

set-new : (content : Content) (place : ℕ) (entry : List ℕ × LayerContent) (name : List ℕ) → slice_get content place ≡ Some entry → layer_of content name ≡ None
    → layer_of (slice_set content place (name, entry.1)) name ≡ Some entry.1
set-new [] place entry name there none = cc
set-new (e ∷ es) zero entry name there none =
    let same : e ≡ entry = cc in
    ap (λ b. cond b (Some entry.1) (layer_of es name)) (itself name)
set-new (e ∷ es) (suc place) entry name there none = by (λ h. set-new es place entry name there h) (bytes_eq name e.0) none
  where
    by : (layer_of es name ≡ None → layer_of (slice_set es place (name, entry.1)) name ≡ Some entry.1) → (t : Bool) → cond t (Some e.1) (layer_of es name) ≡ None
        → cond t (Some e.1) (layer_of (slice_set es place (name, entry.1)) name) ≡ Some entry.1
    by later true h = cc
    by later false h = later h

set-other : (content : Content) (place : ℕ) (entry : List ℕ × LayerContent) (name other : List ℕ) → slice_get content place ≡ Some entry → bytes_eq other entry.0 ≡ false → bytes_eq other name ≡ false
    → layer_of (slice_set content place (name, entry.1)) other ≡ layer_of content other
set-other [] place entry name other there apart elsewhere = cc
set-other (e ∷ es) zero entry name other there apart elsewhere =
    let same : e ≡ entry = cc in
    let off : bytes_eq other e.0 ≡ false = subst (λ (x : List ℕ × LayerContent). bytes_eq other x.0 ≡ false) (sym same) apart in
    ap (λ b. cond b (Some entry.1) (layer_of es other)) elsewhere ∙ sym (ap (λ b. cond b (Some e.1) (layer_of es other)) off)
set-other (e ∷ es) (suc place) entry name other there apart elsewhere =
    ap (λ o. cond (bytes_eq other e.0) (Some e.1) o) (set-other es place entry name other there apart elsewhere)

-- the layer of a name is found under the new one
pub layer_of-renamed : (content : Content) (name new_name : List ℕ) (layer : LayerContent) → layer_of content name ≡ Some layer → layer_of content new_name ≡ None
    → layer_of (renamed_at (place_of content name) new_name content) new_name ≡ Some layer
layer_of-renamed content name new_name layer found none =
    let there = entry_at_place content name layer found in
    ap (λ c. layer_of c new_name) (renamed-is (place_of content name) new_name content (name, layer) there)
    ∙ set-new content (place_of content name) (name, layer) new_name there none

-- others are found as before
pub layer_of-renamed-other : (content : Content) (name new_name other : List ℕ) (layer : LayerContent) → layer_of content name ≡ Some layer → bytes_eq name other ≡ false → bytes_eq new_name other ≡ false
    → layer_of (renamed_at (place_of content name) new_name content) other ≡ layer_of content other
layer_of-renamed-other content name new_name other layer found apart elsewhere =
    let there = entry_at_place content name layer found in
    ap (λ c. layer_of c other) (renamed-is (place_of content name) new_name content (name, layer) there)
    ∙ set-other content (place_of content name) (name, layer) new_name other there (turned name other apart) (turned new_name other elsewhere)
