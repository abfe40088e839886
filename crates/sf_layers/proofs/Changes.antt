-- Changes of the layer of one name.
use Rattle.std.proofs.Common.{◌≡◌, ℕ, zero, suc, ◌+◌, not, slice_get, is_some, ◌<◌, length, arith, Bool, true, false, cond, if◌then◌else◌, List, [], ◌∷◌, Some, option_map, bytes_eq, refl, ap, sym, subst, ◌∙◌}
use Rattle.std.specs.List.{AllByRecursion}
use Rattle.std.specs.Map.{values_of}
use Rattle.sf_layers.specs.Content.{Content, LayerContent, layer_of, place_of, has_layer, change_layer, change_at}
use Rattle.sf_layers.specs.WellFormed.{IsLayer}

one-suc : (n : ℕ) → 1 + n ≡ suc n
one-suc n = omega arith

-- two changes are one
pub change_layer-change_layer : (content : Content) (name : List ℕ) (f g : LayerContent → LayerContent)
    → change_layer (change_layer content name f) name g ≡ change_layer content name (λ layer. g (f layer))
change_layer-change_layer [] name f g = refl
change_layer-change_layer (e ∷ es) name f g = at_entry (change_layer-change_layer es name f g) (bytes_eq name e.0) refl
  where
    at_entry : change_layer (change_layer es name f) name g ≡ change_layer es name (λ layer. g (f layer)) → (b : Bool) → bytes_eq name e.0 ≡ b
        → change_layer (if b then (e.0, f e.1) ∷ es else e ∷ change_layer es name f) name g ≡ (if b then (e.0, g (f e.1)) ∷ es else e ∷ change_layer es name (λ layer. g (f layer)))
    at_entry later true is = ap (λ t. if t then (e.0, g (f e.1)) ∷ es else (e.0, f e.1) ∷ change_layer es name g) is
    at_entry later false is = ap (λ t. if t then (e.0, g e.1) ∷ change_layer es name f else e ∷ change_layer (change_layer es name f) name g) is ∙ ap (λ rest. e ∷ rest) later

-- only what a change makes of the layer of the name counts
pub change_layer-at : (content : Content) (name : List ℕ) (layer : LayerContent) (f g : LayerContent → LayerContent)
    → layer_of content name ≡ Some layer → f layer ≡ g layer → change_layer content name f ≡ change_layer content name g
change_layer-at [] name layer f g found same = refl
change_layer-at (e ∷ es) name layer f g found same = at_entry (λ there. change_layer-at es name layer f g there same) (bytes_eq name e.0) found
  where
    at_entry : (layer_of es name ≡ Some layer → change_layer es name f ≡ change_layer es name g) → (b : Bool)
        → cond b (Some e.1) (layer_of es name) ≡ Some layer
        → (if b then (e.0, f e.1) ∷ es else e ∷ change_layer es name f) ≡ (if b then (e.0, g e.1) ∷ es else e ∷ change_layer es name g)
    at_entry later true h = let is : e.1 ≡ layer = cc in ap (λ l. (e.0, l) ∷ es) (ap f is ∙ same ∙ ap g (sym is))
    at_entry later false h = ap (λ rest. e ∷ rest) (later h)

-- the layer of the name after a change
pub layer_of-change_layer : (content : Content) (name : List ℕ) (f : LayerContent → LayerContent) → layer_of (change_layer content name f) name ≡ option_map f (layer_of content name)
layer_of-change_layer [] name f = refl
layer_of-change_layer (e ∷ es) name f = at_entry (layer_of-change_layer es name f) (bytes_eq name e.0) refl
  where
    at_entry : layer_of (change_layer es name f) name ≡ option_map f (layer_of es name) → (b : Bool) → bytes_eq name e.0 ≡ b
        → layer_of (if b then (e.0, f e.1) ∷ es else e ∷ change_layer es name f) name ≡ option_map f (cond b (Some e.1) (layer_of es name))
    at_entry later true is = ap (λ t. cond t (Some (f e.1)) (layer_of es name)) is
    at_entry later false is = ap (λ t. cond t (Some e.1) (layer_of (change_layer es name f) name)) is ∙ later

-- what holds of each layer holds of the one of a name
pub IsLayer-layer_of : (content : Content) (name : List ℕ) (layer : LayerContent) → layer_of content name ≡ Some layer → AllByRecursion IsLayer (values_of content) → IsLayer layer
IsLayer-layer_of [] name layer found all = cc
IsLayer-layer_of (e ∷ es) name layer found all = at_entry (λ there. IsLayer-layer_of es name layer there all.1) (bytes_eq name e.0) found
  where
    at_entry : (layer_of es name ≡ Some layer → IsLayer layer) → (b : Bool) → cond b (Some e.1) (layer_of es name) ≡ Some layer → IsLayer layer
    at_entry later true h = let is : e.1 ≡ layer = cc in subst IsLayer is all.0
    at_entry later false h = later h

-- a change of a layer to a well-formed one
pub all_layers-change_layer : (content : Content) (name : List ℕ) (layer : LayerContent) (f : LayerContent → LayerContent)
    → layer_of content name ≡ Some layer → IsLayer (f layer) → AllByRecursion IsLayer (values_of content) → AllByRecursion IsLayer (values_of (change_layer content name f))
all_layers-change_layer [] name layer f found fits all = all
all_layers-change_layer (e ∷ es) name layer f found fits all = at_entry (λ there. all_layers-change_layer es name layer f there fits all.1) (bytes_eq name e.0) found
  where
    at_entry : (layer_of es name ≡ Some layer → AllByRecursion IsLayer (values_of (change_layer es name f))) → (b : Bool) → cond b (Some e.1) (layer_of es name) ≡ Some layer
        → AllByRecursion IsLayer (values_of (if b then (e.0, f e.1) ∷ es else e ∷ change_layer es name f))
    at_entry later true h = let is : layer ≡ e.1 = cc in (subst (λ l. IsLayer (f l)) is fits, all.1)
    at_entry later false h = (all.0, later h)

-- a change that keeps the layer keeps the content
pub change_layer-same : (content : Content) (name : List ℕ) → change_layer content name (λ layer. layer) ≡ content
change_layer-same [] name = refl
change_layer-same (e ∷ es) name = at_entry (change_layer-same es name) (bytes_eq name e.0)
  where
    at_entry : change_layer es name (λ layer. layer) ≡ es → (b : Bool) → (if b then e ∷ es else e ∷ change_layer es name (λ layer. layer)) ≡ e ∷ es
    at_entry later true = refl
    at_entry later false = ap (λ rest. e ∷ rest) later

-- a change of the layer of a name is a change at its place
pub change_at-place_of : (content : Content) (name : List ℕ) (f : LayerContent → LayerContent) → change_at (place_of content name) f content ≡ change_layer content name f
change_at-place_of [] name f = refl
change_at-place_of (e ∷ es) name f = at_entry (change_at-place_of es name f) (bytes_eq name e.0)
  where
    at_entry : change_at (place_of es name) f es ≡ change_layer es name f → (b : Bool)
        → change_at (cond (not b) (1 + place_of es name) 0) f (e ∷ es) ≡ (if b then (e.0, f e.1) ∷ es else e ∷ change_layer es name f)
    at_entry later true = refl
    at_entry later false = ap (λ n. change_at n f (e ∷ es)) (one-suc (place_of es name)) ∙ ap (λ rest. e ∷ rest) later

-- the layer of a name stands at its place
pub layer_of-place_of : (content : Content) (name : List ℕ) → option_map (λ entry. entry.1) (slice_get content (place_of content name)) ≡ layer_of content name
layer_of-place_of [] name = refl
layer_of-place_of (e ∷ es) name = at_entry (layer_of-place_of es name) (bytes_eq name e.0)
  where
    at_entry : option_map (λ entry. entry.1) (slice_get es (place_of es name)) ≡ layer_of es name → (b : Bool)
        → option_map (λ entry. entry.1) (slice_get (e ∷ es) (cond (not b) (1 + place_of es name) 0)) ≡ cond b (Some e.1) (layer_of es name)
    at_entry later true = refl
    at_entry later false = ap (λ n. option_map (λ entry. entry.1) (slice_get (e ∷ es) n)) (one-suc (place_of es name)) ∙ later

-- which is below the number of layers
pub place_of-within : (content : Content) (name : List ℕ) → has_layer content name ≡ true → place_of content name < length content
place_of-within [] name h = cc
place_of-within (e ∷ es) name h = at_entry (place_of-within es name) (bytes_eq name e.0) h
  where
    at_entry : (has_layer es name ≡ true → place_of es name < length es) → (b : Bool) → is_some (cond b (Some e.1) (layer_of es name)) ≡ true
        → cond (not b) (1 + place_of es name) 0 < length (e ∷ es)
    at_entry later true h = omega arith
    at_entry later false h = omega (arith, later h)

-- a well-formed layer at a place
pub IsLayer-slice_get : (content : Content) (place : ℕ) (entry : List ℕ × LayerContent) → slice_get content place ≡ Some entry → AllByRecursion IsLayer (values_of content) → IsLayer entry.1
IsLayer-slice_get [] place entry at all = cc
IsLayer-slice_get (e ∷ es) zero entry at all = let is : ◌≡◌ {A = List ℕ × LayerContent} e entry = cc in subst (λ x. IsLayer x.1) is all.0
IsLayer-slice_get (e ∷ es) (suc i) entry at all = IsLayer-slice_get es i entry at all.1
