-- A layer that is moved or renamed keeps its number: each name finds its own layer after it.
use Rattle.std.proofs.Common.{◌≡◌, ℕ, zero, suc, ◌<◌, Bool, true, false, cond, List, [], ◌∷◌, insert, remove, slice_get, slice_set, option_map, Option, None, Some, is_some, bytes_eq, refl, ap, sym, subst, ◌∙◌}
use Rattle.std.proofs.lemmas.Bool.{false≢true}
use Rattle.std.proofs.lemmas.Slice.Eq.{bytes_eq-Decides}
use Rattle.std.specs.Option.{option_map_or}
use Rattle.std.specs.List.{AllByRecursion}
use Rattle.std.specs.Map.{lookup, keys_of, values_of, update}
use Rattle.indexmap.specs.IndexMap.{move_index, set_value_at}
use Rattle.sf_layers.specs.Content.{LayerContent, moved, renamed_at}
use Rattle.sf_layers.specs.WellFormed.{IsWellFormed}
use Rattle.sf_layers.specs.Numbers.{Numbered, numbers_of, IsNumbered}
use Rattle.sf_layers.proofs.Fine.{IsWellFormed-moved_at, all-at, all-insert}
use Rattle.sf_layers.proofs.Kept.{all-remove}
use Rattle.sf_layers.proofs.Numbers.{found-numbers_of, lookup-insert, lookup-remove, cond-both}
use Rattle.sf_layers.proofs.Orders.{slice_get-map, map-insert, map-remove}
use Rattle.sf_layers.proofs.Places.{insert-remove}

bytes_eq-same : (name : List ℕ) → bytes_eq name name ≡ true
bytes_eq-same name = (bytes_eq-Decides name name).1 refl

none_of : {X : Type 0} (o : Option X) → is_some o ≡ false → o ≡ None
none_of None h = refl
none_of (Some x) h = cc

-- an entry of the layers that stands at a place
abbrev pub IsAt : Numbered → ℕ → ℕ → List ℕ → LayerContent → Type 0
IsAt entries place n name layer = slice_get entries place ≡ Some (n, (name, layer))

-- once a layer is taken out, its name finds none
lookup-out : (entries : Numbered) (place n : ℕ) (name : List ℕ) (layer : LayerContent) (number : List ℕ → Option ℕ) (next : ℕ) → IsNumbered number entries next → IsAt entries place n name layer
    → lookup (bytes_eq name) (numbers_of (remove entries place)) ≡ None
lookup-out entries place n name layer number next h at =
    lookup-remove entries place n name layer name at h.well_formed.distinct
    ∙ ap (λ b. cond b None (lookup (bytes_eq name) (numbers_of entries))) (bytes_eq-same name)

-- what a name finds goes by the layers without one, and by that one
lookup-split : (entries : Numbered) (place to n : ℕ) (name : List ℕ) (layer : LayerContent) (number : List ℕ → Option ℕ) (next : ℕ) → IsNumbered number entries next → IsAt entries place n name layer
    → (other : List ℕ) → lookup (bytes_eq other) (numbers_of entries) ≡ lookup (bytes_eq other) (numbers_of (insert (remove entries place) to (n, (name, layer))))
lookup-split entries place to n name layer number next h at other =
    let out = lookup-out entries place n name layer number next h at in
    ap (λ es. lookup (bytes_eq other) (numbers_of es)) (sym (insert-remove entries place (n, (name, layer)) at))
    ∙ lookup-insert (remove entries place) place n name layer other out
    ∙ sym (lookup-insert (remove entries place) to n name layer other out)

-- ---- a layer moved

moved-values : (entries : Numbered) (from to : ℕ) (o : Option (ℕ × (List ℕ × LayerContent))) → slice_get entries from ≡ o
    → values_of (option_map_or (λ x. insert (remove entries from) to x) o entries)
    ≡ option_map_or (λ e. insert (remove (values_of entries) from) to e) (option_map (λ e. e.1) o) (values_of entries)
moved-values entries from to None at = refl
moved-values entries from to (Some e) at =
    map-insert (λ x. x.1) (remove entries from) to e
    ∙ ap (λ content. insert content to e.1) (map-remove (λ x. x.1) entries from)

-- entries moved are the layers moved
pub values-move_index : (entries : Numbered) (from to : ℕ) → values_of (move_index entries from to) ≡ moved from to (values_of entries)
values-move_index entries from to =
    moved-values entries from to (slice_get entries from) refl
    ∙ ap (λ o. option_map_or (λ e. insert (remove (values_of entries) from) to e) o (values_of entries)) (sym (slice_get-map (λ e. e.1) entries from))

-- the name of a layer that was taken out is free
layer_of-out : (entries : Numbered) (place n : ℕ) (name : List ℕ) (layer : LayerContent) (number : List ℕ → Option ℕ) (next : ℕ) → IsNumbered number entries next → IsAt entries place n name layer
    → lookup (bytes_eq name) (remove (values_of entries) place) ≡ None
layer_of-out entries place n name layer number next h at =
    none_of (lookup (bytes_eq name) (remove (values_of entries) place))
    (ap (λ es. is_some (lookup (bytes_eq name) es)) (sym (map-remove (λ e. e.1) entries place))
    ∙ sym (found-numbers_of (remove entries place) name)
    ∙ ap is_some (lookup-out entries place n name layer number next h at))

pub IsNumbered-move_index : (number : List ℕ → Option ℕ) (entries : Numbered) (next from to : ℕ) → IsNumbered number entries next → IsNumbered number (move_index entries from to) next
IsNumbered-move_index number entries next from to h = by (slice_get entries from) refl
  where
    by : (o : Option (ℕ × (List ℕ × LayerContent))) → slice_get entries from ≡ o → IsNumbered number (option_map_or (λ x. insert (remove entries from) to x) o entries) next
    by None at = h
    by (Some e) at =
        let there : slice_get (values_of entries) from ≡ Some (e.1.0, e.1.1) = slice_get-map (λ x. x.1) entries from ∙ ap (option_map (λ x. x.1)) at in
        record {
          well_formed = subst IsWellFormed (sym (map-insert (λ x. x.1) (remove entries from) to e ∙ ap (λ content. insert content to e.1) (map-remove (λ x. x.1) entries from)))
              (IsWellFormed-moved_at (values_of entries) from to e.1.0 e.1.1 there (layer_of-out entries from e.0 e.1.0 e.1.1 number next h at) h.well_formed);
          found = λ name. h.found name ∙ lookup-split entries from to e.0 e.1.0 e.1.1 number next h at name;
          below = all-insert (λ k. k < next) (λ x. x.0) (remove entries from) to e (all-remove (λ k. k < next) (λ x. x.0) entries from h.below)
              (all-at (λ k. k < next) (λ x. x.0) entries from e h.below at);
        }

-- ---- a layer renamed

-- an entry written over is one taken out and one put in
set_value_at-insert : (entries : Numbered) (place n : ℕ) (old new : List ℕ × LayerContent) → slice_get entries place ≡ Some (n, old) → set_value_at entries place new ≡ insert (remove entries place) place (n, new)
set_value_at-insert [] place n old new at = cc
set_value_at-insert (e ∷ es) zero n old new at =
    let is : ◌≡◌ {A = ℕ × (List ℕ × LayerContent)} e (n, old) = cc in
    let head : (e.0, new) ∷ es ≡ (n, new) ∷ es = ap (λ x. (x.0, new) ∷ es) is in
    head ∙ start es
  where
    start : (xs : Numbered) → (n, new) ∷ xs ≡ insert xs zero (n, new)
    start [] = refl
    start (x ∷ xs) = refl
set_value_at-insert (e ∷ es) (suc i) n old new at = ap (λ rest. e ∷ rest) (set_value_at-insert es i n old new at)

values-set_value_at-any : (entries : Numbered) (place : ℕ) (new : List ℕ × LayerContent) → values_of (set_value_at entries place new) ≡ slice_set (values_of entries) place new
values-set_value_at-any [] place new = refl
values-set_value_at-any (e ∷ es) zero new = refl
values-set_value_at-any (e ∷ es) (suc i) new = ap (λ rest. e.1 ∷ rest) (values-set_value_at-any es i new)

-- another name in the entry at a place is the layer renamed
pub values-renamed_at : (entries : Numbered) (place n : ℕ) (name new_name : List ℕ) (layer : LayerContent) → IsAt entries place n name layer
    → values_of (set_value_at entries place (new_name, layer)) ≡ renamed_at place new_name (values_of entries)
values-renamed_at entries place n name new_name layer at =
    values-set_value_at-any entries place (new_name, layer)
    ∙ sym (ap (λ o. option_map_or (λ e. slice_set (values_of entries) place (new_name, e.1)) o (values_of entries)) (slice_get-map (λ x. x.1) entries place ∙ ap (option_map (λ x. x.1)) at))

cond-none : {X : Type 0} (b : Bool) (o : Option X) → o ≡ None → cond b None o ≡ None
cond-none true o h = refl
cond-none false o h = h

pub IsNumbered-renamed : (old between new : List ℕ → Option ℕ) (entries : Numbered) (next place n : ℕ) (name new_name : List ℕ) (layer : LayerContent) → IsNumbered old entries next → IsAt entries place n name layer
    → lookup (bytes_eq new_name) (values_of entries) ≡ None
    → ((other : List ℕ) → between other ≡ update bytes_eq old new_name (Some n) other) → ((other : List ℕ) → new other ≡ update bytes_eq between name None other)
    → IsWellFormed (renamed_at place new_name (values_of entries)) → IsNumbered new (set_value_at entries place (new_name, layer)) next
IsNumbered-renamed old between new entries next place n name new_name layer h at absent put taken fine =
    let is : set_value_at entries place (new_name, layer) ≡ insert (remove entries place) place (n, (new_name, layer)) = set_value_at-insert entries place n (name, layer) (new_name, layer) at in
    let free : lookup (bytes_eq new_name) (numbers_of entries) ≡ None = none_of (lookup (bytes_eq new_name) (numbers_of entries)) (found-numbers_of entries new_name ∙ ap is_some absent) in
    let free_out : lookup (bytes_eq new_name) (numbers_of (remove entries place)) ≡ None =
    lookup-remove entries place n name layer new_name at h.well_formed.distinct ∙ cond-none (bytes_eq name new_name) (lookup (bytes_eq new_name) (numbers_of entries)) free in
    let there : lookup (bytes_eq name) (numbers_of entries) ≡ Some n =
    lookup-split entries place place n name layer old next h at name
    ∙ lookup-insert (remove entries place) place n name layer name (lookup-out entries place n name layer old next h at)
    ∙ ap (λ b. cond b (Some n) (lookup (bytes_eq name) (numbers_of (remove entries place)))) (bytes_eq-same name) in
    record {
      well_formed = subst IsWellFormed (sym (values-renamed_at entries place n name new_name layer at)) fine;
      found = λ other.
          taken other
          ∙ ap (λ o. cond (bytes_eq name other) None o) (put other ∙ ap (λ o. cond (bytes_eq new_name other) (Some n) o) (h.found other))
          ∙ cond-both (bytes_eq name other) (bytes_eq new_name other) None (Some n) (lookup (bytes_eq other) (numbers_of entries)) (λ p q.
          let same : name ≡ new_name = (bytes_eq-Decides name other).0 p ∙ sym ((bytes_eq-Decides new_name other).0 q) in
          absurd (false≢true (sym (ap is_some (ap (λ k. lookup (bytes_eq k) (numbers_of entries)) same ∙ free)) ∙ ap is_some there)))
          ∙ ap (λ o. cond (bytes_eq new_name other) (Some n) o) (sym (lookup-remove entries place n name layer other at h.well_formed.distinct))
          ∙ sym (lookup-insert (remove entries place) place n new_name layer other free_out)
          ∙ ap (λ es. lookup (bytes_eq other) (numbers_of es)) (sym is);
      below = subst (λ es. AllByRecursion (λ k. k < next) (keys_of es)) (sym is)
          (all-insert (λ k. k < next) (λ x. x.0) (remove entries place) place (n, (new_name, layer)) (all-remove (λ k. k < next) (λ x. x.0) entries place h.below)
          (all-at (λ k. k < next) (λ x. x.0) entries place (n, (name, layer)) h.below at));
    }

-- the entry at a place is its number and the layer that stands there
pub entry-at : (entries : Numbered) (place n : ℕ) (some entry : List ℕ × LayerContent) → slice_get entries place ≡ Some (n, some) → slice_get (values_of entries) place ≡ Some entry → IsAt entries place n entry.0 entry.1
entry-at entries place n some entry at value =
    let both : ◌≡◌ {A = Option (List ℕ × LayerContent)} (Some some) (Some entry) = ap (option_map (λ e. e.1)) (sym at) ∙ sym (slice_get-map (λ e. e.1) entries place) ∙ value in
    let same : ◌≡◌ {A = List ℕ × LayerContent} some entry = cc in
    at ∙ ap (λ e. Some (n, e)) same
