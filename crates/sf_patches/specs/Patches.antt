-- Patches: what several edits make of a content, as exchanges of counters and of whole features.
use Rattle.std.specs.Prelude.{◌≡◌, ℕ, Bool, false, not, List, [], ◌∷◌, ◌++◌, reverse, Option, None, Some, is_some}
use Rattle.std.specs.Option.{option_map_or}
use Rattle.sf_features.specs.Features.{FeatureContent}
use Rattle.sf_layers.specs.Content.{Content, LayerContent, layer_at, change_at, with_feature, without_feature, with_next_id, feature_at}
use Rattle.sf_patches.specs.declared.slot.Slot.{Slot}
use Rattle.sf_patches.specs.declared.slot.Slot.TheVariants.{Counter, State}

-- the layer with this under an identifier: a feature, or none
abbrev pub put_state : ℕ → Option FeatureContent → LayerContent → LayerContent
put_state id None layer = without_feature id layer
put_state id (Some feature) layer = with_feature id feature layer

-- the content after an exchange
abbrev pub with_slot : Slot → Content → Content
with_slot (Counter place next_id) content = change_at place (with_next_id next_id) content
with_slot (State place id state) content = change_at place (put_state id state) content

-- the next identifier of the layer at a place
abbrev pub next_id_at : Content → ℕ → ℕ
next_id_at content place = option_map_or (λ layer. layer.next_id) (layer_at content place) 0

-- the exchange that takes one back: what stood there before
abbrev pub before : Content → Slot → Slot
before content (Counter place next_id) = Counter place (next_id_at content place)
before content (State place id state) = State place id (feature_at content place id)

-- the content after exchanges, one after another
abbrev pub patched : Content → List Slot → Content
patched content [] = content
patched content (slot ∷ slots) = patched (with_slot slot content) slots

-- what stood there before each of these
abbrev pub befores : Content → List Slot → List Slot
befores content [] = []
befores content (slot ∷ slots) = before content slot ∷ befores (with_slot slot content) slots

-- the exchanges that take a patch back: what stood there before each, the last one first
abbrev pub undoing : Content → List Slot → List Slot
undoing content slots = reverse (befores content slots)

-- whether an exchange puts a feature where none is, for which memory is needed
abbrev pub grows : Content → Slot → Bool
grows content (Counter place next_id) = false
grows content (State place id None) = false
grows content (State place id (Some feature)) = not (is_some (feature_at content place id))

-- whether it leaves none where one is, which could be taken back only with memory
abbrev pub removes : Content → Slot → Bool
removes content (Counter place next_id) = false
removes content (State place id (Some feature)) = false
removes content (State place id None) = is_some (feature_at content place id)

-- none of these exchanges, made one after another, leaves none where one is
abbrev pub NoneRemoves : Content → List Slot → Type 0
NoneRemoves content [] = Unit {0}
NoneRemoves content (slot ∷ slots) = (removes content slot ≡ false) × NoneRemoves (with_slot slot content) slots

-- nor puts one where none is
abbrev pub NoneGrows : Content → List Slot → Type 0
NoneGrows content [] = Unit {0}
NoneGrows content (slot ∷ slots) = (grows content slot ≡ false) × NoneGrows (with_slot slot content) slots

-- what needs memory comes first: in a front no exchange removes a feature, and behind it none puts one where none is
pub record GrowsFirst (content : Content) (slots : List Slot) : Type 0 where
  pub front : List Slot
  pub back : List Slot
  pub parts : slots ≡ front ++ back
  pub none_removes : NoneRemoves content front
  pub none_grows : NoneGrows (patched content front) back
