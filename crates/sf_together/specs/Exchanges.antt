-- Internal: who wants to trust the program need not read this file.
-- The exchanges that lead from a content to what a scratch content has.
use Rattle.std.specs.Prelude.{ℕ, Bool, false, not, List, [], ◌∷◌, ◌++◌, Some, None, is_some, IsTrue, filter, map, slice_get}
use Rattle.std.specs.List.{AllByRecursion, flat_map}
use Rattle.std.specs.Map.{keys_of}
use Rattle.std.specs.Option.{option_map_or}
use Rattle.sf_features.specs.Features.{FeatureContent}
use Rattle.sf_layers.specs.Content.{Content, LayerContent, feature_in, has_layer, place_of}
use Rattle.sf_patches.specs.declared.slot.Slot.{Slot}
use Rattle.sf_patches.specs.declared.slot.Slot.TheVariants.{Counter, State}
use Rattle.sf_patches.specs.declared.halves.Halves.{Halves}
use Rattle.sf_together.specs.declared.removals.Key.{Key}

-- the layers of the one are layers of the other
abbrev pub AllThere : Content → Content → Type 0
AllThere whole scratch = AllByRecursion (λ name. IsTrue (has_layer whole name)) (keys_of scratch)

-- ---- what is put

-- the exchange that puts a feature into the layer at a place
abbrev pub put_at : ℕ → ℕ × FeatureContent → Slot
put_at place entry = State place entry.0 (Some entry.1)

-- those that put the counter of a layer and then its features there
abbrev pub layer_slots : ℕ → LayerContent → List Slot
layer_slots place layer = Counter place layer.next_id ∷ map (put_at place) layer.features

-- those of all layers, into the ones of their names; the last one comes first
abbrev pub puts : Content → Content → List Slot
puts whole [] = []
puts whole (entry ∷ entries) = puts whole entries ++ layer_slots (place_of whole entry.0) entry.1

-- ---- what is removed

-- which feature an entry of a layer is, that stands at a place
abbrev pub key_at : ℕ → ℕ × FeatureContent → Key
key_at place entry = record { place = place; id = entry.0 }

-- which features a content has
abbrev pub keys_in : Content → Content → List Key
keys_in whole scratch = flat_map (λ entry. map (key_at (place_of whole entry.0)) entry.1.features) scratch

-- whether a content has it
abbrev pub has_key : Content → Content → Key → Bool
has_key whole after key = option_map_or (λ entry. is_some (feature_in after entry.0 key.id)) (slice_get whole key.place) false

-- the exchanges that remove those that a content has no more
abbrev pub removal : Key → Slot
removal key = State key.place key.id None

abbrev pub removals_of : Content → Content → List Key → List Slot
removals_of whole after keys = map removal (filter (λ key. not (has_key whole after key)) keys)

-- both, as halves
abbrev pub halves_between : Content → Content → List Key → Halves
halves_between whole after keys = record { growing = puts whole after; removing = removals_of whole after keys }
