-- Internal: who wants to trust the program need not read this file.
-- How a store finds the layer of a name: each layer has a number of its own, which never changes.
use Rattle.std.specs.Prelude.{◌≡◌, ℕ, ◌<◌, List, map, Option, bytes_eq}
use Rattle.std.specs.List.{AllByRecursion}
use Rattle.std.specs.Map.{lookup, keys_of, values_of}
use Rattle.sf_layers.specs.Content.{LayerContent}
use Rattle.sf_layers.specs.WellFormed.{IsWellFormed}

-- the layers in order, each under its number with its name
abbrev pub Numbered : Type 0
Numbered = List (ℕ × (List ℕ × LayerContent))

-- the numbers by name, in the order of the layers
abbrev pub numbers_of : Numbered → List (List ℕ × ℕ)
numbers_of entries = map (λ entry. (entry.1.0, entry.0)) entries

-- numbers and layers fit together: the content is well formed, each name is found under its layer's
-- number, and all numbers are below the next one
pub record IsNumbered (number : List ℕ → Option ℕ) (entries : Numbered) (next : ℕ) : Type 0 where
  pub well_formed : IsWellFormed (values_of entries)
  pub found : (name : List ℕ) → number name ≡ lookup (bytes_eq name) (numbers_of entries)
  pub below : AllByRecursion (λ number. number < next) (keys_of entries)
