-- Internal: who wants to trust the program need not read this file.
-- Values with their features, and those of neighbours that are one.
use Rattle.std.specs.Prelude.{ℕ, ◌&&◌, List, [], ◌∷◌, ◌++◌, flat_map, Option, None, Some, nat_eq, if◌then◌else◌}
use Rattle.sf_features.specs.declared.attr_value.AttrValue.{AttrValue}
use Rattle.sf_features.specs.Features.{FeatureContent, value_in}
use Rattle.sf_features.specs.Values.{same_value}
use Rattle.sf_rules.specs.declared.breaks.Break.{Break}
use Rattle.sf_rules.specs.declared.breaks.Break.TheVariants.{Pair}
use Rattle.sf_rules.specs.declared.digested.Digested.{Digested}
use Rattle.sf_rules.specs.Digests.{digested}

-- a feature's value with its identifier and its number, if it has one
abbrev pub key_with : ℕ → Option AttrValue → List Digested
key_with id None = []
key_with id (Some value) = digested value id ∷ []

-- those of features, in the column of a number
abbrev pub keys_in : ℕ → List (ℕ × FeatureContent) → List Digested
keys_in number features = flat_map (λ entry. key_with entry.0 (value_in number entry.1)) features

-- a feature with the one before it, where both have one value
abbrev pub double_after : Option Digested → Digested → List Break
double_after None second = []
double_after (Some first) second =
    if nat_eq first.digest second.digest && same_value first.key.value second.key.value then Pair first.key.id second.key.id ∷ [] else []

-- each with the one before it
abbrev pub doubles_from : Option Digested → List Digested → List Break
doubles_from last [] = []
doubles_from last (next ∷ rest) = double_after last next ++ doubles_from (Some next) rest
