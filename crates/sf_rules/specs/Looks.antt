-- Internal: who wants to trust the program need not read this file.
-- Which breaks are looked at after a change, between two layers: by the features that were changed, and by those beside them.
use Rattle.std.specs.Prelude.{◌≡◌, ℕ, Bool, true, false, not, ◌&&◌, List, [], ◌∷◌, ◌++◌, map, filter, flat_map, Option, None, Some, bytes_eq, nat_eq, nat_lt, if◌then◌else◌}
use Rattle.std.specs.List.{list_any}
use Rattle.sf_patches.specs.declared.slot.Slot.{Slot}
use Rattle.sf_patches.specs.declared.slot.Slot.TheVariants.{Counter, State}
use Rattle.sf_rules.specs.declared.between.Between.{Between}
use Rattle.sf_rules.specs.Leaving.{is_leaving}
use Rattle.sf_geometry.specs.declared.geometry.Geometry.{Geometry}
use Rattle.sf_features.specs.Features.{FeatureContent}
use Rattle.sf_layers.specs.Content.{LayerContent, feature_of}
use Rattle.sf_layers.specs.WellFormed.{IsLayer}
use Rattle.sf_joins.specs.Converse.{IsPairAsk, converse_pair}
use Rattle.sf_joins.specs.Joins.{are_distinct}
use Rattle.sf_known.specs.Patterns.{letter_character}
use Rattle.sf_known.specs.declared.letter.Letter.{Letter}
use Rattle.sf_known.specs.declared.predicate.Predicate.TheVariants.{Contains, Within}
use Rattle.sf_joins.specs.Passed.{PairAsk}
use Rattle.sf_joins.specs.Passed.{Matrix, Near}
use Rattle.sf_joins.specs.Passed.{Ask}
use Rattle.sf_joins.specs.Passed.{Matching, Named}
use Rattle.sf_joins.specs.Passed.{ids_asked}
use Rattle.sf_rules.specs.declared.breaks.Break.{Break}
use Rattle.sf_rules.specs.declared.rule.Form.{Form}
use Rattle.sf_rules.specs.declared.rule.Form.TheVariants.{Never, Each}
use Rattle.sf_rules.specs.declared.breaks.Break.TheVariants.{Pair, Alone}

-- what will stand under an identifier of a layer
abbrev pub staying : LayerContent → List Slot → ℕ → ℕ → Option FeatureContent
staying layer leaving place id = if is_leaving leaving place id then None else feature_of layer id

-- whether two features that are as asked, one of each layer, break a rule that forbids it: they are distinct, and the second one stays
abbrev pub is_partner : Between → ℕ → ℕ → Bool
is_partner between i j = are_distinct between.one i j && not (is_leaving between.leaving.now between.second_place j)

-- or the first one stays
abbrev pub is_partnered : Between → ℕ → ℕ → Bool
is_partnered between j i = are_distinct between.one i j && not (is_leaving between.leaving.now between.first_place i)

-- the features of the second layer that are as asked with one of the first
abbrev pub partners : Between → Geometry → List ℕ
partners between geometry = ids_asked between.second.now between.converse geometry

-- the features of the first layer that are as asked with one of the second
abbrev pub partnered : Between → Geometry → List ℕ
partnered between geometry = ids_asked between.first.now between.ask geometry

-- ---- two features that are as asked

-- the pairs with a feature of the first layer
abbrev pub pairs_with : Between → ℕ → Geometry → List Break
pairs_with between i geometry = map (λ j. Pair i j) (filter (is_partner between i) (partners between geometry))

-- the pairs with a feature of the second layer
abbrev pub pairs_beside : Between → ℕ → Geometry → List Break
pairs_beside between j geometry = map (λ i. Pair i j) (filter (is_partnered between j) (partnered between geometry))

abbrev pub pairs_with_some : Between → ℕ → Option FeatureContent → List Break
pairs_with_some between i None = []
pairs_with_some between i (Some feature) = pairs_with between i feature.geometry

abbrev pub pairs_beside_some : Between → ℕ → Option FeatureContent → List Break
pairs_beside_some between j None = []
pairs_beside_some between j (Some feature) = pairs_beside between j feature.geometry

-- the pairs with what stands under an identifier of a place, as a feature of the first layer
abbrev pub pairs_first : Between → ℕ → ℕ → List Break
pairs_first between place id =
    if nat_eq place between.first_place then pairs_with_some between id (staying between.first.now between.leaving.now place id) else []

-- and as one of the second
abbrev pub pairs_second : Between → ℕ → ℕ → List Break
pairs_second between place id =
    if nat_eq place between.second_place then pairs_beside_some between id (staying between.second.now between.leaving.now place id) else []

-- the pairs with a changed feature
abbrev pub pairs_of_slot : Between → Slot → List Break
pairs_of_slot between (Counter place next_id) = []
pairs_of_slot between (State place id state) = pairs_first between place id ++ pairs_second between place id

-- nine letters ask the same of two geometries either way round
abbrev pub is_symmetric : List Letter → Bool
is_symmetric (ii ∷ ib ∷ ie ∷ bi ∷ bb ∷ be ∷ ei ∷ eb ∷ rest) =
    bytes_eq (letter_character ib ∷ []) (letter_character bi ∷ []) && bytes_eq (letter_character ie ∷ []) (letter_character ei ∷ [])
    && bytes_eq (letter_character be ∷ []) (letter_character eb ∷ [])
is_symmetric letters = false

-- an ask is its own converse
abbrev pub is_own_converse : Ask → Bool
is_own_converse (Matching letters) = is_symmetric letters
is_own_converse (Named Within) = false
is_own_converse (Named Contains) = false
is_own_converse (Named predicate) = true

-- so is what is asked of two features: how far apart they are is so either way round
abbrev pub is_mutual_ask : PairAsk → Bool
is_mutual_ask (Matrix ask) = is_own_converse ask
is_mutual_ask (Near reach) = true

-- a pair of two features of one layer is as asked from either side, and none leaves
pub record IsMutual (between : Between) : Type 0 where
  pub one : between.one ≡ true
  pub same : between.second.now ≡ between.first.now
  pub own : between.converse ≡ between.ask
  pub turned : between.converse ≡ converse_pair between.ask
  pub askable : IsPairAsk between.ask
  pub leaves : between.leaving.now ≡ []
  pub fine : IsLayer between.first.now

-- the pairs with a feature behind one
abbrev pub pairs_behind : Between → ℕ → Geometry → List Break
pairs_behind between i geometry = map (λ j. Pair i j) (filter (λ j. nat_lt i j) (partners between geometry))

-- ---- a feature without a partner

-- whether a feature of the first layer will have a partner
abbrev pub has_partner : Between → ℕ → Geometry → Bool
has_partner between i geometry = list_any (is_partner between i) (partners between geometry)

-- the break of a feature of the first layer, if it will have none
abbrev pub alone_if : Between → ℕ → Option FeatureContent → List Break
alone_if between i None = []
alone_if between i (Some feature) = if has_partner between i feature.geometry then [] else Alone i ∷ []

abbrev pub alone_at : Between → ℕ → List Break
alone_at between i = alone_if between i (staying between.first.now between.leaving.now between.first_place i)

-- the breaks of the features of the first layer that are as asked with a feature that stands or stood in the second
abbrev pub alone_beside : Between → Option FeatureContent → List Break
alone_beside between None = []
alone_beside between (Some feature) = flat_map (alone_at between) (partnered between feature.geometry)

abbrev pub alone_first : Between → ℕ → ℕ → List Break
alone_first between place id = if nat_eq place between.first_place then alone_at between id else []

abbrev pub alone_second : Between → ℕ → Option FeatureContent → List Break
alone_second between place state = if nat_eq place between.second_place then alone_beside between state else []

-- the breaks of a changed feature, and of those beside what it was
abbrev pub alone_of_slot : Between → Slot → List Break
alone_of_slot between (Counter place next_id) = []
alone_of_slot between (State place id state) = alone_first between place id ++ alone_second between place state

-- the breaks beside a feature that is still to be removed
abbrev pub alone_of_leaving : Between → Slot → List Break
alone_of_leaving between (Counter place next_id) = []
alone_of_leaving between (State place id state) = alone_second between place (feature_of between.second.now id)

-- ---- all that are looked at

abbrev pub pairs_looked_at : Between → List Slot → List Break
pairs_looked_at between made = flat_map (pairs_of_slot between) made

abbrev pub alone_looked_at : Between → List Slot → List Break
alone_looked_at between made = flat_map (alone_of_slot between) made ++ flat_map (alone_of_leaving between) between.leaving.now

-- by the form of a rule
abbrev pub looked_at : Form → Between → List Slot → List Break
looked_at Never between made = pairs_looked_at between made
looked_at Each between made = alone_looked_at between made

-- ---- of all features

-- the pairs of an entry of the first layer
abbrev pub pairs_of_entry : Between → ℕ × FeatureContent → List Break
pairs_of_entry between entry = pairs_with between entry.0 entry.1.geometry

-- the break of an entry of the first layer, if it has no partner
abbrev pub alone_of_entry : Between → ℕ × FeatureContent → List Break
alone_of_entry between entry = alone_if between entry.0 (Some entry.1)
