-- Internal: who wants to trust the program need not read this file.
-- What is near a change: features that were changed, and those whose boxes meet the box of one as it was.
use Rattle.std.specs.Prelude.{◌≡◌, ℕ, Bool, false, true, ◌&&◌, ◌||◌, List, filter, flat_map, map, None, nat_eq, if◌then◌else◌}
use Rattle.std.specs.List.{list_any}
use Rattle.std.specs.Map.{keys_of}
use Rattle.std.specs.Option.{option_map_or}
use Rattle.sf_geometry.specs.declared.geometry.Geometry.{Geometry}
use Rattle.sf_geometry.specs.Envelope.{envelope_of, extents_meet}
use Rattle.sf_features.specs.Features.{FeatureContent}
use Rattle.sf_layers.specs.Content.{LayerContent, feature_of}
use Rattle.sf_layers.specs.WellFormed.{IsLayer}
use Rattle.sf_joins.specs.Passed.{PairAsk}
use Rattle.sf_joins.specs.Passed.{pair_needs_contact}
use Rattle.sf_joins.specs.Joins.{is_pair}
use Rattle.sf_rules.specs.declared.rule.Form.TheVariants.{Each, Never}
use Rattle.sf_rules.specs.Rules.{alone_break, breaks_between, first_of, lacks_partner, pair_break}

-- identifiers of features that were changed, put in or removed
abbrev pub Changed : Type 0
Changed = List ℕ

abbrev pub is_changed : Changed → ℕ → Bool
is_changed changed id = list_any (nat_eq id) changed

-- outside of the changed identifiers two layers have the same features
abbrev pub KeepsOthers : LayerContent → LayerContent → Changed → Type 0
KeepsOthers old new changed = (id : ℕ) → is_changed changed id ≡ false → feature_of new id ≡ feature_of old id

-- the box of the geometry meets that of a feature that stood there before the change
abbrev pub was_near : LayerContent → Changed → Geometry → Bool
was_near old changed geometry =
    list_any (λ id. option_map_or (λ feature. extents_meet (envelope_of geometry) (envelope_of feature.geometry)) (feature_of old id) false) changed

-- the pairs of which one is changed: all others stood there when the rule held
abbrev pub changed_pairs : Bool → LayerContent → PairAsk → LayerContent → Changed → Changed → List (ℕ × ℕ)
changed_pairs one first ask second of_first of_second =
    flat_map (λ a. map (λ b. (a.0, b.0)) (filter (λ b. (is_changed of_first a.0 || is_changed of_second b.0) && is_pair one ask a b) second.features)) first.features

-- the features of the first layer that may have lost their partner: those that are changed, and those that were near one of the
-- second that is; where the ask needs no contact, as one for what is near, all
abbrev pub may_be_alone : PairAsk → LayerContent → Changed → Changed → ℕ × FeatureContent → Bool
may_be_alone ask old_second of_first of_second a =
    if pair_needs_contact ask then is_changed of_first a.0 || was_near old_second of_second a.1.geometry else true

abbrev pub alone_near : Bool → LayerContent → PairAsk → LayerContent → LayerContent → Changed → Changed → List ℕ
alone_near one first ask old_second second of_first of_second =
    keys_of (filter (λ a. may_be_alone ask old_second of_first of_second a && lacks_partner one ask second a) first.features)

-- of a rule that held, the first break after a change is among the features that were changed, and those that are near
abbrev pub BreaksAreNear : Type 0
BreaksAreNear =
    (one : Bool) (old_first first old_second second : LayerContent) (ask : PairAsk) (of_first of_second : Changed)
    → IsLayer old_first → IsLayer first → IsLayer old_second → IsLayer second
    → KeepsOthers old_first first of_first → KeepsOthers old_second second of_second
    → (first_of (breaks_between Never one old_first ask old_second) ≡ None
    → first_of (breaks_between Never one first ask second) ≡ first_of (map pair_break (changed_pairs one first ask second of_first of_second)))
    × (first_of (breaks_between Each one old_first ask old_second) ≡ None
    → first_of (breaks_between Each one first ask second) ≡ first_of (map alone_break (alone_near one first ask old_second second of_first of_second)))
