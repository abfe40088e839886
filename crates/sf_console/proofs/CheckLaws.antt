-- What `check` answers is what the addition would be refused for, and where the geometry is wrong.
use Rattle.std.proofs.Common.{◌≡◌, ℕ, Bool, true, false, List, [], ◌∷◌, ◌++◌, Option, None, Some, is_some, option_map, nat_lt, ◌⊎◌, inl, inr, refl, ap, sym, ◌∙◌}
use Rattle.std.specs.Option.{option_map_or}
use Rattle.sf_refusals.specs.declared.refusal.Refusal.TheVariants.{Memory as StoreMemory}
use Rattle.sf_geometry.specs.declared.geometry.Geometry.{Geometry}
use Rattle.sf_geometry.specs.declared.refusal.Refusal.{Refusal as GeometryRefusal}
use Rattle.sf_geometry.specs.Kinds.{kind_of}
use Rattle.sf_geometry.specs.Size.{size_fault}
use Rattle.sf_valid_rules.specs.declared.fault.Fault.{Fault}
use Rattle.sf_valid_rules.specs.Faults.{refusal_of as refusal_of_fault}
use Rattle.sf_valid_rules.specs.Validity.{IsValid}
use Rattle.sf_valid_rules.specs.Verdicts.{first_fault}
use Rattle.sf_validity.specs.declared.refusal.Refusal.{Refusal as ValidityRefusal}
use Rattle.sf_validity.specs.declared.refusal.Refusal.TheVariants as validities
use Rattle.sf_validity.specs.Refusals.{Refuses}
use Rattle.sf_faults.specs.declared.place.Place.{Place}
use Rattle.sf_faults.specs.Places.{IsPlaceOf}
use Rattle.sf_faults.proofs.ComputedLaws.{place-over_plane}
use Rattle.sf_layers.specs.Content.{Content, LayerContent, admits, layer_of}
use Rattle.sf_layers.specs.WellFormed.{id_end}
use Rattle.sf_steps.specs.declared.edit.Edit.TheVariants as edits
use Rattle.sf_steps.specs.declared.refusal.Refusal.{Refusal}
use Rattle.sf_steps.specs.declared.refusal.Refusal.TheVariants.{IdsExhausted, Invalid, Memory, NoLayer, WrongKind}
use Rattle.sf_steps.specs.Refusals.{from_geometry, from_validity}
use Rattle.sf_steps.specs.Steps.{answer, checks, effect, first_refusal, result_of, unless}
use Rattle.sf_steps.proofs.Judged.{its_fault, no_fault, sized}
use Rattle.sf_console.specs.Answers.{line, refusal_line}
use Rattle.sf_console.specs.Checks.{checked, place_words, refusal_words, refused_words, tried_words}

-- the checks of an addition to a layer that is there, by what is found of each
abbrev found_by : Bool → Option GeometryRefusal → Option Fault → Bool → Option Refusal
found_by admitted size fault free =
    first_refusal (unless admitted WrongKind ∷ option_map from_geometry size ∷ option_map Invalid fault ∷ unless free IdsExhausted ∷ [])

-- what is known of an addition, the layer of whose name is there
pub record IsTried (content : Content) (name : List ℕ) (geometry : Geometry) (layer : LayerContent) : Type 0 where
  pub found : layer_of content name ≡ Some layer
  pub admitted : admits layer.kind (kind_of geometry) ≡ true
  pub size : size_fault geometry ≡ None

tried-by : (content : Content) (name : List ℕ) (geometry : Geometry) (layer : LayerContent) → IsTried content name geometry layer
    → first_refusal (checks content (edits.AddFeature name geometry)) ≡ found_by true None (first_fault geometry) (nat_lt layer.next_id id_end)
tried-by content name geometry layer tried =
    let free = nat_lt layer.next_id id_end in
    ap (λ o. first_refusal (unless (is_some o) NoLayer ∷ unless (option_map_or (λ l. admits l.kind (kind_of geometry)) o false) WrongKind
    ∷ option_map from_geometry (size_fault geometry) ∷ option_map Invalid (first_fault geometry) ∷ unless (option_map_or (λ l. nat_lt l.next_id id_end) o false) IdsExhausted ∷ [])) tried.found
    ∙ ap (λ a. found_by a (size_fault geometry) (first_fault geometry) free) tried.admitted
    ∙ ap (λ s. found_by true s (first_fault geometry) free) tried.size

-- the geometry is valid, and the layer has an identifier left, or none
pub tried-valid : (content : Content) (name : List ℕ) (geometry : Geometry) (layer : LayerContent) (free : Bool) → IsTried content name geometry layer → IsValid geometry → free ≡ nat_lt layer.next_id id_end
    → first_refusal (checks content (edits.AddFeature name geometry)) ≡ unless free IdsExhausted
tried-valid content name geometry layer true tried valid is =
    tried-by content name geometry layer tried ∙ ap (λ f. found_by true None f (nat_lt layer.next_id id_end)) (no_fault geometry valid) ∙ ap (λ b. found_by true None None b) (sym is)
tried-valid content name geometry layer false tried valid is =
    tried-by content name geometry layer tried ∙ ap (λ f. found_by true None f (nat_lt layer.next_id id_end)) (no_fault geometry valid) ∙ ap (λ b. found_by true None None b) (sym is)

-- the geometry has a fault, or no memory was found to look
pub tried-refused : (content : Content) (name : List ℕ) (geometry : Geometry) (layer : LayerContent) (given : ValidityRefusal) → IsTried content name geometry layer → Refuses geometry given
    → (from_validity given ≡ Memory) ⊎ (first_refusal (checks content (edits.AddFeature name geometry)) ≡ Some (from_validity given))
tried-refused content name geometry layer validities.Memory tried refuses = inl refl
tried-refused content name geometry layer validities.Empty tried refuses = absurd refuses
tried-refused content name geometry layer validities.TooManyVertices tried refuses = absurd refuses
tried-refused content name geometry layer validities.NoVertex tried refuses = absurd refuses
tried-refused content name geometry layer (validities.Invalid fault) tried refuses =
    inr (tried-by content name geometry layer tried ∙ ap (λ f. found_by true None f (nat_lt layer.next_id id_end)) (its_fault geometry fault (sized geometry tried.size) refuses))

-- the line of a fault of shape with its place is that of the refusal
pub place-told : (geometry : Geometry) (refusal : Refusal) (fault : Fault) (place : Option Place) (text : List ℕ) → refusal ≡ Invalid fault → IsPlaceOf geometry fault place
    → text ≡ line (refusal_words (refusal_of_fault fault) ++ option_map_or place_words place []) → text ≡ line (refused_words geometry refusal)
place-told geometry refusal fault place text invalid here is =
    is
    ∙ ap (λ p. line (refusal_words (refusal_of_fault fault) ++ option_map_or place_words p [])) ((place-over_plane geometry fault).only place here)
    ∙ sym (ap (λ r. line (refused_words geometry r)) invalid)

-- and the line of the refusal is what `check` answers
pub refused-told : (content : Content) (name read : List ℕ) (geometry : Geometry) (refusal : Refusal) (text : List ℕ) → read ≡ name
    → (refusal ≡ Memory) ⊎ (first_refusal (checks content (edits.AddFeature read geometry)) ≡ Some refusal)
    → (text ≡ line (refused_words geometry refusal)) ⊎ (text ≡ refusal_line StoreMemory) → (text ≡ line (checked content name geometry)) ⊎ (text ≡ refusal_line StoreMemory)
refused-told content name read geometry refusal text same known (inr is) = inr is
refused-told content name read geometry refusal text same (inl memory) (inl is) = inr (is ∙ ap (λ r. line (refused_words geometry r)) memory)
refused-told content name read geometry refusal text same (inr first) (inl is) =
    inl (is
    ∙ sym (ap (λ r. line (tried_words geometry (result_of r (effect content (edits.AddFeature read geometry), answer content (edits.AddFeature read geometry))))) first)
    ∙ ap (λ n. line (checked content n geometry)) same)
