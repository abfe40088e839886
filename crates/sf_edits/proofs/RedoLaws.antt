-- Edits that are carried out again, from a content that accepts them.
use Rattle.std.proofs.Common.{◌≡◌, ℕ, ◌<◌, Bool, true, false, List, [], ◌∷◌, Option, None, Some, Ok, IsOk, IsOkAnd, IsSome, IsSomeAnd, nat_lt, slice_get, refl, ap, sym, subst, ◌∙◌}
use Rattle.std.proofs.lemmas.Bool.{ltb-true}
use Rattle.std.specs.Option.{option_map_or}
use Rattle.sf_grid.specs.Plane.{Coordinates}
use Rattle.sf_geometry.specs.declared.geometry.Geometry.{Geometry}
use Rattle.sf_geometry.specs.Vertices.{Change, changed, exchange, insert_vertex, insertion, move_vertex, outcome, removal, remove_vertex, vertex_of}
use Rattle.sf_valid_rules.specs.Validity.{IsValid}
use Rattle.sf_valid_rules.specs.Verdicts.{first_fault}
use Rattle.sf_features.specs.Features.{GeometryChange}
use Rattle.sf_layers.specs.Content.{Content, LayerContent, change_at, change_layer, feature_at, feature_of, has_layer, layer_at, layer_of, place_of}
use Rattle.sf_layers.specs.WellFormed.{IsWellFormed, id_end}
use Rattle.sf_steps.specs.declared.edit.Edit.{Edit}
use Rattle.sf_steps.specs.declared.edit.Edit.TheVariants as edits
use Rattle.sf_steps.specs.declared.inverse.Inverse.{Inverse}
use Rattle.sf_steps.specs.declared.inverse.Inverse.TheVariants as inverses
use Rattle.sf_steps.specs.declared.refusal.Refusal.{Refusal}
use Rattle.sf_steps.specs.declared.refusal.Refusal.TheVariants.{IdsExhausted, Invalid, NoFeature, NoLayer, WrongKind}
use Rattle.sf_steps.specs.Laws.{BringsGridPoints}
use Rattle.sf_steps.specs.Steps.{answer, change_check, checks, effect, first_refusal, has_feature, layer_passes, result_of, size_check, step, takes_kind, unless, validity_check, vertex_check}
use Rattle.sf_steps.specs.Inverses.{Carries, inverse_of, no_feature, origin, the_vertex}
use Rattle.sf_steps.proofs.InverseLaws.{next_id-found}
use Rattle.sf_steps.proofs.Judged.{sized, valid}
use Rattle.sf_steps.proofs.Passes.{FeatureThere, FeatureThere-feature_in, changed_to, feature_in-there, passed, passed_fault, there_from_test}
use Rattle.sf_steps.proofs.StepsFine.{effect_fine, none_mapped, outcome-sized, vertex_check-there}
use Rattle.sf_edits.specs.Reverted.{CarriesOrKeeps}
use Rattle.sf_edits.proofs.Carrying.{Carries-done, changed-at, fits-at, layer_at-place_of}
use Rattle.sf_edits.proofs.FeatureLaws.{IsPlaced, at_place, from_place, of_some, placed-at, placed-there, some_is, to_some}
use Rattle.sf_edits.proofs.VertexLaws.{Back, vertex-found}

-- ---- any edit

-- an accepted edit has passed its checks
pub accepted : (content : Content) (edit : Edit) → IsOk (step content edit) → first_refusal (checks content edit) ≡ None
accepted content edit ok = by (first_refusal (checks content edit)) refl ok
  where
    by : (r : Option Refusal) → first_refusal (checks content edit) ≡ r → IsOk (result_of r (effect content edit, answer content edit)) → first_refusal (checks content edit) ≡ None
    by None is h = is
    by (Some refusal) is h = cc

-- its layer is found
pub place-again : (content : Content) (edit : Edit) (name read : List ℕ) (found : Bool) (rest : List (Option Refusal)) → checks content edit ≡ unless (has_layer content name) NoLayer ∷ rest
    → IsOk (step content edit) → read ≡ name → found ≡ has_layer content read → found ≡ true
place-again content edit name read found rest looked ok same is =
    is ∙ ap (has_layer content) same ∙ (passed (has_layer content name) NoLayer rest (ap first_refusal (sym looked) ∙ accepted content edit ok)).0

-- the content after its change of that layer is well formed
pub fits-again : (content : Content) (edit : Edit) (name : List ℕ) (place : ℕ) (f : LayerContent → LayerContent) → effect content edit ≡ change_layer content name f → BringsGridPoints edit
    → IsWellFormed content → IsOk (step content edit) → place ≡ place_of content name → IsWellFormed (change_at place f content)
fits-again content edit name place f effected brings fine ok at =
    fits-at content name place f at (subst IsWellFormed effected (effect_fine content edit brings fine (accepted content edit ok)))

-- and once it is made, the edit is carried out
pub done-again : (content new : Content) (edit : Edit) (inverse : Inverse) (name : List ℕ) (place : ℕ) (f : LayerContent → LayerContent) → effect content edit ≡ change_layer content name f
    → IsWellFormed content → IsOk (step content edit) → place ≡ place_of content name → new ≡ change_at place f content → inverse ≡ inverse_of content edit → Carries content edit (Ok inverse) new
done-again content new edit inverse name place f effected fine ok at is same =
    Carries-done content new edit inverse fine (accepted content edit ok) (effected ∙ sym (changed-at content new name place f at is)) same

pub CarriesOrKeeps-done : (content new : Content) (edit : Edit) (inverse : Inverse) → Carries content edit (Ok inverse) new → CarriesOrKeeps content edit (Ok inverse) new
CarriesOrKeeps-done content new edit inverse carries = record { carried_out = carries; given_back = tt; unchanged = tt }

-- ---- single vertices

-- what comes of an accepted change of a vertex is valid
change-again : (content : Content) (name : List ℕ) (id part ring : ℕ) (change : Change)
    → first_refusal (unless (has_layer content name) NoLayer ∷ unless (has_feature content name id) NoFeature ∷ vertex_check content name id (λ g. outcome (changed change part ring g)) ∷ []) ≡ None
    → Back content name id (λ g. outcome (changed change part ring g))
change-again content name id part ring change h =
    let f : GeometryChange = λ g. outcome (changed change part ring g) in
    let first = passed (has_layer content name) NoLayer _ h in
    let second = passed (has_feature content name id) NoFeature _ first.1 in
    let third = passed_fault (vertex_check content name id f) [] second.1 in
    let t = FeatureThere-feature_in content name id second.0 in
    let checked = vertex_check-there content name id t f third.0 in
    let to = changed_to (f t.feature.geometry) checked in
    let none : first_fault to.0 ≡ None = none_mapped Invalid (first_fault to.0) (sym (ap change_check to.1) ∙ checked) in
    record {
      feature = t.feature;
      held = feature_in-there content name id t;
      valid = subst (λ r. IsOkAnd r IsValid) (sym to.1) (valid to.0 (sized to.0 (outcome-sized (changed change part ring t.feature.geometry) to.0 to.1)) none);
    }

pub inserted-again : (content : Content) (name : List ℕ) (id part ring index : ℕ) (point : Coordinates) → IsOk (step content (edits.InsertVertex name id part ring index point))
    → Back content name id (λ g. insert_vertex g part ring index point)
inserted-again content name id part ring index point ok = change-again content name id part ring (insertion index point) (accepted content (edits.InsertVertex name id part ring index point) ok)

pub moved-again : (content : Content) (name : List ℕ) (id part ring index : ℕ) (point : Coordinates) → IsOk (step content (edits.MoveVertex name id part ring index point))
    → Back content name id (λ g. move_vertex g part ring index point)
moved-again content name id part ring index point ok = change-again content name id part ring (exchange index point) (accepted content (edits.MoveVertex name id part ring index point) ok)

pub removed-again : (content : Content) (name : List ℕ) (id part ring index : ℕ) → IsOk (step content (edits.RemoveVertex name id part ring index)) → Back content name id (λ g. remove_vertex g part ring index)
removed-again content name id part ring index ok = change-again content name id part ring (removal index) (accepted content (edits.RemoveVertex name id part ring index) ok)

-- the vertex that was there
pub vertex-again : (content : Content) (name : List ℕ) (id place part ring index : ℕ) (change : GeometryChange) (old : Coordinates) → place ≡ place_of content name → Back content name id change
    → IsSomeAnd (feature_at content place id) (λ feature. vertex_of feature.geometry part ring index ≡ Some old) → old ≡ the_vertex content name id part ring index
vertex-again content name id place part ring index change old at b was =
    sym (ap (λ o. option_map_or (λ p. p) o origin) (vertex-found content name id place part ring index b.feature old at b.held was))

-- ---- a feature that is added

-- the layer that takes one more feature
pub record Taking (content : Content) (name : List ℕ) : Type 0 where
  pub layer : LayerContent
  pub found : layer_of content name ≡ Some layer
  pub room : layer.next_id < id_end

pub taking : (content : Content) (name : List ℕ) (geometry : Geometry) → IsOk (step content (edits.AddFeature name geometry)) → Taking content name
taking content name geometry ok =
    let first = passed (has_layer content name) NoLayer _ (accepted content (edits.AddFeature name geometry) ok) in
    let second = passed (takes_kind content name geometry) WrongKind _ first.1 in
    let third = passed_fault (size_check geometry) _ second.1 in
    let fourth = passed_fault (validity_check geometry) _ third.1 in
    let fifth = passed (layer_passes content name (λ layer. nat_lt layer.next_id id_end)) IdsExhausted [] fourth.1 in
    let there = there_from_test (layer_of content name) first.0 in
    record {
      layer = there.0;
      found = there.1;
      room = ltb-true there.0.next_id id_end (sym (ap (λ o. option_map_or (λ layer. nat_lt layer.next_id id_end) o false) there.1) ∙ fifth.0);
    }

pub taking-room : (content : Content) (name : List ℕ) (place : ℕ) → Taking content name → place ≡ place_of content name → IsSomeAnd (layer_at content place) (λ layer. layer.next_id < id_end)
taking-room content name place t at =
    to_some (λ layer. layer.next_id < id_end) (layer_at content place) t.layer (ap (layer_at content) at ∙ layer_at-place_of content name ∙ t.found) t.room

pub taking-next : (content : Content) (name : List ℕ) (geometry : Geometry) (place id : ℕ) → Taking content name → place ≡ place_of content name
    → IsSomeAnd (slice_get content place) (λ entry. id ≡ entry.1.next_id) → inverses.TakeFeature name id ≡ inverse_of content (edits.AddFeature name geometry)
taking-next content name geometry place id t at next =
    ap (inverses.TakeFeature name) (from_place content name place t.layer (λ layer. id ≡ layer.next_id) at t.found next ∙ sym (next_id-found content name t.layer t.found))

-- ---- a feature that is taken out

pub deleting : (content : Content) (name : List ℕ) (id place : ℕ) → IsOk (step content (edits.DeleteFeature name id)) → IsWellFormed content → place ≡ place_of content name → IsPlaced content name id place
deleting content name id place ok fine at = record { at = at; passes = accepted content (edits.DeleteFeature name id) ok; fine = fine }

pub deleting-there : (content : Content) (name : List ℕ) (id place : ℕ) → IsPlaced content name id place → IsSomeAnd (slice_get content place) (λ entry. IsSome (feature_of entry.1 id))
deleting-there content name id place p =
    let t = placed-there content name id place p in
    at_place content name place t.layer (λ layer. IsSome (feature_of layer id)) p.at t.found (some_is (feature_of t.layer id) t.feature t.held)

-- ---- a geometry that is put in the place of another

pub replacing-there : (content : Content) (name : List ℕ) (id : ℕ) (geometry : Geometry) → IsOk (step content (edits.ReplaceGeometry name id geometry)) → FeatureThere content name id
replacing-there content name id geometry ok =
    let first = passed (has_layer content name) NoLayer _ (accepted content (edits.ReplaceGeometry name id geometry) ok) in
    FeatureThere-feature_in content name id (passed (has_feature content name id) NoFeature _ first.1).0

pub replacing-at : (content : Content) (name : List ℕ) (id place : ℕ) → FeatureThere content name id → place ≡ place_of content name → IsSome (feature_at content place id)
replacing-at content name id place t at = some_is (feature_at content place id) t.feature (placed-at content name id place t.feature at (feature_in-there content name id t))

pub replacing-old : (content : Content) (name : List ℕ) (id place : ℕ) (geometry old : Geometry) → FeatureThere content name id → place ≡ place_of content name
    → IsSomeAnd (feature_at content place id) (λ feature. old ≡ feature.geometry) → inverses.PutGeometry name id old ≡ inverse_of content (edits.ReplaceGeometry name id geometry)
replacing-old content name id place geometry old t at given =
    let held = feature_in-there content name id t in
    ap (inverses.PutGeometry name id)
    (of_some (λ feature. old ≡ feature.geometry) (feature_at content place id) t.feature (placed-at content name id place t.feature at held) given
    ∙ ap (λ o. (option_map_or (λ f. f) o no_feature).geometry) (sym held))
