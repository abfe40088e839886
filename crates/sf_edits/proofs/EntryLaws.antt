-- A geometry that is put into a layer: how that ends, as its checks turn out, and what takes it back.
use Rattle.std.proofs.Common.{◌≡◌, ℕ, Bool, true, false, List, [], ◌∷◌, ◌++◌, Option, None, Some, is_some, option_map, option_and_then, Ok, Err, IsSome, IsSomeAnd, nat_lt, slice_get, refl, ap, sym, subst, ◌∙◌}
use Rattle.std.specs.Option.{option_map_or}
use Rattle.sf_geometry.specs.declared.geometry.Geometry.{Geometry}
use Rattle.sf_geometry.specs.Kinds.{kind_of}
use Rattle.sf_geometry.specs.Size.{IsSized, size_fault}
use Rattle.sf_valid_rules.specs.Validity.{IsValid}
use Rattle.sf_valid_rules.specs.Verdicts.{first_fault}
use Rattle.sf_valid_rules.specs.declared.fault.Fault.{Fault}
use Rattle.sf_validity.specs.declared.refusal.Refusal.{Refusal as ValidityRefusal}
use Rattle.sf_validity.specs.declared.refusal.Refusal.TheVariants as validities
use Rattle.sf_validity.specs.Refusals.{Refuses as RefusesGeometry}
use Rattle.sf_validity.specs.Held.{IsHeld}
use Rattle.sf_features.specs.Features.{FeatureContent, plain_feature, with_geometry}
use Rattle.sf_layers.specs.Content.{Content, LayerContent, admits, change_at, change_feature, feature_at, feature_in, feature_of, has_layer, layer_at, layer_of, place_of, with_next_feature, without_last_feature}
use Rattle.sf_layers.specs.WellFormed.{IsWellFormed, id_end}
use Rattle.sf_steps.specs.declared.edit.Edit.{Edit}
use Rattle.sf_steps.specs.declared.edit.Edit.TheVariants as edits
use Rattle.sf_steps.specs.declared.inverse.Inverse.TheVariants as inverses
use Rattle.sf_steps.specs.declared.refusal.Refusal.{Refusal}
use Rattle.sf_steps.specs.declared.refusal.Refusal.TheVariants.{IdsExhausted, Invalid, Memory, NoFeature, NoLayer, WrongKind}
use Rattle.sf_steps.specs.Refusals.{from_geometry, from_validity}
use Rattle.sf_steps.specs.Steps.{answer, checks, early_checks, effect, entry_checks, feature_checks, first_refusal, has_feature, later_checks, layer_passes, memory_may_replace, result_of, size_check, takes_kind, unless, validity_check}
use Rattle.sf_steps.specs.Inverses.{Carries, Fits, Reverts, no_edit, no_feature}
use Rattle.sf_steps.proofs.InverseLaws.{next_id-found}
use Rattle.sf_steps.proofs.Judged.{its_fault, no_fault, sized}
use Rattle.sf_steps.proofs.Passes.{FeatureThere-feature_in, passed, passed_fault, there_from_test}
use Rattle.sf_steps.proofs.StepsFine.{effect_fine, none_mapped}
use Rattle.sf_edits.proofs.Carrying.{Carries-done, Carries-refused, Carries-wanting, Reverts-described, changed-at, first_refusal-failed, first_refusal-passed, fits-at, layer_at-place_of}
use Rattle.sf_edits.proofs.FeatureLaws.{at_place, from_place, layer_of-at, of_some, placed-at, some_is}
use Rattle.sf_edits.proofs.There.{feature-there, geometry-there}

-- ---- kind and size

entry-found : (content : Content) (name : List ℕ) (geometry : Geometry) (layer : LayerContent) → layer_of content name ≡ Some layer
    → first_refusal (entry_checks content name geometry) ≡ first_refusal (unless (admits layer.kind (kind_of geometry)) WrongKind ∷ size_check geometry ∷ [])
entry-found content name geometry layer found =
    ap (λ o. first_refusal (unless (option_map_or (λ l. admits l.kind (kind_of geometry)) o false) WrongKind ∷ size_check geometry ∷ [])) found

-- what is looked at before a feature is added, where the layer is there
pub adding-looked : (content : Content) (name : List ℕ) (geometry : Geometry) (place : ℕ) (layer : LayerContent) → place ≡ place_of content name → layer_at content place ≡ Some layer
    → first_refusal (early_checks content (edits.AddFeature name geometry)) ≡ first_refusal (unless (admits layer.kind (kind_of geometry)) WrongKind ∷ size_check geometry ∷ [])
adding-looked content name geometry place layer at there =
    let found = layer_of-at content name place layer at there in
    ap (λ o. first_refusal (unless (is_some o) NoLayer ∷ entry_checks content name geometry)) found ∙ entry-found content name geometry layer found

-- and before a geometry is put in the place of another, where the feature is there
pub replacing-looked : (content : Content) (name : List ℕ) (id : ℕ) (geometry : Geometry) (place : ℕ) (layer : LayerContent) → place ≡ place_of content name → layer_at content place ≡ Some layer
    → first_refusal (feature_checks content name id) ≡ None
    → first_refusal (early_checks content (edits.ReplaceGeometry name id geometry)) ≡ first_refusal (unless (admits layer.kind (kind_of geometry)) WrongKind ∷ size_check geometry ∷ [])
replacing-looked content name id geometry place layer at there passes =
    first_refusal-passed (feature_checks content name id) (entry_checks content name geometry) passes ∙ entry-found content name geometry layer (layer_of-at content name place layer at there)

-- a geometry that has passed the checks of kind and size is sized
entry-sized : (content : Content) (name : List ℕ) (geometry : Geometry) → first_refusal (entry_checks content name geometry) ≡ None → IsSized geometry
entry-sized content name geometry h =
    let first = passed (takes_kind content name geometry) WrongKind _ h in
    sized geometry (none_mapped from_geometry (size_fault geometry) (passed_fault (size_check geometry) [] first.1).0)

pub adding-sized : (content : Content) (name : List ℕ) (geometry : Geometry) → first_refusal (early_checks content (edits.AddFeature name geometry)) ≡ None → IsSized geometry
adding-sized content name geometry h = entry-sized content name geometry (passed (has_layer content name) NoLayer _ h).1

pub replacing-sized : (content : Content) (name : List ℕ) (id : ℕ) (geometry : Geometry) → first_refusal (early_checks content (edits.ReplaceGeometry name id geometry)) ≡ None → IsSized geometry
replacing-sized content name id geometry h =
    entry-sized content name geometry (passed (has_feature content name id) NoFeature _ (passed (has_layer content name) NoLayer _ h).1).1

-- ---- validity

-- the geometry isn't valid, or no memory was found to look
judged-refused : (content : Content) (edit back : Edit) (geometry : Geometry) (given : ValidityRefusal) (early others : List (Option Refusal)) → checks content edit ≡ early ++ validity_check geometry ∷ others
    → ((fault : Fault) → memory_may_replace edit (Err (Invalid fault)) ≡ true) → memory_may_replace edit (result_of (first_refusal others) (effect content edit, answer content edit)) ≡ true
    → first_refusal early ≡ None → IsSized geometry → RefusesGeometry geometry given → back ≡ edit → Carries content edit (Err (back, from_validity given)) content
judged-refused content edit back geometry given early others looked may may_later entered is_sized refuses is = by given refuses
  where
    to : (o : Option Fault) → first_fault geometry ≡ o → first_refusal (checks content edit) ≡ first_refusal (option_map Invalid o ∷ others)
    to o found = ap first_refusal looked ∙ first_refusal-passed early (validity_check geometry ∷ others) entered ∙ ap (λ f. first_refusal (option_map Invalid f ∷ others)) found

    want : (o : Option Fault) → first_fault geometry ≡ o → Carries content edit (Err (back, Memory)) content
    want None none =
        Carries-wanting content content edit back (ap (λ r. memory_may_replace edit (result_of r (effect content edit, answer content edit))) (to None none) ∙ may_later) is refl
    want (Some fault) found =
        Carries-wanting content content edit back (ap (λ r. memory_may_replace edit (result_of r (effect content edit, answer content edit))) (to (Some fault) found) ∙ may fault) is refl

    by : (refusal : ValidityRefusal) → RefusesGeometry geometry refusal → Carries content edit (Err (back, from_validity refusal)) content
    by validities.Memory h = want (first_fault geometry) refl
    by validities.Empty h = absurd h
    by validities.TooManyVertices h = absurd h
    by validities.NoVertex h = absurd h
    by (validities.Invalid fault) h = Carries-refused content content edit back (Invalid fault) (to (Some fault) (its_fault geometry fault is_sized h)) is refl

-- ---- a feature that is added

-- what is known once an identifier was looked for
pub record IsEntered (content : Content) (name : List ℕ) (geometry : Geometry) (place : ℕ) (free : Bool) : Type 0 where
  pub at : place ≡ place_of content name
  pub entered : first_refusal (early_checks content (edits.AddFeature name geometry)) ≡ None
  pub layer : LayerContent
  pub found : layer_of content name ≡ Some layer
  pub is_free : free ≡ nat_lt layer.next_id id_end
  pub fine : IsWellFormed content

pub is-entered : (content : Content) (name read : List ℕ) (geometry : Geometry) (place : ℕ) (free : Bool) → read ≡ name → place ≡ place_of content read → has_layer content read ≡ true
    → first_refusal (early_checks content (edits.AddFeature read geometry)) ≡ None → IsSomeAnd (layer_at content place) (λ layer. free ≡ nat_lt layer.next_id id_end) → IsWellFormed content
    → IsEntered content name geometry place free
is-entered content name read geometry place free same at there entered h fine =
    let at_name : place ≡ place_of content name = at ∙ ap (place_of content) same in
    let layer = there_from_test (layer_of content name) (ap (has_layer content) (sym same) ∙ there) in
    record {
      at = at_name;
      entered = subst (λ n. first_refusal (early_checks content (edits.AddFeature n geometry)) ≡ None) same entered;
      layer = layer.0;
      found = layer.1;
      is_free = of_some (λ l. free ≡ nat_lt l.next_id id_end) (layer_at content place) layer.0 (ap (layer_at content) at_name ∙ layer_at-place_of content name ∙ layer.1) h;
      fine = fine;
    }

-- a check of layer, kind or size fails
pub adding-refused : (content : Content) (name read : List ℕ) (geometry : Geometry) (refusal : Refusal) → read ≡ name → first_refusal (early_checks content (edits.AddFeature read geometry)) ≡ Some refusal
    → Carries content (edits.AddFeature name geometry) (Err (edits.AddFeature name geometry, refusal)) content
adding-refused content name read geometry refusal same failed =
    Carries-refused content content (edits.AddFeature name geometry) (edits.AddFeature name geometry) refusal
    (first_refusal-failed (early_checks content (edits.AddFeature name geometry)) (later_checks content (edits.AddFeature name geometry)) refusal
    (subst (λ n. first_refusal (early_checks content (edits.AddFeature n geometry)) ≡ Some refusal) same failed)) refl refl

pub adding-invalid : (content : Content) (name read : List ℕ) (geometry back : Geometry) (given : ValidityRefusal) → read ≡ name → first_refusal (early_checks content (edits.AddFeature read geometry)) ≡ None
    → RefusesGeometry geometry given → back ≡ geometry → Carries content (edits.AddFeature name geometry) (Err (edits.AddFeature name back, from_validity given)) content
adding-invalid content name read geometry back given same entered refuses is =
    let early : first_refusal (early_checks content (edits.AddFeature name geometry)) ≡ None = subst (λ n. first_refusal (early_checks content (edits.AddFeature n geometry)) ≡ None) same entered in
    judged-refused content (edits.AddFeature name geometry) (edits.AddFeature name back) geometry given (early_checks content (edits.AddFeature name geometry)) (unless passes IdsExhausted ∷ [])
    refl (λ fault. refl) (may passes) early (adding-sized content name geometry early) refuses (ap (edits.AddFeature name) is)
  where
    passes : Bool
    passes = layer_passes content name (λ layer. nat_lt layer.next_id id_end)

    may : (b : Bool) → memory_may_replace (edits.AddFeature name geometry)
        (result_of (first_refusal (unless b IdsExhausted ∷ [])) (effect content (edits.AddFeature name geometry), answer content (edits.AddFeature name geometry))) ≡ true
    may true = refl
    may false = refl

-- the checks, where the geometry is valid
entered-checks : (content : Content) (name : List ℕ) (geometry : Geometry) (place : ℕ) (free : Bool) → IsEntered content name geometry place free → IsValid geometry
    → first_refusal (checks content (edits.AddFeature name geometry)) ≡ first_refusal (unless free IdsExhausted ∷ [])
entered-checks content name geometry place free e valid =
    first_refusal-passed (early_checks content (edits.AddFeature name geometry)) (later_checks content (edits.AddFeature name geometry)) e.entered
    ∙ ap (λ o. first_refusal (option_map Invalid o ∷ unless (layer_passes content name (λ layer. nat_lt layer.next_id id_end)) IdsExhausted ∷ [])) (no_fault geometry valid)
    ∙ ap (λ o. first_refusal (unless (option_map_or (λ layer. nat_lt layer.next_id id_end) o false) IdsExhausted ∷ [])) e.found
    ∙ ap (λ t. first_refusal (unless t IdsExhausted ∷ [])) (sym e.is_free)

entered-passed : (content : Content) (name : List ℕ) (geometry : Geometry) (place : ℕ) (free : Bool) → IsEntered content name geometry place free → IsValid geometry → free ≡ true
    → first_refusal (checks content (edits.AddFeature name geometry)) ≡ None
entered-passed content name geometry place free e valid is = entered-checks content name geometry place free e valid ∙ ap (λ t. first_refusal (unless t IdsExhausted ∷ [])) is

pub entered-exhausted : (content : Content) (name : List ℕ) (geometry back : Geometry) (place : ℕ) (free : Bool) → IsEntered content name geometry place free → IsValid geometry → free ≡ false → back ≡ geometry
    → Carries content (edits.AddFeature name geometry) (Err (edits.AddFeature name back, IdsExhausted)) content
entered-exhausted content name geometry back place free e valid none is =
    Carries-refused content content (edits.AddFeature name geometry) (edits.AddFeature name back) IdsExhausted
    (entered-checks content name geometry place free e valid ∙ ap (λ t. first_refusal (unless t IdsExhausted ∷ [])) none) (ap (edits.AddFeature name) is) refl

pub entered-fits : (content : Content) (name : List ℕ) (geometry : Geometry) (place : ℕ) (free : Bool) (feature : FeatureContent) → IsEntered content name geometry place free
    → IsHeld geometry → free ≡ true → feature ≡ plain_feature geometry → IsWellFormed (change_at place (with_next_feature feature) content)
entered-fits content name geometry place free feature e held is same =
    subst (λ f. IsWellFormed (change_at place (with_next_feature f) content)) (sym same)
    (fits-at content name place (with_next_feature (plain_feature geometry)) e.at
    (effect_fine content (edits.AddFeature name geometry) held.on_grid e.fine (entered-passed content name geometry place free e held.valid is)))

pub entered-done : (content new : Content) (name : List ℕ) (geometry : Geometry) (place id : ℕ) (free : Bool) (feature : FeatureContent) → IsEntered content name geometry place free
    → IsValid geometry → free ≡ true → feature ≡ plain_feature geometry → new ≡ change_at place (with_next_feature feature) content
    → IsSomeAnd (slice_get content place) (λ entry. id ≡ entry.1.next_id) → Carries content (edits.AddFeature name geometry) (Ok (inverses.TakeFeature name id)) new
entered-done content new name geometry place id free feature e valid is same pushed next =
    Carries-done content new (edits.AddFeature name geometry) (inverses.TakeFeature name id) e.fine (entered-passed content name geometry place free e valid is)
    (sym (changed-at content new name place (with_next_feature (plain_feature geometry)) e.at (pushed ∙ ap (λ f. change_at place (with_next_feature f) content) same)))
    (ap (inverses.TakeFeature name) (from_place content name place e.layer (λ layer. id ≡ layer.next_id) e.at e.found next ∙ sym (next_id-found content name e.layer e.found)))

-- ---- and taken off again

-- the layer and the feature of an inverse that takes it off
pub added-layer : (content : Content) (name : List ℕ) (id : ℕ) → Fits content (inverses.TakeFeature name id) → (layer : LayerContent) × ((layer_of content name ≡ Some layer) × IsSome (feature_of layer id))
added-layer content name id fits =
    let t = FeatureThere-feature_in content name id (ap is_some (feature-there content name id fits).1) in
    (t.layer, (t.found, some_is (feature_of t.layer id) t.feature t.held))

pub added-there : (content : Content) (name : List ℕ) (id place : ℕ) → Fits content (inverses.TakeFeature name id) → place ≡ place_of content name
    → IsSomeAnd (slice_get content place) (λ entry. IsSome (feature_of entry.1 id))
added-there content name id place fits at =
    let there = added-layer content name id fits in
    at_place content name place there.0 (λ layer. IsSome (feature_of layer id)) at there.1.0 there.1.1

pub added-undone : (content new : Content) (name : List ℕ) (id place : ℕ) (feature : FeatureContent) (geometry : Geometry) → Fits content (inverses.TakeFeature name id) → place ≡ place_of content name
    → IsSomeAnd (slice_get content place) (λ entry. feature_of entry.1 id ≡ Some feature) → new ≡ change_at place (without_last_feature id) content → geometry ≡ feature.geometry
    → Reverts content (inverses.TakeFeature name id) (edits.AddFeature name geometry) new
added-undone content new name id place feature geometry fits at taken is same =
    let there = added-layer content name id fits in
    let held : feature_in content name id ≡ Some feature =
    ap (option_and_then (λ layer. feature_of layer id)) there.1.0 ∙ from_place content name place there.0 (λ layer. feature_of layer id ≡ Some feature) at there.1.0 taken in
    Reverts-described content new (inverses.TakeFeature name id) (edits.AddFeature name geometry) fits
    (changed-at content new name place (without_last_feature id) at is)
    (ap (edits.AddFeature name) same ∙ sym (ap (λ o. option_map_or (λ f. edits.AddFeature name f.geometry) o no_edit) held))

-- ---- a geometry that is put in the place of another

pub record IsReplaced (content : Content) (name : List ℕ) (id : ℕ) (geometry : Geometry) (place : ℕ) : Type 0 where
  pub at : place ≡ place_of content name
  pub entered : first_refusal (early_checks content (edits.ReplaceGeometry name id geometry)) ≡ None
  pub fine : IsWellFormed content

pub is-replaced : (content : Content) (name read : List ℕ) (id : ℕ) (geometry : Geometry) (place : ℕ) → read ≡ name → place ≡ place_of content read
    → first_refusal (early_checks content (edits.ReplaceGeometry read id geometry)) ≡ None → IsWellFormed content → IsReplaced content name id geometry place
is-replaced content name read id geometry place same at entered fine = record {
  at = at ∙ ap (place_of content) same;
  entered = subst (λ n. first_refusal (early_checks content (edits.ReplaceGeometry n id geometry)) ≡ None) same entered;
  fine = fine;
}

pub replacing-refused : (content : Content) (name read : List ℕ) (id : ℕ) (geometry : Geometry) (refusal : Refusal) → read ≡ name
    → first_refusal (early_checks content (edits.ReplaceGeometry read id geometry)) ≡ Some refusal
    → Carries content (edits.ReplaceGeometry name id geometry) (Err (edits.ReplaceGeometry name id geometry, refusal)) content
replacing-refused content name read id geometry refusal same failed =
    Carries-refused content content (edits.ReplaceGeometry name id geometry) (edits.ReplaceGeometry name id geometry) refusal
    (first_refusal-failed (early_checks content (edits.ReplaceGeometry name id geometry)) (later_checks content (edits.ReplaceGeometry name id geometry)) refusal
    (subst (λ n. first_refusal (early_checks content (edits.ReplaceGeometry n id geometry)) ≡ Some refusal) same failed)) refl refl

pub replacing-invalid : (content : Content) (name : List ℕ) (id : ℕ) (geometry back : Geometry) (place : ℕ) (given : ValidityRefusal) → IsReplaced content name id geometry place
    → RefusesGeometry geometry given → back ≡ geometry → Carries content (edits.ReplaceGeometry name id geometry) (Err (edits.ReplaceGeometry name id back, from_validity given)) content
replacing-invalid content name id geometry back place given r refuses is =
    judged-refused content (edits.ReplaceGeometry name id geometry) (edits.ReplaceGeometry name id back) geometry given (early_checks content (edits.ReplaceGeometry name id geometry)) []
    refl (λ fault. refl) refl r.entered (replacing-sized content name id geometry r.entered) refuses (ap (edits.ReplaceGeometry name id) is)

replaced-passed : (content : Content) (name : List ℕ) (id : ℕ) (geometry : Geometry) (place : ℕ) → IsReplaced content name id geometry place → IsValid geometry
    → first_refusal (checks content (edits.ReplaceGeometry name id geometry)) ≡ None
replaced-passed content name id geometry place r valid =
    first_refusal-passed (early_checks content (edits.ReplaceGeometry name id geometry)) (later_checks content (edits.ReplaceGeometry name id geometry)) r.entered
    ∙ ap (λ o. first_refusal (option_map Invalid o ∷ [])) (no_fault geometry valid)

pub replaced-fits : (content : Content) (name : List ℕ) (id : ℕ) (geometry valid : Geometry) (place : ℕ) → IsReplaced content name id geometry place → IsHeld geometry → valid ≡ geometry
    → IsWellFormed (change_at place (change_feature id (with_geometry valid)) content)
replaced-fits content name id geometry valid place r held same =
    subst (λ g. IsWellFormed (change_at place (change_feature id (with_geometry g)) content)) (sym same)
    (fits-at content name place (change_feature id (with_geometry geometry)) r.at
    (effect_fine content (edits.ReplaceGeometry name id geometry) held.on_grid r.fine (replaced-passed content name id geometry place r held.valid)))

pub replaced-done : (content new : Content) (name : List ℕ) (id : ℕ) (geometry valid old : Geometry) (place : ℕ) → IsReplaced content name id geometry place → IsValid geometry → valid ≡ geometry
    → IsSomeAnd (feature_at content place id) (λ feature. old ≡ feature.geometry) → new ≡ change_at place (change_feature id (with_geometry valid)) content
    → Carries content (edits.ReplaceGeometry name id geometry) (Ok (inverses.PutGeometry name id old)) new
replaced-done content new name id geometry valid old place r is_valid same given is =
    let t = FeatureThere-feature_in content name id (passed (has_feature content name id) NoFeature _ (passed (has_layer content name) NoLayer _ r.entered).1).0 in
    let held : feature_in content name id ≡ Some t.feature = ap (option_and_then (λ layer. feature_of layer id)) t.found ∙ t.held in
    Carries-done content new (edits.ReplaceGeometry name id geometry) (inverses.PutGeometry name id old) r.fine (replaced-passed content name id geometry place r is_valid)
    (sym (changed-at content new name place (change_feature id (with_geometry geometry)) r.at (is ∙ ap (λ g. change_at place (change_feature id (with_geometry g)) content) same)))
    (ap (inverses.PutGeometry name id)
    (of_some (λ feature. old ≡ feature.geometry) (feature_at content place id) t.feature (placed-at content name id place t.feature r.at held) given
    ∙ ap (λ o. (option_map_or (λ f. f) o no_feature).geometry) (sym held)))

-- ---- and put back

pub replaced-there : (content : Content) (name : List ℕ) (id place : ℕ) (old : Geometry) → Fits content (inverses.PutGeometry name id old) → place ≡ place_of content name → IsSome (feature_at content place id)
replaced-there content name id place old fits at =
    let there = geometry-there content name id old fits in
    some_is (feature_at content place id) there.0 (placed-at content name id place there.0 at there.1)

pub replaced-undone : (content new : Content) (name : List ℕ) (id place : ℕ) (old valid geometry : Geometry) → Fits content (inverses.PutGeometry name id old) → place ≡ place_of content name
    → IsSomeAnd (feature_at content place id) (λ feature. valid ≡ feature.geometry) → new ≡ change_at place (change_feature id (with_geometry old)) content → geometry ≡ valid
    → Reverts content (inverses.PutGeometry name id old) (edits.ReplaceGeometry name id geometry) new
replaced-undone content new name id place old valid geometry fits at given is same =
    let there = geometry-there content name id old fits in
    Reverts-described content new (inverses.PutGeometry name id old) (edits.ReplaceGeometry name id geometry) fits
    (changed-at content new name place (change_feature id (with_geometry old)) at is)
    (ap (edits.ReplaceGeometry name id)
    (same ∙ of_some (λ feature. valid ≡ feature.geometry) (feature_at content place id) there.0 (placed-at content name id place there.0 at there.1) given)
    ∙ sym (ap (λ o. option_map_or (λ f. edits.ReplaceGeometry name id f.geometry) o no_edit) there.1))
