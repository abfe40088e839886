-- The edits of single vertices, and what takes them back.
use Rattle.std.proofs.Common.{◌≡◌, ℕ, true, List, [], ◌∷◌, ◌++◌, Option, None, Some, is_some, option_map, option_and_then, Result, Ok, Err, IsOkAnd, IsSomeAnd, refl, ap, sym, subst, ◌∙◌}
use Rattle.std.specs.Option.{option_map_or}
use Rattle.sf_grid.specs.Plane.{Coordinates}
use Rattle.sf_geometry.specs.declared.geometry.Geometry.{Geometry}
use Rattle.sf_geometry.specs.declared.refusal.Refusal.{Refusal as GeometryRefusal}
use Rattle.sf_geometry.specs.Vertices.{Change, changed, insert_vertex, move_vertex, outcome, remove_vertex, vertex_of}
use Rattle.sf_valid_rules.specs.Validity.{IsValid}
use Rattle.sf_valid_rules.specs.Verdicts.{first_fault}
use Rattle.sf_valid_rules.specs.declared.fault.Fault.{Fault}
use Rattle.sf_validity.specs.Held.{IsHeld}
use Rattle.sf_validity.specs.Refusals.{RefusesChange, Refuses as RefusesGeometry}
use Rattle.sf_validity.specs.declared.refusal.Refusal.{Refusal as ValidityRefusal}
use Rattle.sf_validity.specs.declared.refusal.Refusal.TheVariants as validities
use Rattle.sf_features.specs.Features.{FeatureContent, GeometryChange, change_geometry, result_or}
use Rattle.sf_layers.specs.Content.{Content, LayerContent, change_at, change_feature, change_in, feature_at, feature_in, layer_of, place_of}
use Rattle.sf_layers.specs.WellFormed.{IsWellFormed}
use Rattle.sf_steps.specs.declared.edit.Edit.{Edit}
use Rattle.sf_steps.specs.declared.edit.Edit.TheVariants as edits
use Rattle.sf_steps.specs.declared.inverse.Inverse.{Inverse}
use Rattle.sf_steps.specs.declared.inverse.Inverse.TheVariants as inverses
use Rattle.sf_steps.specs.declared.refusal.Refusal.{Refusal}
use Rattle.sf_steps.specs.declared.refusal.Refusal.TheVariants.{Invalid, Memory}
use Rattle.sf_steps.specs.Refusals.{from_geometry, from_validity}
use Rattle.sf_steps.specs.Steps.{answer, change_check, checks, effect, feature_checks, first_refusal, memory_may_replace, result_of, vertex_check}
use Rattle.sf_steps.specs.Inverses.{Carries, Fits, Reverts, RevertsOrKeeps, described, inverse_of, no_edit, taken_back, the_vertex, vertex_in}
use Rattle.sf_steps.proofs.FeaturesBack.{IsFeature-there}
use Rattle.sf_steps.proofs.InverseLaws.{Vertex, Vertex-passed, feature_in-changed, the_vertex-there, whole_at}
use Rattle.sf_steps.proofs.Judged.{its_fault, no_fault, no_size_fault, sized}
use Rattle.sf_steps.proofs.Passes.{FeatureThere-feature_in, feature_in-there}
use Rattle.sf_steps.proofs.StepsFine.{outcome-sized}
use Rattle.sf_steps.proofs.VerticesAgain.{removed_vertex, was_vertex}
use Rattle.sf_steps.proofs.VerticesBack.{insert_vertex-back, move_vertex-back, remove_vertex-back}
use Rattle.sf_edits.proofs.Carrying.{Accepted-Fits, Carries-done, Carries-memory, Carries-refused, Carries-wanting, Reverts-described, RevertsOrKeeps-described, changed-at, first_refusal-failed, first_refusal-passed}
use Rattle.sf_edits.proofs.FeatureLaws.{IsPlaced, of_some, placed-at, placed-there, to_some}
use Rattle.sf_edits.proofs.There.{inserted-there, moved-there}

-- ---- carried out

-- the checks of an edit of a vertex
abbrev vertex_checks : Content → List ℕ → ℕ → GeometryChange → List (Option Refusal)
vertex_checks content name id change = feature_checks content name id ++ vertex_check content name id change ∷ []

alone : (check : Option Refusal) → first_refusal (check ∷ []) ≡ check
alone None = refl
alone (Some refusal) = refl

-- once the feature is found, they are those of what comes of its geometry
checks-placed : (content : Content) (name : List ℕ) (id place : ℕ) (change : GeometryChange) (p : IsPlaced content name id place)
    → first_refusal (vertex_checks content name id change) ≡ change_check (change (placed-there content name id place p).feature.geometry)
checks-placed content name id place change p =
    let t = placed-there content name id place p in
    first_refusal-passed (feature_checks content name id) (vertex_check content name id change ∷ []) p.passes
    ∙ alone (vertex_check content name id change)
    ∙ ap (option_and_then (λ feature. change_check (change feature.geometry))) (feature_in-there content name id t)

placed-feature : (content : Content) (name : List ℕ) (id place : ℕ) (P : FeatureContent → Type 0) (p : IsPlaced content name id place) → IsSomeAnd (feature_at content place id) P → P (placed-there content name id place p).feature
placed-feature content name id place P p h =
    let t = placed-there content name id place p in
    of_some P (feature_at content place id) t.feature (placed-at content name id place t.feature p.at (feature_in-there content name id t)) h

-- what comes of the change is valid
checks-valid : (r : Result Geometry GeometryRefusal) → IsOkAnd r IsHeld → change_check r ≡ None
checks-valid (Ok geometry) held = ap (option_map Invalid) (no_fault geometry held.valid)
checks-valid (Err refusal) held = absurd held

pub vertex-done : (content new : Content) (edit : Edit) (inverse : Inverse) (name : List ℕ) (id place : ℕ) (change : GeometryChange) → checks content edit ≡ vertex_checks content name id change
    → effect content edit ≡ change_in content name id (change_geometry change) → IsPlaced content name id place
    → IsSomeAnd (feature_at content place id) (λ feature. IsOkAnd (change feature.geometry) IsHeld)
    → new ≡ change_at place (change_feature id (change_geometry change)) content → inverse ≡ inverse_of content edit → Carries content edit (Ok inverse) new
vertex-done content new edit inverse name id place change looked effected p held is same =
    Carries-done content new edit inverse p.fine
    (ap first_refusal looked ∙ checks-placed content name id place change p
    ∙ checks-valid (change (placed-there content name id place p).feature.geometry) (placed-feature content name id place (λ feature. IsOkAnd (change feature.geometry) IsHeld) p held))
    (effected ∙ sym (changed-at content new name place (change_feature id (change_geometry change)) p.at is))
    same

-- no feature is found
pub vertex-missed : (content : Content) (edit : Edit) (name read : List ℕ) (id : ℕ) (change : GeometryChange) (refusal : Refusal) → checks content edit ≡ vertex_checks content name id change → read ≡ name
    → first_refusal (feature_checks content read id) ≡ Some refusal → Carries content edit (Err (edit, refusal)) content
vertex-missed content edit name read id change refusal looked same failed =
    Carries-refused content content edit edit refusal
    (ap first_refusal looked
    ∙ first_refusal-failed (feature_checks content name id) (vertex_check content name id change ∷ []) refusal (subst (λ n. first_refusal (feature_checks content n id) ≡ Some refusal) same failed)) refl refl

-- the vertex is not changed
pub vertex-refused : (content new : Content) (edit : Edit) (name : List ℕ) (id place : ℕ) (change : Change) (part ring : ℕ) (given : ValidityRefusal)
    → checks content edit ≡ vertex_checks content name id (λ g. outcome (changed change part ring g)) → ((fault : Fault) → memory_may_replace edit (Err (Invalid fault)) ≡ true) → IsPlaced content name id place
    → IsSomeAnd (feature_at content place id) (λ feature. RefusesChange (outcome (changed change part ring feature.geometry)) given) → new ≡ content
    → Carries content edit (Err (edit, from_validity given)) new
vertex-refused content new edit name id place change part ring given looked may p refused same =
    by (f geometry) refl (placed-feature content name id place (λ feature. RefusesChange (f feature.geometry) given) p refused)
  where
    f : GeometryChange
    f g = outcome (changed change part ring g)

    geometry : Geometry
    geometry = (placed-there content name id place p).feature.geometry

    to : (r : Result Geometry GeometryRefusal) → f geometry ≡ r → first_refusal (checks content edit) ≡ change_check r
    to r is = ap first_refusal looked ∙ checks-placed content name id place f p ∙ ap change_check is

    want : (after : Geometry) → f geometry ≡ Ok after → (fault : Option Fault) → first_fault after ≡ fault → Carries content edit (Err (edit, Memory)) new
    want after is None none = Carries-memory content new edit edit (to (Ok after) is ∙ ap (option_map Invalid) none) refl same
    want after is (Some fault) found =
        Carries-wanting content new edit edit
        (ap (λ r. memory_may_replace edit (result_of r (effect content edit, answer content edit))) (to (Ok after) is ∙ ap (option_map Invalid) found) ∙ may fault) refl same

    judged : (after : Geometry) → f geometry ≡ Ok after → (refusal : ValidityRefusal) → RefusesGeometry after refusal → Carries content edit (Err (edit, from_validity refusal)) new
    judged after is validities.Memory h = want after is (first_fault after) refl
    judged after is validities.Empty h = absurd h
    judged after is validities.TooManyVertices h = absurd h
    judged after is validities.NoVertex h = absurd h
    judged after is (validities.Invalid fault) h =
        Carries-refused content new edit edit (Invalid fault)
        (to (Ok after) is ∙ ap (option_map Invalid) (its_fault after fault (sized after (outcome-sized (changed change part ring geometry) after is)) h)) refl same

    by : (r : Result Geometry GeometryRefusal) → f geometry ≡ r → RefusesChange r given → Carries content edit (Err (edit, from_validity given)) new
    by (Err lower) is h =
        subst (λ refusal. Carries content edit (Err (edit, from_validity refusal)) new) (sym h)
        (Carries-refused content new edit edit (from_geometry lower) (to (Err lower) is) refl same)
    by (Ok after) is h = judged after is given h

-- the vertex that was there
pub vertex-was : (content : Content) (name : List ℕ) (id place part ring index : ℕ) (old : Coordinates) → IsPlaced content name id place
    → IsSomeAnd (feature_at content place id) (λ feature. vertex_of feature.geometry part ring index ≡ Some old) → old ≡ the_vertex content name id part ring index
vertex-was content name id place part ring index old p was =
    let t = placed-there content name id place p in
    sym (the_vertex-there content name id part ring index t old (placed-feature content name id place (λ feature. vertex_of feature.geometry part ring index ≡ Some old) p was))

-- ---- taken back

-- a change of the feature's geometry leads to a valid one
pub record Back (content : Content) (name : List ℕ) (id : ℕ) (change : GeometryChange) : Type 0 where
  pub feature : FeatureContent
  pub held : feature_in content name id ≡ Some feature
  pub valid : IsOkAnd (change feature.geometry) IsValid

-- a change that passed its checks, and one that takes back what came of it
Back-of : (before content : Content) (name : List ℕ) (id : ℕ) (change back : GeometryChange) → IsWellFormed before → (v : Vertex before name id change)
    → change_in before name id (change_geometry change) ≡ content → back v.new ≡ Ok v.t.feature.geometry → Back content name id back
Back-of before content name id change back fine v effected is =
    let now : feature_in content name id ≡ Some (change_geometry change v.t.feature) = ap (λ c. feature_in c name id) (sym effected) ∙ feature_in-changed before name id v.t (change_geometry change) in
    record {
      feature = change_geometry change v.t.feature;
      held = now;
      valid = subst (λ r. IsOkAnd r IsValid) (sym (ap (λ r. back (result_or v.t.feature.geometry r)) v.made ∙ is)) (IsFeature-there before name id fine v.t).valid;
    }

pub back-there : (content : Content) (name : List ℕ) (id place : ℕ) (change : GeometryChange) → place ≡ place_of content name → Back content name id change
    → IsSomeAnd (feature_at content place id) (λ feature. IsOkAnd (change feature.geometry) IsValid)
back-there content name id place change at b =
    to_some (λ feature. IsOkAnd (change feature.geometry) IsValid) (feature_at content place id) b.feature (placed-at content name id place b.feature at b.held) b.valid

-- the vertex that is there
pub vertex-found : (content : Content) (name : List ℕ) (id place part ring index : ℕ) (feature : FeatureContent) (p : Coordinates) → place ≡ place_of content name → feature_in content name id ≡ Some feature
    → IsSomeAnd (feature_at content place id) (λ feature. vertex_of feature.geometry part ring index ≡ Some p) → vertex_in content name id part ring index ≡ Some p
vertex-found content name id place part ring index feature p at held h =
    ap (option_and_then (λ f. vertex_of f.geometry part ring index)) held
    ∙ of_some (λ f. vertex_of f.geometry part ring index ≡ Some p) (feature_at content place id) feature (placed-at content name id place feature at held) h

-- a vertex that was put in is taken out
pub inserted-back : (content : Content) (name : List ℕ) (id part ring index : ℕ) → Fits content (inverses.TakeVertex name id part ring index) → Back content name id (λ g. remove_vertex g part ring index)
inserted-back content name id part ring index fits =
    let before = described content (inverses.TakeVertex name id part ring index) in
    let there = inserted-there content name id part ring index fits in
    let accepted = Accepted-Fits content (inverses.TakeVertex name id part ring index) fits in
    let edit_is : taken_back content (inverses.TakeVertex name id part ring index) ≡ edits.InsertVertex name id part ring index there.0 =
    ap (λ o. option_map_or (edits.InsertVertex name id part ring index) o no_edit) there.1 in
    let passed : first_refusal (checks before (edits.InsertVertex name id part ring index there.0)) ≡ None = ap (λ e. first_refusal (checks before e)) (sym edit_is) ∙ accepted.passed in
    let effected : effect before (edits.InsertVertex name id part ring index there.0) ≡ content = ap (effect before) (sym edit_is) ∙ accepted.effect in
    let v = Vertex-passed before name id (λ g. insert_vertex g part ring index there.0) passed in
    Back-of before content name id (λ g. insert_vertex g part ring index there.0) (λ g. remove_vertex g part ring index) fits.well_formed v effected
    (insert_vertex-back v.t.feature.geometry v.new part ring index there.0 (whole_at before name id fits.well_formed v.t)
    (no_size_fault v.t.feature.geometry (IsFeature-there before name id fits.well_formed v.t).valid.sized) v.made)

pub inserted-undone : (content new : Content) (name : List ℕ) (id place part ring index : ℕ) (point : Coordinates) → Fits content (inverses.TakeVertex name id part ring index) → place ≡ place_of content name
    → new ≡ change_at place (change_feature id (change_geometry (λ g. remove_vertex g part ring index))) content
    → IsSomeAnd (feature_at content place id) (λ feature. vertex_of feature.geometry part ring index ≡ Some point)
    → Reverts content (inverses.TakeVertex name id part ring index) (edits.InsertVertex name id part ring index point) new
inserted-undone content new name id place part ring index point fits at is given =
    let b = inserted-back content name id part ring index fits in
    Reverts-described content new (inverses.TakeVertex name id part ring index) (edits.InsertVertex name id part ring index point) fits
    (changed-at content new name place (change_feature id (change_geometry (λ g. remove_vertex g part ring index))) at is)
    (sym (ap (λ o. option_map_or (edits.InsertVertex name id part ring index) o no_edit) (vertex-found content name id place part ring index b.feature point at b.held given)))

-- a vertex that was moved is moved back
same_old : (name : List ℕ) (id part ring index : ℕ) (a b : Coordinates) → inverses.MoveVertex name id part ring index a ≡ inverses.MoveVertex name id part ring index b → a ≡ b
same_old name id part ring index a b h = cc

pub moved-back : (content : Content) (name : List ℕ) (id part ring index : ℕ) (old : Coordinates) → Fits content (inverses.MoveVertex name id part ring index old) → Back content name id (λ g. move_vertex g part ring index old)
moved-back content name id part ring index old fits =
    let before = described content (inverses.MoveVertex name id part ring index old) in
    let there = moved-there content name id part ring index old fits in
    let accepted = Accepted-Fits content (inverses.MoveVertex name id part ring index old) fits in
    let edit_is : taken_back content (inverses.MoveVertex name id part ring index old) ≡ edits.MoveVertex name id part ring index there.0 =
    ap (λ o. option_map_or (edits.MoveVertex name id part ring index) o no_edit) there.1 in
    let passed : first_refusal (checks before (edits.MoveVertex name id part ring index there.0)) ≡ None = ap (λ e. first_refusal (checks before e)) (sym edit_is) ∙ accepted.passed in
    let effected : effect before (edits.MoveVertex name id part ring index there.0) ≡ content = ap (effect before) (sym edit_is) ∙ accepted.effect in
    let v = Vertex-passed before name id (λ g. move_vertex g part ring index there.0) passed in
    let was = was_vertex v.t.feature.geometry v.new part ring index there.0 v.made in
    let old_is : the_vertex before name id part ring index ≡ old =
    same_old name id part ring index (the_vertex before name id part ring index) old (ap (inverse_of before) (sym edit_is) ∙ fits.same) in
    let vertex_is : vertex_of v.t.feature.geometry part ring index ≡ Some old = was.1 ∙ ap Some (sym (the_vertex-there before name id part ring index v.t was.0 was.1) ∙ old_is) in
    Back-of before content name id (λ g. move_vertex g part ring index there.0) (λ g. move_vertex g part ring index old) fits.well_formed v effected
    (move_vertex-back v.t.feature.geometry v.new part ring index there.0 old (whole_at before name id fits.well_formed v.t)
    (no_size_fault v.t.feature.geometry (IsFeature-there before name id fits.well_formed v.t).valid.sized) vertex_is v.made)

pub moved-undone : (content new : Content) (name : List ℕ) (id place part ring index : ℕ) (old point : Coordinates) → Fits content (inverses.MoveVertex name id part ring index old) → place ≡ place_of content name
    → new ≡ change_at place (change_feature id (change_geometry (λ g. move_vertex g part ring index old))) content
    → IsSomeAnd (feature_at content place id) (λ feature. vertex_of feature.geometry part ring index ≡ Some point)
    → Reverts content (inverses.MoveVertex name id part ring index old) (edits.MoveVertex name id part ring index point) new
moved-undone content new name id place part ring index old point fits at is given =
    let b = moved-back content name id part ring index old fits in
    Reverts-described content new (inverses.MoveVertex name id part ring index old) (edits.MoveVertex name id part ring index point) fits
    (changed-at content new name place (change_feature id (change_geometry (λ g. move_vertex g part ring index old))) at is)
    (sym (ap (λ o. option_map_or (edits.MoveVertex name id part ring index) o no_edit) (vertex-found content name id place part ring index b.feature point at b.held given)))

-- a vertex that was taken out is put in again
same_removed : (name : List ℕ) (id part ring index : ℕ) (a b : Coordinates) → inverses.PutVertex name id part ring index a ≡ inverses.PutVertex name id part ring index b → a ≡ b
same_removed name id part ring index a b h = cc

pub removed-back : (content : Content) (name : List ℕ) (id part ring index : ℕ) (old : Coordinates) → Fits content (inverses.PutVertex name id part ring index old) → Back content name id (λ g. insert_vertex g part ring index old)
removed-back content name id part ring index old fits =
    let before = described content (inverses.PutVertex name id part ring index old) in
    let accepted = Accepted-Fits content (inverses.PutVertex name id part ring index old) fits in
    let v = Vertex-passed before name id (λ g. remove_vertex g part ring index) accepted.passed in
    let was = removed_vertex v.t.feature.geometry v.new part ring index v.made in
    let old_is : the_vertex before name id part ring index ≡ old = same_removed name id part ring index (the_vertex before name id part ring index) old fits.same in
    let vertex_is : vertex_of v.t.feature.geometry part ring index ≡ Some old = was.1 ∙ ap Some (sym (the_vertex-there before name id part ring index v.t was.0 was.1) ∙ old_is) in
    Back-of before content name id (λ g. remove_vertex g part ring index) (λ g. insert_vertex g part ring index old) fits.well_formed v accepted.effect
    (remove_vertex-back v.t.feature.geometry v.new part ring index old (whole_at before name id fits.well_formed v.t)
    (no_size_fault v.t.feature.geometry (IsFeature-there before name id fits.well_formed v.t).valid.sized) vertex_is v.made)

pub removed-undone : (content new : Content) (name : List ℕ) (id place part ring index : ℕ) (old : Coordinates) → Fits content (inverses.PutVertex name id part ring index old) → place ≡ place_of content name
    → new ≡ change_at place (change_feature id (change_geometry (λ g. insert_vertex g part ring index old))) content
    → RevertsOrKeeps content (inverses.PutVertex name id part ring index old) (Ok (edits.RemoveVertex name id part ring index)) new
removed-undone content new name id place part ring index old fits at is =
    RevertsOrKeeps-described content new (inverses.PutVertex name id part ring index old) (edits.RemoveVertex name id part ring index) fits
    (changed-at content new name place (change_feature id (change_geometry (λ g. insert_vertex g part ring index old))) at is) refl

-- the same refusal by other names
pub refused-same : (old new after : Content) (edit : Edit) (refusal given : Refusal) → new ≡ after → refusal ≡ given → Carries old edit (Err (edit, given)) after → Carries old edit (Err (edit, refusal)) new
refused-same old new after edit refusal given same is h =
    subst (λ c. Carries old edit (Err (edit, refusal)) c) (sym same) (subst (λ r. Carries old edit (Err (edit, r)) after) (sym is) h)

-- the layer of a feature whose geometry is changed back
pub back-layer : (content : Content) (name : List ℕ) (id : ℕ) (change : GeometryChange) → Back content name id change → (layer : LayerContent) × (layer_of content name ≡ Some layer)
back-layer content name id change b = let t = FeatureThere-feature_in content name id (ap is_some b.held) in (t.layer, t.found)
