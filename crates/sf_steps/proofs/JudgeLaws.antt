-- What a step says of a geometry, it says over all points of the plane.
use Rattle.std.proofs.Common.{◌≡◌, ℕ, Bool, true, false, not, List, [], ◌∷◌, Option, None, Some, option_map, option_and_then, Result, Ok, Err, IsSomeAnd, length, nat_lt, refl, ap, sym, subst, ◌∙◌}
use Rattle.std.specs.Prelude.{IfSome}
use Rattle.sf_geometry.specs.declared.geometry.Geometry.{Geometry}
use Rattle.sf_geometry.specs.declared.refusal.Refusal.{Refusal as GeometryRefusal}
use Rattle.sf_geometry.specs.declared.refusal.Refusal.TheVariants as geometries
use Rattle.sf_geometry.specs.Size.{size_fault}
use Rattle.sf_geometry.specs.Vertices.{Change, changed, exchange, insertion, outcome, removal}
use Rattle.sf_valid_rules.specs.declared.fault.Fault.{Fault}
use Rattle.sf_valid_rules.specs.Validity.{IsFirstFault, IsValid}
use Rattle.sf_valid_rules.specs.Verdicts.{first_fault}
use Rattle.sf_features.specs.Names.{is_name}
use Rattle.sf_features.specs.Features.{GeometryChange}
use Rattle.sf_layers.specs.Content.{Content, feature_in, has_layer}
use Rattle.sf_layers.specs.WellFormed.{column_end, id_end, layers_max}
use Rattle.sf_steps.specs.declared.answer.Answer.{Answer}
use Rattle.sf_steps.specs.declared.edit.Edit.{Edit}
use Rattle.sf_steps.specs.declared.edit.Edit.TheVariants.{AddLayer, DropLayer, RenameLayer, MoveLayer, AddColumn, DropColumn, AddFeature, DeleteFeature, ReplaceGeometry, InsertVertex, MoveVertex, RemoveVertex, SetValue, ClearValue}
use Rattle.sf_steps.specs.declared.refusal.Refusal.{Refusal}
use Rattle.sf_steps.specs.declared.refusal.Refusal.TheVariants.{Invalid, NoLayer, LayerExists, BadName, NoFeature, NoColumn, ColumnExists, WrongValue, WrongKind, IdsExhausted, ColumnsExhausted, BadPlace}
use Rattle.sf_steps.specs.Refusals.{from_geometry}
use Rattle.sf_steps.specs.Steps.{answer, change_check, checks, column_takes, effect, first_refusal, has_column, has_feature, layer_passes, result_of, size_check, takes_kind, unless, validity_check, vertex_check}
use Rattle.sf_steps.specs.Laws.{StepJudgesOverThePlane, geometry_made, made}
use Rattle.sf_steps.proofs.Judged.{is_first, sized, valid}
use Rattle.sf_steps.proofs.Passes.{Accepted-step, FeatureThere, FeatureThere-feature_in, feature_in-there, passed, passed_fault}
use Rattle.sf_steps.proofs.StepsFine.{outcome-sized, vertex_check-there}

same_refusal : {a b : Refusal} → Some a ≡ Some b → a ≡ b
same_refusal e = cc

none_mapped : {X Y : Type 0} (f : X → Y) (o : Option X) → option_map f o ≡ None → o ≡ None
none_mapped f None h = refl
none_mapped f (Some x) h = cc

-- a check that is no fault of validity is passed where such a fault is the first refusal
skip : (test : Bool) (refusal : Refusal) (rest : List (Option Refusal)) (fault : Fault) → (refusal ≡ Invalid fault → ⊥) → first_refusal (unless test refusal ∷ rest) ≡ Some (Invalid fault)
    → (test ≡ true) × (first_refusal rest ≡ Some (Invalid fault))
skip true refusal rest fault plain h = (refl, h)
skip false refusal rest fault plain h = absurd (plain (same_refusal h))

size-plain : (refusal : GeometryRefusal) (fault : Fault) → from_geometry refusal ≡ Invalid fault → ⊥
size-plain geometries.Memory fault e = cc
size-plain geometries.Empty fault e = cc
size-plain geometries.TooManyVertices fault e = cc
size-plain geometries.NoVertex fault e = cc

skip_size : (size : Option GeometryRefusal) (rest : List (Option Refusal)) (fault : Fault) → first_refusal (option_map from_geometry size ∷ rest) ≡ Some (Invalid fault)
    → (size ≡ None) × (first_refusal rest ≡ Some (Invalid fault))
skip_size None rest fault h = (refl, h)
skip_size (Some refusal) rest fault h = absurd (size-plain refusal fault (same_refusal h))

-- the fault of a geometry is the first one that is found
its : (found : Option Fault) (rest : List (Option Refusal)) (fault : Fault) → (first_refusal rest ≡ Some (Invalid fault) → ⊥) → first_refusal (option_map Invalid found ∷ rest) ≡ Some (Invalid fault) → found ≡ Some fault
its None rest fault plain h = absurd (plain h)
its (Some other) rest fault plain h = ap Some (same h)
  where
    same : Some (Invalid other) ≡ Some (Invalid fault) → other ≡ fault
    same e = cc

-- what comes of a change, and its fault
change-fault : (r : Result Geometry GeometryRefusal) (fault : Fault) → change_check r ≡ Some (Invalid fault) → (g : Geometry) × ((r ≡ Ok g) × (first_fault g ≡ Some fault))
change-fault (Ok g) fault h = (g, (refl, by (first_fault g) h))
  where
    by : (found : Option Fault) → option_map Invalid found ≡ Some (Invalid fault) → found ≡ Some fault
    by None h = cc
    by (Some other) h = let is : other ≡ fault = cc in ap Some is
change-fault (Err refusal) fault h = absurd (size-plain refusal fault (same_refusal h))

change-passed : (r : Result Geometry GeometryRefusal) → change_check r ≡ None → (g : Geometry) × ((r ≡ Ok g) × (first_fault g ≡ None))
change-passed (Ok g) h = (g, (refl, none_mapped Invalid (first_fault g) h))
change-passed (Err refusal) h = cc

abbrev vertex_checks : Content → List ℕ → ℕ → GeometryChange → List (Option Refusal)
vertex_checks content name id change = unless (has_layer content name) NoLayer ∷ unless (has_feature content name id) NoFeature ∷ vertex_check content name id change ∷ []

abbrev vertex_made : Content → List ℕ → ℕ → GeometryChange → Option Geometry
vertex_made content name id change = option_and_then (λ feature. made (change feature.geometry)) (feature_in content name id)

made-is : (content : Content) (name : List ℕ) (id : ℕ) (change : GeometryChange) (t : FeatureThere content name id) (g : Geometry) → change t.feature.geometry ≡ Ok g → vertex_made content name id change ≡ Some g
made-is content name id change t g is = ap (option_and_then (λ feature. made (change feature.geometry))) (feature_in-there content name id t) ∙ ap made is

vertex-accepted : (content : Content) (name : List ℕ) (id part ring : ℕ) (change : Change) → first_refusal (vertex_checks content name id (λ g. outcome (changed change part ring g))) ≡ None
    → IfSome (vertex_made content name id (λ g. outcome (changed change part ring g))) IsValid
vertex-accepted content name id part ring change h =
    let f : GeometryChange = λ g. outcome (changed change part ring g) in
    let first = passed (has_layer content name) NoLayer _ h in
    let second = passed (has_feature content name id) NoFeature _ first.1 in
    let third = passed_fault (vertex_check content name id f) [] second.1 in
    let t = FeatureThere-feature_in content name id second.0 in
    let to = change-passed (f t.feature.geometry) (vertex_check-there content name id t f third.0) in
    subst (λ o. IfSome o IsValid) (sym (made-is content name id f t to.0 to.1.0))
    (valid to.0 (sized to.0 (outcome-sized (changed change part ring t.feature.geometry) to.0 to.1.0)) to.1.1)

alone : (check : Option Refusal) (refusal : Refusal) → first_refusal (check ∷ []) ≡ Some refusal → check ≡ Some refusal
alone None refusal h = cc
alone (Some other) refusal h = h

vertex-refused : (content : Content) (name : List ℕ) (id part ring : ℕ) (change : Change) (fault : Fault) → first_refusal (vertex_checks content name id (λ g. outcome (changed change part ring g))) ≡ Some (Invalid fault)
    → IsSomeAnd (vertex_made content name id (λ g. outcome (changed change part ring g))) (λ geometry. IsFirstFault geometry fault)
vertex-refused content name id part ring change fault h =
    let f : GeometryChange = λ g. outcome (changed change part ring g) in
    let first = skip (has_layer content name) NoLayer _ fault (λ e. cc) h in
    let second = skip (has_feature content name id) NoFeature _ fault (λ e. cc) first.1 in
    let t = FeatureThere-feature_in content name id second.0 in
    let checked : change_check (f t.feature.geometry) ≡ Some (Invalid fault) =
    sym (ap (option_and_then (λ feature. change_check (f feature.geometry))) (feature_in-there content name id t)) ∙ alone (vertex_check content name id f) (Invalid fault) second.1 in
    let to = change-fault (f t.feature.geometry) fault checked in
    subst (λ o. IsSomeAnd o (λ geometry. IsFirstFault geometry fault)) (sym (made-is content name id f t to.0 to.1.0))
    (is_first to.0 fault (sized to.0 (outcome-sized (changed change part ring t.feature.geometry) to.0 to.1.0)) to.1.1)

nothing : (fault : Fault) → first_refusal [] ≡ Some (Invalid fault) → ⊥
nothing fault e = cc

accepted : (content : Content) (edit : Edit) → first_refusal (checks content edit) ≡ None → IfSome (geometry_made content edit) IsValid
accepted content (AddLayer name kind) h = tt
accepted content (DropLayer name) h = tt
accepted content (RenameLayer name new_name) h = tt
accepted content (MoveLayer name place) h = tt
accepted content (AddColumn name column column_type) h = tt
accepted content (DropColumn name column) h = tt
accepted content (AddFeature name geometry) h =
    let second = passed (takes_kind content name geometry) WrongKind _ (passed (has_layer content name) NoLayer _ h).1 in
    let third = passed_fault (size_check geometry) _ second.1 in
    let fourth = passed_fault (validity_check geometry) _ third.1 in
    valid geometry (sized geometry (none_mapped from_geometry (size_fault geometry) third.0)) (none_mapped Invalid (first_fault geometry) fourth.0)
accepted content (DeleteFeature name id) h = tt
accepted content (ReplaceGeometry name id geometry) h =
    let second = passed (has_feature content name id) NoFeature _ (passed (has_layer content name) NoLayer _ h).1 in
    let third = passed (takes_kind content name geometry) WrongKind _ second.1 in
    let fourth = passed_fault (size_check geometry) _ third.1 in
    let fifth = passed_fault (validity_check geometry) _ fourth.1 in
    valid geometry (sized geometry (none_mapped from_geometry (size_fault geometry) fourth.0)) (none_mapped Invalid (first_fault geometry) fifth.0)
accepted content (InsertVertex name id part ring index point) h = vertex-accepted content name id part ring (insertion index point) h
accepted content (MoveVertex name id part ring index point) h = vertex-accepted content name id part ring (exchange index point) h
accepted content (RemoveVertex name id part ring index) h = vertex-accepted content name id part ring (removal index) h
accepted content (SetValue name id column value) h = tt
accepted content (ClearValue name id column) h = tt

refused : (content : Content) (edit : Edit) (fault : Fault) → first_refusal (checks content edit) ≡ Some (Invalid fault) → IsSomeAnd (geometry_made content edit) (λ geometry. IsFirstFault geometry fault)
refused content (AddLayer name kind) fault h =
    let second = skip (not (has_layer content name)) LayerExists _ fault (λ e. cc) (skip (is_name name) BadName _ fault (λ e. cc) h).1 in
    let third = skip (nat_lt (length content) layers_max) IdsExhausted [] fault (λ e. cc) second.1 in
    absurd (nothing fault third.1)
refused content (DropLayer name) fault h = let first = skip (has_layer content name) NoLayer [] fault (λ e. cc) h in absurd (nothing fault first.1)
refused content (RenameLayer name new_name) fault h =
    let second = skip (is_name new_name) BadName _ fault (λ e. cc) (skip (has_layer content name) NoLayer _ fault (λ e. cc) h).1 in
    let third = skip (not (has_layer content new_name)) LayerExists [] fault (λ e. cc) second.1 in
    absurd (nothing fault third.1)
refused content (MoveLayer name place) fault h =
    let second = skip (nat_lt place (length content)) BadPlace [] fault (λ e. cc) (skip (has_layer content name) NoLayer _ fault (λ e. cc) h).1 in
    absurd (nothing fault second.1)
refused content (AddColumn name column column_type) fault h =
    let second = skip (is_name column) BadName _ fault (λ e. cc) (skip (has_layer content name) NoLayer _ fault (λ e. cc) h).1 in
    let third = skip (not (has_column content name column)) ColumnExists _ fault (λ e. cc) second.1 in
    let fourth = skip (layer_passes content name (λ layer. nat_lt layer.next_column column_end)) ColumnsExhausted [] fault (λ e. cc) third.1 in
    absurd (nothing fault fourth.1)
refused content (DropColumn name column) fault h =
    let second = skip (has_column content name column) NoColumn [] fault (λ e. cc) (skip (has_layer content name) NoLayer _ fault (λ e. cc) h).1 in
    absurd (nothing fault second.1)
refused content (AddFeature name geometry) fault h =
    let second = skip (takes_kind content name geometry) WrongKind _ fault (λ e. cc) (skip (has_layer content name) NoLayer _ fault (λ e. cc) h).1 in
    let third = skip_size (size_fault geometry) _ fault second.1 in
    is_first geometry fault (sized geometry third.0) (its (first_fault geometry) _ fault (last (layer_passes content name (λ layer. nat_lt layer.next_id id_end))) third.1)
  where
    last : (test : Bool) → first_refusal (unless test IdsExhausted ∷ []) ≡ Some (Invalid fault) → ⊥
    last true e = cc
    last false e = cc
refused content (DeleteFeature name id) fault h =
    let second = skip (has_feature content name id) NoFeature [] fault (λ e. cc) (skip (has_layer content name) NoLayer _ fault (λ e. cc) h).1 in
    absurd (nothing fault second.1)
refused content (ReplaceGeometry name id geometry) fault h =
    let second = skip (has_feature content name id) NoFeature _ fault (λ e. cc) (skip (has_layer content name) NoLayer _ fault (λ e. cc) h).1 in
    let third = skip (takes_kind content name geometry) WrongKind _ fault (λ e. cc) second.1 in
    let fourth = skip_size (size_fault geometry) _ fault third.1 in
    is_first geometry fault (sized geometry fourth.0) (its (first_fault geometry) [] fault (λ e. cc) fourth.1)
refused content (InsertVertex name id part ring index point) fault h = vertex-refused content name id part ring (insertion index point) fault h
refused content (MoveVertex name id part ring index point) fault h = vertex-refused content name id part ring (exchange index point) fault h
refused content (RemoveVertex name id part ring index) fault h = vertex-refused content name id part ring (removal index) fault h
refused content (SetValue name id column value) fault h =
    let second = skip (has_feature content name id) NoFeature _ fault (λ e. cc) (skip (has_layer content name) NoLayer _ fault (λ e. cc) h).1 in
    let third = skip (has_column content name column) NoColumn _ fault (λ e. cc) second.1 in
    let fourth = skip (column_takes content name column value) WrongValue [] fault (λ e. cc) third.1 in
    absurd (nothing fault fourth.1)
refused content (ClearValue name id column) fault h =
    let second = skip (has_feature content name id) NoFeature _ fault (λ e. cc) (skip (has_layer content name) NoLayer _ fault (λ e. cc) h).1 in
    let third = skip (has_column content name column) NoColumn [] fault (λ e. cc) second.1 in
    absurd (nothing fault third.1)

refused-by : (o : Option Refusal) (done : Content × Answer) (refusal : Refusal) → result_of o done ≡ Err refusal → o ≡ Some refusal
refused-by None done refusal e = cc
refused-by (Some found) done refusal e = ap Some (same e)
  where
    same : ◌≡◌ {A = Result (Content × Answer) Refusal} (Err found) (Err refusal) → found ≡ refusal
    same e = cc

pub judges : StepJudgesOverThePlane
judges content edit = record {
  accepted = λ new given led. accepted content edit (Accepted-step content new edit given led).passed;
  refused = λ fault led. refused content edit fault (refused-by (first_refusal (checks content edit)) (effect content edit, answer content edit) (Invalid fault) led);
}
