-- What an accepted step has passed.
use Rattle.std.proofs.Common.{◌≡◌, ℕ, Bool, true, false, not, List, ◌∷◌, Option, None, Some, is_some, option_and_then, Result, Ok, Err, refl, ap, ◌∙◌}
use Rattle.sf_geometry.specs.declared.geometry.Geometry.{Geometry}
use Rattle.sf_geometry.specs.declared.refusal.Refusal.{Refusal as GeometryRefusal}
use Rattle.sf_features.specs.declared.column.Column.{Column}
use Rattle.sf_features.specs.Features.{FeatureContent}
use Rattle.sf_layers.specs.Content.{Content, LayerContent, layer_of, feature_of, column_named, feature_in}
use Rattle.sf_steps.specs.declared.answer.Answer.{Answer}
use Rattle.sf_steps.specs.declared.edit.Edit.{Edit}
use Rattle.sf_steps.specs.declared.refusal.Refusal.{Refusal}
use Rattle.sf_steps.specs.Steps.{unless, first_refusal, checks, effect, answer, result_of, step, column_in, change_check}

-- an accepted step passed its checks, and has its effect and its answer
pub record Accepted (content : Content) (edit : Edit) (new : Content) (given : Answer) : Type 0 where
  pub passed : first_refusal (checks content edit) ≡ None
  pub effect : effect content edit ≡ new
  pub answer : answer content edit ≡ given

pub Accepted-step : (content new : Content) (edit : Edit) (given : Answer) → step content edit ≡ Ok (new, given) → Accepted content edit new given
Accepted-step content new edit given led = by (first_refusal (checks content edit)) refl led
  where
    by : (r : Option Refusal) → first_refusal (checks content edit) ≡ r → result_of r (effect content edit, answer content edit) ≡ Ok (new, given) → Accepted content edit new given
    by None is h =
        let both : ◌≡◌ {A = Content × Answer} (effect content edit, answer content edit) (new, given) = cc in
        record { passed = is; effect = ap (λ p. p.0) both; answer = ap (λ p. p.1) both }
    by (Some x) is h = cc

pub step-passed : (content : Content) (edit : Edit) → first_refusal (checks content edit) ≡ None → step content edit ≡ Ok (effect content edit, answer content edit)
step-passed content edit passed = ap (λ r. result_of r (effect content edit, answer content edit)) passed

-- the first of several checks is passed, and the others
pub passed : (test : Bool) (refusal : Refusal) (rest : List (Option Refusal)) → first_refusal (unless test refusal ∷ rest) ≡ None → (test ≡ true) × (first_refusal rest ≡ None)
passed true refusal rest h = (refl, h)
passed false refusal rest h = cc

pub passed_fault : (fault : Option Refusal) (rest : List (Option Refusal)) → first_refusal (fault ∷ rest) ≡ None → (fault ≡ None) × (first_refusal rest ≡ None)
passed_fault None rest h = (refl, h)
passed_fault (Some refusal) rest h = cc

pub absent_from_not : {X : Type 0} (o : Option X) → not (is_some o) ≡ true → o ≡ None
absent_from_not None h = refl
absent_from_not (Some x) h = cc

pub there_from_test : {X : Type 0} (o : Option X) → is_some o ≡ true → (x : X) × (o ≡ Some x)
there_from_test None h = cc
there_from_test (Some x) h = (x, refl)

-- a feature of a layer of a name
pub record FeatureThere (content : Content) (name : List ℕ) (id : ℕ) : Type 0 where
  pub layer : LayerContent
  pub feature : FeatureContent
  pub found : layer_of content name ≡ Some layer
  pub held : feature_of layer id ≡ Some feature

pub FeatureThere-feature_in : (content : Content) (name : List ℕ) (id : ℕ) → is_some (feature_in content name id) ≡ true → FeatureThere content name id
FeatureThere-feature_in content name id h = by (layer_of content name) refl h
  where
    by : (o : Option LayerContent) → layer_of content name ≡ o → is_some (option_and_then (λ layer. feature_of layer id) o) ≡ true → FeatureThere content name id
    by None is h = cc
    by (Some layer) is h =
        let there = there_from_test (feature_of layer id) h in
        record { layer = layer; feature = there.0; found = is; held = there.1 }

pub feature_in-there : (content : Content) (name : List ℕ) (id : ℕ) (t : FeatureThere content name id) → feature_in content name id ≡ Some t.feature
feature_in-there content name id t = ap (option_and_then (λ layer. feature_of layer id)) t.found ∙ t.held

-- a column of a layer of a name
pub record ColumnThere (content : Content) (name column_name : List ℕ) : Type 0 where
  pub layer : LayerContent
  pub column : Column
  pub found : layer_of content name ≡ Some layer
  pub named : column_named layer column_name ≡ Some column

pub ColumnThere-column_in : (content : Content) (name column_name : List ℕ) → is_some (column_in content name column_name) ≡ true → ColumnThere content name column_name
ColumnThere-column_in content name column_name h = by (layer_of content name) refl h
  where
    by : (o : Option LayerContent) → layer_of content name ≡ o → is_some (option_and_then (λ layer. column_named layer column_name) o) ≡ true → ColumnThere content name column_name
    by None is h = cc
    by (Some layer) is h =
        let there = there_from_test (column_named layer column_name) h in
        record { layer = layer; column = there.0; found = is; named = there.1 }

pub column_in-there : (content : Content) (name column_name : List ℕ) (t : ColumnThere content name column_name) → column_in content name column_name ≡ Some t.column
column_in-there content name column_name t = ap (option_and_then (λ layer. column_named layer column_name)) t.found ∙ t.named

-- the geometry that a vertex change which is accepted leads to
pub changed_to : (r : Result Geometry GeometryRefusal) → change_check r ≡ None → (g : Geometry) × (r ≡ Ok g)
changed_to (Ok g) h = (g, refl)
changed_to (Err refusal) h = cc
