-- What holds of every step and its inverse.
use Rattle.std.specs.Prelude.{◌≡◌, Option, None, Some, Result, Ok, Err, IfSome, IsSomeAnd, option_and_then}
use Rattle.sf_grid.specs.Plane.{IsOnGrid}
use Rattle.sf_geometry.specs.declared.geometry.Geometry.{Geometry}
use Rattle.sf_geometry.specs.declared.refusal.Refusal.{Refusal as GeometryRefusal}
use Rattle.sf_geometry.specs.Parts.{LiesOnGrid}
use Rattle.sf_geometry.specs.Vertices.{insert_vertex, move_vertex, remove_vertex}
use Rattle.sf_valid_rules.specs.declared.fault.Fault.{Fault}
use Rattle.sf_valid_rules.specs.Validity.{IsFirstFault, IsValid}
use Rattle.sf_layers.specs.Content.{Content, feature_in}
use Rattle.sf_layers.specs.WellFormed.{IsWellFormed}
use Rattle.sf_steps.specs.declared.answer.Answer.{Answer}
use Rattle.sf_steps.specs.declared.edit.Edit.{Edit}
use Rattle.sf_steps.specs.declared.edit.Edit.TheVariants.{AddFeature, InsertVertex, MoveVertex, RemoveVertex, ReplaceGeometry}
use Rattle.sf_steps.specs.declared.refusal.Refusal.TheVariants.{Invalid}
use Rattle.sf_steps.specs.Steps.{step}
use Rattle.sf_steps.specs.Inverses.{Accepts, answer_of, inverse_of, weight}
use Rattle.sf_steps.specs.Weights.{touched}

-- the points that the edit brings are on the grid; the type of points says so of each
abbrev pub BringsGridPoints : Edit → Type 0
BringsGridPoints (AddFeature name geometry) = LiesOnGrid geometry
BringsGridPoints (ReplaceGeometry name id geometry) = LiesOnGrid geometry
BringsGridPoints (InsertVertex name id part ring index point) = IsOnGrid point
BringsGridPoints (MoveVertex name id part ring index point) = IsOnGrid point
BringsGridPoints edit = Unit {0}

-- an accepted step leads from a well-formed content to a well-formed one
abbrev pub StepKeepsWellFormed : Type 0
StepKeepsWellFormed =
    (old new : Content) (edit : Edit) (answer : Answer)
    → BringsGridPoints edit → IsWellFormed old → step old edit ≡ Ok (new, answer) → IsWellFormed new

-- the inverse of an accepted edit takes the content back to what it was and the edit back, and has the
-- edit's answer
abbrev pub InverseTakesBack : Type 0
InverseTakesBack =
    (old new : Content) (edit : Edit) (answer : Answer)
    → IsWellFormed old → step old edit ≡ Ok (new, answer)
    → Accepts old edit (inverse_of old edit) new × (answer_of (inverse_of old edit) ≡ answer)

-- the inverse of an accepted edit holds as much as the edit removes from the content or overwrites
abbrev pub InverseWeighsWhatWasTouched : Type 0
InverseWeighsWhatWasTouched =
    (old new : Content) (edit : Edit) (answer : Answer)
    → step old edit ≡ Ok (new, answer) → weight (inverse_of old edit) ≡ touched old edit

-- the geometry that comes of a change, where it can be made
abbrev pub made : Result Geometry GeometryRefusal → Option Geometry
made (Ok geometry) = Some geometry
made (Err refusal) = None

-- the geometry that an edit brings or makes, where it does
abbrev pub geometry_made : Content → Edit → Option Geometry
geometry_made content (AddFeature name geometry) = Some geometry
geometry_made content (ReplaceGeometry name id geometry) = Some geometry
geometry_made content (InsertVertex name id part ring index point) =
    option_and_then (λ feature. made (insert_vertex feature.geometry part ring index point)) (feature_in content name id)
geometry_made content (MoveVertex name id part ring index point) =
    option_and_then (λ feature. made (move_vertex feature.geometry part ring index point)) (feature_in content name id)
geometry_made content (RemoveVertex name id part ring index) =
    option_and_then (λ feature. made (remove_vertex feature.geometry part ring index)) (feature_in content name id)
geometry_made content edit = None

-- a geometry that an accepted step brings or makes is valid over all points of the plane, and one that is refused as
-- invalid has that first fault over them
pub record JudgesOverThePlane (content : Content) (edit : Edit) : Type 0 where
  pub accepted : (new : Content) (answer : Answer) → step content edit ≡ Ok (new, answer) → IfSome (geometry_made content edit) IsValid
  pub refused : (fault : Fault) → step content edit ≡ Err (Invalid fault) → IsSomeAnd (geometry_made content edit) (λ geometry. IsFirstFault geometry fault)

abbrev pub StepJudgesOverThePlane : Type 0
StepJudgesOverThePlane = (content : Content) (edit : Edit) → JudgesOverThePlane content edit
