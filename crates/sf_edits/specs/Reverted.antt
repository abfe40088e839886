-- Internal: who wants to trust the program need not read this file.
-- Edits that were taken back, and how they are redone.
use Rattle.std.specs.Prelude.{◌≡◌, Bool, true, false, Result, Ok, IfOk, IfErr, OnErr, IsTrue}
use Rattle.sf_layers.specs.Content.{Content}
use Rattle.sf_steps.specs.declared.edit.Edit.{Edit}
use Rattle.sf_steps.specs.declared.edit.Edit.TheVariants as edits
use Rattle.sf_steps.specs.declared.inverse.Inverse.{Inverse}
use Rattle.sf_steps.specs.Inverses.{Carries}
use Rattle.sf_edits.specs.declared.reverted.Kept.{Kept}
use Rattle.sf_edits.specs.declared.reverted.Kept.TheVariants.{AddFeature, ReplaceGeometry, Other}

-- the edit that is kept
abbrev pub edit_of : Kept → Edit
edit_of (AddFeature layer geometry) = edits.AddFeature layer geometry
edit_of (ReplaceGeometry layer id geometry) = edits.ReplaceGeometry layer id geometry
edit_of (Other edit) = edit

-- whether an edit brings no geometry
abbrev pub brings_no_geometry : Edit → Bool
brings_no_geometry (edits.AddFeature name geometry) = false
brings_no_geometry (edits.ReplaceGeometry name id geometry) = false
brings_no_geometry edit = true

-- an edit that brings a geometry is kept with a valid one
abbrev pub IsKept : Kept → Type 0
IsKept (Other edit) = IsTrue (brings_no_geometry edit)
IsKept kept = Unit {0}

-- whether an edit that is known to be accepted removes a feature or a vertex, moves a vertex or exchanges a geometry, for
-- which no memory is needed
abbrev pub takes_no_memory : Edit → Bool
takes_no_memory (edits.DeleteFeature name id) = true
takes_no_memory (edits.ReplaceGeometry name id geometry) = true
takes_no_memory (edits.MoveVertex name id part ring index point) = true
takes_no_memory (edits.RemoveVertex name id part ring index) = true
takes_no_memory edit = false

-- carrying an accepted edit out over old has this result and leaves new: it is carried out, or given back and nothing is
-- changed
pub record CarriesOrKeeps (old : Content) (edit : Edit) (result : Result Inverse Edit) (new : Content) : Type 0 where
  pub carried_out : IfOk result (λ inverse. Carries old edit (Ok inverse) new)
  pub given_back : IfErr result (λ back. back ≡ edit)
  pub unchanged : OnErr result (new ≡ old)
