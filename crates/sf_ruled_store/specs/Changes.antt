-- What a history is of: changes of a content, each one step, and what takes them back and makes them again.
use Rattle.std.specs.Prelude.{◌≡◌, ℕ, List, Option, None, Some, Result, Ok, Err, IsOk, IsTrue}
use Rattle.std.specs.Option.{option_map_or}
use Rattle.sf_layers.specs.Content.{Content}
use Rattle.sf_steps.specs.declared.answer.Answer.{Answer}
use Rattle.sf_steps.specs.declared.edit.Edit.{Edit}
use Rattle.sf_steps.specs.declared.refusal.Refusal.{Refusal}
use Rattle.sf_steps.specs.Steps.{step}
use Rattle.sf_steps.specs.Inverses.{described, frees_only, Fits}
use Rattle.sf_edits.specs.Reverted.{takes_no_memory}
use Rattle.sf_patches.specs.Patches.{NoneGrows}
use Rattle.sf_patches.specs.Halves.{FitsHalves, after_halves}
use Rattle.sf_groups.specs.declared.member.Member.{Member}
use Rattle.sf_groups.specs.Members.{Refused, together}
use Rattle.sf_ruled_store.specs.declared.changes.undo.Undo.{Undo}
use Rattle.sf_ruled_store.specs.declared.changes.undo.Undo.TheVariants as undos
use Rattle.sf_ruled_store.specs.declared.changes.redo.Redo.{Redo}
use Rattle.sf_ruled_store.specs.declared.changes.redo.Redo.TheVariants as redos

-- ---- changes

-- what changes a content as one step: an edit, or several edits of features
pub data Change : Type 0 where
  OfEdit : Edit → Change
  OfGroup : List Member → Change

-- the content that an accepted edit leads to, and an accepted group
abbrev pub edit_led : Result (Content × Answer) Refusal → Option Content
edit_led (Ok done) = Some done.0
edit_led (Err refusal) = None

abbrev pub group_led : Result (Content × List ℕ) Refused → Option Content
group_led (Ok done) = Some done.0
group_led (Err refused) = None

-- the content that a change leads to; none where it is refused
abbrev pub led_by : Content → Change → Option Content
led_by content (OfEdit edit) = edit_led (step content edit)
led_by content (OfGroup members) = group_led (together content members)

-- ---- what takes them back

-- the content that is led back to
abbrev pub undone_by : Content → Undo → Content
undone_by content (undos.Edit inverse) = described content inverse
undone_by content (undos.Group halves) = after_halves content halves

-- it can be carried out from a content
abbrev pub FitsUndo : Content → Undo → Type 0
FitsUndo content (undos.Edit inverse) = Fits content inverse
FitsUndo content (undos.Group halves) = FitsHalves content halves

-- it only removes and exchanges, for which no memory is needed
abbrev pub FreesOnly : Content → Undo → Type 0
FreesOnly content (undos.Edit inverse) = IsTrue (frees_only content inverse)
FreesOnly content (undos.Group halves) = NoneGrows content halves.growing

-- ---- what makes them again

-- the content that is led to again
abbrev pub redone_by : Content → Redo → Content
redone_by content (redos.Edit edit) = option_map_or (λ next. next) (edit_led (step content edit)) content
redone_by content (redos.Group halves) = after_halves content halves

-- it can be carried out from a content
abbrev pub FitsRedo : Content → Redo → Type 0
FitsRedo content (redos.Edit edit) = IsOk (step content edit)
FitsRedo content (redos.Group halves) = FitsHalves content halves

-- it only removes and exchanges, for which no memory is needed
abbrev pub TakesNoMemory : Content → Redo → Type 0
TakesNoMemory content (redos.Edit edit) = IsTrue (takes_no_memory edit)
TakesNoMemory content (redos.Group halves) = NoneGrows content halves.growing

-- ---- the two calls

-- it is taken back from old to new, and this makes it again
pub record TakesBack (old : Content) (undo : Undo) (redo : Redo) (new : Content) : Type 0 where
  pub undone : new ≡ undone_by old undo
  pub again : redone_by new redo ≡ old
  pub fits : FitsRedo new redo

-- it is made again from old to new, and this takes it back
pub record MakesAgain (old : Content) (redo : Redo) (undo : Undo) (new : Content) : Type 0 where
  pub redone : new ≡ redone_by old redo
  pub back : undone_by new undo ≡ old
  pub fits : FitsUndo new undo
