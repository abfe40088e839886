-- The history of the steps of several editors: an edit, several edits of features, a rule added, or a rule dropped. It keeps whole
-- contents with their rules.
use Rattle.std.specs.Prelude.{ℕ, List, [], ◌∷◌, Result, Ok, Err, nat_eq, if◌then◌else◌}
use Rattle.sf_layers.specs.Content.{Content}
use Rattle.sf_ruled_store.specs.Stepped.{Answer, Edit, EditRefusal, Member, OfEdit, OfGroup, Refused, Rule, step, together}
use Rattle.sf_ruled_store.specs.declared.undo.Undo.{Undo}
use Rattle.sf_ruled_store.specs.declared.redo.Redo.{Redo}
use Rattle.sf_ruled_store.specs.declared.refusal.Refusal.{Refusal as StepRefusal}
use Rattle.sf_ruled_store.specs.declared.refusal.Refusal.TheVariants.{ByEdit, ByMember}
use Rattle.sf_ruled_store.specs.Ruled.{Asked as Step, OfChange, Ruled, ruled_step}
use Rattle.sf_ruled_store.specs.Undos.{FitsRedoUnder, FitsUndoUnder, redone_under, undone_under}
use Rattle.sf_refusals.specs.declared.refusal.Refusal.{Refusal}
use Rattle.sf_refusals.specs.declared.refusal.Refusal.TheVariants.{NothingToUndo, NothingToRedo, NotYours}

-- a past or future content with its rules, and the editor who made the step beside it
pub record Kept : Type 0 where
  pub content : Content
  pub rules : List Rule
  pub editor : ℕ

-- the content and the rules now, what was, the latest first, and what can be redone, the next first
pub record Machine : Type 0 where
  pub past : List Kept
  pub now : Content
  pub rules : List Rule
  pub future : List Kept

-- a content with its rules: that of now, and a past or future one
abbrev pub ruled_now : Machine → Ruled
ruled_now machine = record { content = machine.now; rules = machine.rules }

abbrev pub ruled_in : Kept → Ruled
ruled_in beside = record { content = beside.content; rules = beside.rules }

-- a content with its rules beside a step of the editor
abbrev pub kept : ℕ → Ruled → Kept
kept editor ruled = record { content = ruled.content; rules = ruled.rules; editor = editor }

-- a machine with neither past nor future
abbrev pub fresh_under : Ruled → Machine
fresh_under ruled = record { past = []; now = ruled.content; rules = ruled.rules; future = [] }

-- and with no rule
abbrev pub fresh : Content → Machine
fresh content = fresh_under (record { content = content; rules = [] })

-- ---- steps

-- the machine after an accepted step of the editor: the future is emptied
abbrev pub advanced : ℕ → Machine → Ruled → Machine
advanced editor machine next = record {
  past = kept editor (ruled_now machine) ∷ machine.past;
  now = next.content;
  rules = next.rules;
  future = [];
}

abbrev pub after_step : ℕ → Machine → Result Ruled StepRefusal → Result Machine StepRefusal
after_step editor machine (Ok next) = Ok (advanced editor machine next)
after_step editor machine (Err refusal) = Err refusal

-- what a step of the editor makes of the machine, if memory does not run out
abbrev pub stepped : ℕ → Machine → Step → Result Machine StepRefusal
stepped editor machine asked = after_step editor machine (ruled_step (ruled_now machine) asked)

-- with what a change gives
abbrev pub giving : {X : Type 0} → X → Result Machine StepRefusal → Result (Machine × X) StepRefusal
giving given (Ok machine) = Ok (machine, given)
giving given (Err refusal) = Err refusal

-- with the answer of an edit
abbrev pub answering : Result Machine StepRefusal → Result (Content × Answer) EditRefusal → Result (Machine × Answer) StepRefusal
answering result (Ok done) = giving done.1 result
answering result (Err refusal) = Err (ByEdit refusal)

-- what an edit of the editor makes of the machine, with its answer, if memory does not run out
abbrev pub edited : ℕ → Machine → Edit → Result (Machine × Answer) StepRefusal
edited editor machine edit = answering (stepped editor machine (OfChange (OfEdit edit))) (step machine.now edit)

-- with the identifiers of a group
abbrev pub identifying : Result Machine StepRefusal → Result (Content × List ℕ) Refused → Result (Machine × List ℕ) StepRefusal
identifying result (Ok done) = giving done.1 result
identifying result (Err refused) = Err (ByMember refused.member refused.refusal)

-- what several edits of the editor make of the machine as one step, with their identifiers, if memory does not run out
abbrev pub grouped : ℕ → Machine → List Member → Result (Machine × List ℕ) StepRefusal
grouped editor machine members =
    identifying (stepped editor machine (OfChange (OfGroup members))) (together machine.now members)

-- ---- undo and redo

-- the machine where the step is the editor's; else it is refused, and the refusal names the one whose it is
abbrev pub if_own : ℕ → Kept → Machine → Result Machine Refusal
if_own editor beside machine = if nat_eq beside.editor editor then Ok machine else Err (NotYours beside.editor)

-- the machine at the last of these past contents, with the content now as the next future one
abbrev pub back_to : ℕ → Machine → List Kept → Result Machine Refusal
back_to editor machine [] = Err NothingToUndo
back_to editor machine (before ∷ earlier) = if_own editor before (record {
  past = earlier;
  now = before.content;
  rules = before.rules;
  future = kept before.editor (ruled_now machine) ∷ machine.future;
})

-- the machine at the next of these future contents, with the content now as the last past one
abbrev pub forth_to : ℕ → Machine → List Kept → Result Machine Refusal
forth_to editor machine [] = Err NothingToRedo
forth_to editor machine (after ∷ later) = if_own editor after (record {
  past = kept after.editor (ruled_now machine) ∷ machine.past;
  now = after.content;
  rules = after.rules;
  future = later;
})

-- what undo by the editor makes of the machine, if memory does not run out
abbrev pub undone : ℕ → Machine → Result Machine Refusal
undone editor machine = back_to editor machine machine.past

-- what redo by the editor makes of the machine, if memory does not run out
abbrev pub redone : ℕ → Machine → Result Machine Refusal
redone editor machine = forth_to editor machine machine.future

-- ---- what an editor keeps

-- the contents that are led back to, one after another, each with the editor of its step
abbrev pub past_of : Ruled → List Undo → List ℕ → List Kept
past_of ruled (undo ∷ undos) (editor ∷ editors) =
    let before = undone_under ruled undo in kept editor before ∷ past_of before undos editors
past_of ruled undos editors = []

-- each of these can be carried out from the content that the ones before it led back to
abbrev pub FitInTurn : Ruled → List Undo → Type 0
FitInTurn ruled [] = Unit {0}
FitInTurn ruled (undo ∷ undos) = FitsUndoUnder ruled undo × FitInTurn (undone_under ruled undo) undos

-- the contents that are led to again, one after another, each with the editor of its step
abbrev pub future_of : Ruled → List Redo → List ℕ → List Kept
future_of ruled (redo ∷ redos) (editor ∷ editors) =
    let next = redone_under ruled redo in kept editor next ∷ future_of next redos editors
future_of ruled redos editors = []

-- each of these can be carried out from the content that the ones before it led to
abbrev pub LeadOnInTurn : Ruled → List Redo → Type 0
LeadOnInTurn ruled [] = Unit {0}
LeadOnInTurn ruled (redo ∷ redos) = FitsRedoUnder ruled redo × LeadOnInTurn (redone_under ruled redo) redos
