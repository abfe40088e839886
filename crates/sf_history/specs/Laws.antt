-- The laws of the history.
use Rattle.std.specs.Prelude.{◌≡◌, ◌≢◌, ◌⊎◌, ℕ, List, [], ◌∷◌, map, reverse, fold, filter, Contains, Result, Ok, Err, IsOkAnd, nat_eq}
use Rattle.std.specs.List.{AllByRecursion}
use Rattle.sf_layers.specs.WellFormed.{IsWellFormed}
use Rattle.sf_ruled_store.specs.declared.undo.Undo.{Undo}
use Rattle.sf_ruled_store.specs.Laws.{IsKept}
use Rattle.sf_ruled_store.specs.Ruled.{Asked as Step, Ruled, ruled_step}
use Rattle.sf_ruled_store.specs.Undos.{FitsUndoUnder, undone_under}
use Rattle.sf_refusals.specs.declared.refusal.Refusal.{Refusal}
use Rattle.sf_history.specs.History.{Machine, Kept, fresh_under, ruled_in, ruled_now, stepped, undone, redone, FitInTurn}

-- a step, and the editor who asks for it
pub record Asked : Type 0 where
  pub editor : ℕ
  pub step : Step

-- the steps, each accepted, lead from the first machine to the last
abbrev pub Accepted : Machine → List Asked → Machine → Type 0
Accepted first [] last = last ≡ first
Accepted first (asked ∷ more) last =
    (mid : Machine) × (stepped asked.editor first asked.step ≡ Ok mid) × Accepted mid more last

-- undo by the editor, once more
abbrev pub undone_after : ℕ → Result Machine Refusal → Result Machine Refusal
undone_after editor (Ok machine) = undone editor machine
undone_after editor (Err refusal) = Err refusal

-- the machine after the steps were undone, the last one first, each by its editor; or the refusal of one of the undos
abbrev pub undone_in_turn : Machine → List Asked → Result Machine Refusal
undone_in_turn machine [] = Ok machine
undone_in_turn machine (asked ∷ more) = undone_after asked.editor (undone_in_turn machine more)

-- the content, the rules and the past are those of the machine
pub record IsBackAt (machine back : Machine) : Type 0 where
  pub now : back.now ≡ machine.now
  pub rules : back.rules ≡ machine.rules
  pub past : back.past ≡ machine.past

-- after accepted steps, as many undos, each by the editor of its step, give the first content, its rules and the first past
abbrev pub UndoLaw : Type 0
UndoLaw =
    (first last : Machine) (steps : List Asked) → Accepted first steps last
    → IsOkAnd (undone_in_turn last steps) (IsBackAt first)

-- what an undo does a redo by the same editor takes back, and what a redo does an undo
abbrev pub RedoLaw : Type 0
RedoLaw =
    (editor : ℕ) (first last : Machine)
    → (undone editor first ≡ Ok last → redone editor last ≡ Ok first) × (redone editor first ≡ Ok last → undone editor last ≡ Ok first)

-- this takes one content with its rules back to another
abbrev pub LeadsBack : Ruled → Undo → Ruled → Type 0
LeadsBack ruled undo before = (undone_under ruled undo ≡ before) × FitsUndoUnder ruled undo

-- the steps lead from the first content to the last, and what each gave takes the content after it back
abbrev pub Led : Ruled → List (Step × Undo) → Ruled → Type 0
Led first [] last = last ≡ first
Led first (pair ∷ pairs) last =
    (mid : Ruled) × (ruled_step first pair.0 ≡ Ok mid) × LeadsBack mid pair.1 first × Led mid pairs last

-- what the steps gave, last first, fits in turn and takes the last content to the first
abbrev pub InversesLaw : Type 0
InversesLaw =
    (first last : Ruled) (pairs : List (Step × Undo)) → Led first pairs last
    → FitInTurn last (reverse (map (λ pair. pair.1) pairs))
    × (fold undone_under last (reverse (map (λ pair. pair.1) pairs)) ≡ first)

-- what an editor asks of the history: a step, an undo or a redo
pub data Turn : Type 0 where
  Steps : Asked → Turn
  Undoes : ℕ → Turn
  Redoes : ℕ → Turn

-- the turn leads from the one machine to the other
abbrev pub Leads : Machine → Turn → Machine → Type 0
Leads old (Steps asked) new = stepped asked.editor old asked.step ≡ Ok new
Leads old (Undoes editor) new = undone editor old ≡ Ok new
Leads old (Redoes editor) new = redone editor old ≡ Ok new

-- the turns, one after another, lead from the first machine to the last; each is carried out or, refused, changes nothing
abbrev pub LeadInTurn : Machine → List Turn → Machine → Type 0
LeadInTurn first [] last = last ≡ first
LeadInTurn first (turn ∷ turns) last = (mid : Machine) × (Leads first turn mid ⊎ (mid ≡ first)) × LeadInTurn mid turns last

-- the step from the one content to the other was made, in one of the turns, by the editor
pub record IsMadeBy (turns : List Turn) (editor : ℕ) (before after : Ruled) : Type 0 where
  pub step : Step
  pub asked : Contains turns (Steps (record { editor = editor; step = step }))
  pub leads : ruled_step before step ≡ Ok after

-- the steps of an editor among those beside these contents
abbrev pub steps_of : ℕ → List Kept → List Kept
steps_of editor = filter (λ beside. nat_eq beside.editor editor)

-- the steps of all editors but one stand where they stood
abbrev pub KeepsOthers : ℕ → Machine → Machine → Type 0
KeepsOthers editor old new =
    (other : ℕ) → other ≢ editor
    → (steps_of other new.past ≡ steps_of other old.past) × (steps_of other new.future ≡ steps_of other old.future)

-- whatever all editors asked before, an undo or redo that is carried out moves a step that was made by the editor who asks, and no
-- step of another
pub record MovesOwn (turns : List Turn) (machine : Machine) (editor : ℕ) (next : Machine) : Type 0 where
  pub undo : undone editor machine ≡ Ok next → IsMadeBy turns editor (ruled_now next) (ruled_now machine) × KeepsOthers editor machine next
  pub redo : redone editor machine ≡ Ok next → IsMadeBy turns editor (ruled_now machine) (ruled_now next) × KeepsOthers editor machine next

abbrev pub OwnStepsLaw : Type 0
OwnStepsLaw =
    (first : Ruled) (turns : List Turn) (machine : Machine) → LeadInTurn (fresh_under first) turns machine
    → (editor : ℕ) (next : Machine) → MovesOwn turns machine editor next

-- the rules of each content hold in it, over all points of the plane: now, and whatever undo and redo lead to
pub record KeepsRules (machine : Machine) : Type 0 where
  pub now : IsKept (ruled_now machine)
  pub past : AllByRecursion (λ beside. IsKept (ruled_in beside)) machine.past
  pub future : AllByRecursion (λ beside. IsKept (ruled_in beside)) machine.future

-- a turn that is carried out leads from such a machine to such a one
abbrev pub TurnsKeepRules : Type 0
TurnsKeepRules =
    (old new : Machine) (turn : Turn) → IsWellFormed old.now → IsWellFormed new.now → KeepsRules old → Leads old turn new
    → KeepsRules new
