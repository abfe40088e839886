-- Turns lead from contents in which rules hold to such contents.
use Rattle.std.proofs.Common.{◌≡◌, ℕ, List, [], ◌∷◌, Result, Ok, Err, refl, sym, subst}
use Rattle.std.specs.List.{AllByRecursion}
use Rattle.sf_layers.specs.WellFormed.{IsWellFormed}
use Rattle.sf_ruled_store.specs.declared.refusal.Refusal.{Refusal as StepRefusal}
use Rattle.sf_ruled_store.specs.Laws.{IsKept}
use Rattle.sf_ruled_store.specs.Ruled.{Asked as Step, Ruled, ruled_step}
use Rattle.sf_ruled_store.proofs.RuledLaws.{ruled_steps_keep_rules}
use Rattle.sf_history.specs.History.{Machine, Kept, after_step, back_to, forth_to, ruled_in, ruled_now}
use Rattle.sf_history.specs.Laws.{Steps, Undoes, Redoes, KeepsRules, TurnsKeepRules}
use Rattle.sf_history.proofs.LawProofs.{allowed_own, machine-of}

abbrev AllKept : List Kept → Type 0
AllKept contents = AllByRecursion (λ beside. IsKept (ruled_in beside)) contents

step_keeps : (editor : ℕ) (old new : Machine) (asked : Step) (result : Result Ruled StepRefusal) → IsWellFormed old.now → IsWellFormed new.now → KeepsRules old
    → ruled_step (ruled_now old) asked ≡ result → after_step editor old result ≡ Ok new → KeepsRules new
step_keeps editor old new asked (Err refusal) fine fine' keeps is h = cc
step_keeps editor old new asked (Ok next) fine fine' keeps is h =
    let same = machine-of h in
    let holds : IsKept next = ruled_steps_keep_rules (ruled_now old) next asked fine (subst (λ (m : Machine). IsWellFormed m.now) (sym same) fine') keeps.now is in
    subst KeepsRules same (record { now = holds; past = (keeps.now, keeps.past); future = tt })

undo_keeps : (editor : ℕ) (old new : Machine) (past : List Kept) → old.past ≡ past → back_to editor old past ≡ Ok new → KeepsRules old → KeepsRules new
undo_keeps editor old new [] is h keeps = cc
undo_keeps editor old new (before ∷ earlier) is h keeps =
    let all = subst AllKept is keeps.past in
    subst KeepsRules (allowed_own editor before _ new h).1 (record { now = all.0; past = all.1; future = (keeps.now, keeps.future) })

redo_keeps : (editor : ℕ) (old new : Machine) (future : List Kept) → old.future ≡ future → forth_to editor old future ≡ Ok new → KeepsRules old → KeepsRules new
redo_keeps editor old new [] is h keeps = cc
redo_keeps editor old new (after ∷ later) is h keeps =
    let all = subst AllKept is keeps.future in
    subst KeepsRules (allowed_own editor after _ new h).1 (record { now = all.0; past = (keeps.now, keeps.past); future = all.1 })

pub turns_keep_rules : TurnsKeepRules
turns_keep_rules old new (Steps asked) fine fine' keeps h = step_keeps asked.editor old new asked.step (ruled_step (ruled_now old) asked.step) fine fine' keeps refl h
turns_keep_rules old new (Undoes editor) fine fine' keeps h = undo_keeps editor old new old.past refl h keeps
turns_keep_rules old new (Redoes editor) fine fine' keeps h = redo_keeps editor old new old.future refl h keeps
