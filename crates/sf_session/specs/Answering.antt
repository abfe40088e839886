-- Internal: who wants to trust the program need not read this file.
-- A save that a line asks for, and its answer.
use Rattle.std.specs.Prelude.{◌≡◌, ℕ, List, [], ◌∷◌, Option, codes}
use Rattle.sf_folder.specs.Calls.{AnswerFails, Answers, Call, Does}
use Rattle.sf_saving.specs.Canonical.{canonical_ruled}
use Rattle.sf_keeping.specs.History.{Machine, ruled_now}
use Rattle.sf_keeping.specs.declared.desk.KeepFault.TheVariants.{Write}
use Rattle.sf_session.specs.declared.fault.SessionFault.{SessionFault}
use Rattle.sf_session.specs.declared.fault.SessionFault.TheVariants.{Save, SaveChanged, Serve}
use Rattle.sf_session.specs.Saving.{HasSaved, IsUnsaved}

-- it was saved, and the line was answered
pub record SavesAnswered (machine : Machine) (before after : Option (List Call)) (sum : ℕ) : Type 0 where
  pub saved : Option (List Call)
  pub saves : HasSaved (canonical_ruled (ruled_now machine)) before saved sum
  pub answers : Does saved after (Answers (codes "ok\n") ∷ [])

-- it was saved, and the line could not be answered
pub record SavesUnanswered (machine : Machine) (before after : Option (List Call)) : Type 0 where
  pub saved : Option (List Call)
  pub sum : ℕ
  pub saves : HasSaved (canonical_ruled (ruled_now machine)) before saved sum
  pub fails : Does saved after (AnswerFails (codes "ok\n") ∷ [])

-- it could not be saved, or not be answered
abbrev pub IsUnkept : SessionFault → Machine → Option (List Call) → Option (List Call) → Type 0
IsUnkept (Serve fault) machine before after = (fault ≡ Write) × SavesUnanswered machine before after
IsUnkept (Save fault) machine before after = IsUnsaved (canonical_ruled (ruled_now machine)) before after
IsUnkept SaveChanged machine before after = IsUnsaved (canonical_ruled (ruled_now machine)) before after
IsUnkept other machine before after = ⊥
