-- Internal: who wants to trust the program need not read this file.
-- What waits to be kept and to be answered.
use Rattle.std.specs.Prelude.{◌≡◌, ◌⊎◌, ℕ, List, [], ◌∷◌, ◌++◌}
use Rattle.sf_journal.specs.Records.{record_of, sum_with}
use Rattle.sf_keeping.specs.Desks.{Call}
use Rattle.sf_keeping.specs.Desks.{AnswerFails, Answers, append_fails, appends, sync_fails, syncs}
use Rattle.sf_keeping.specs.declared.desk.KeepFault.{KeepFault}
use Rattle.sf_keeping.specs.declared.desk.KeepFault.TheVariants.{Journal, Write}

-- the sum behind the records so far, the records that are not in the journal yet, and the answers that were not put out
pub record Waiting : Type 0 where
  pub sum : ℕ
  pub records : List ℕ
  pub answers : List ℕ

-- nothing waits
abbrev pub nothing_waits : ℕ → Waiting
nothing_waits sum = record { sum = sum; records = []; answers = [] }

-- a text more is to be kept
abbrev pub with_text : Waiting → List ℕ → Waiting
with_text waiting text = record waiting { sum = sum_with waiting.sum text; records = waiting.records ++ record_of waiting.sum text }

-- an answer more is to be put out
abbrev pub with_answer : Waiting → List ℕ → Waiting
with_answer waiting answer = record waiting { answers = waiting.answers ++ answer }

-- records go into the journal, and it is synced, where there are any
abbrev pub keeping_calls : List ℕ → List Call
keeping_calls [] = []
keeping_calls (byte ∷ bytes) = appends (byte ∷ bytes) ∷ syncs ∷ []

-- answers are put out, where there are any
abbrev pub answering_calls : List ℕ → List Call
answering_calls [] = []
answering_calls (byte ∷ bytes) = Answers (byte ∷ bytes) ∷ []

-- what waits is kept, and then it is answered
abbrev pub committing_calls : Waiting → List Call
committing_calls waiting = keeping_calls waiting.records ++ answering_calls waiting.answers

-- it broke off at the journal: the records could not be appended, or not be synced
abbrev pub IsBrokenKeeping : List ℕ → List Call → Type 0
IsBrokenKeeping records calls = (calls ≡ append_fails records ∷ []) ⊎ (calls ≡ appends records ∷ sync_fails ∷ [])

-- it broke off by this fault: there, or at the answers
abbrev pub IsBrokenOff : KeepFault → Waiting → List Call → Type 0
IsBrokenOff Journal waiting calls = IsBrokenKeeping waiting.records calls
IsBrokenOff Write waiting calls = calls ≡ keeping_calls waiting.records ++ AnswerFails waiting.answers ∷ []
IsBrokenOff other waiting calls = ⊥
