-- Where edits are kept and answers go: the calls that were made, and what is known of both after them.
use Rattle.std.specs.Prelude.{◌≡◌, ◌⊎◌, ℕ, Bool, true, false, List, [], ◌∷◌, ◌++◌, Option, None, Some, if◌then◌else◌}
pub use Rattle.sf_folder.specs.Calls.{Call, AnswerFails, Answers, Does as Makes}
use Rattle.sf_folder.specs.Calls.{SyncFails, SyncsFile, WriteFails, Writes}
use Rattle.sf_folder.specs.declared.names.Name.TheVariants.{Journal as TheJournal}
use Rattle.sf_keeping.specs.declared.desk.KeepFault.{KeepFault}
use Rattle.sf_keeping.specs.declared.desk.KeepFault.TheVariants.{Journal, Write}

-- Bytes were put behind the journal; or that failed, and a front of them may stand there
abbrev pub appends : List ℕ → Call
appends bytes = Writes TheJournal bytes

abbrev pub append_fails : List ℕ → Call
append_fails bytes = WriteFails TheJournal bytes

-- all bytes before are on the disk, as was reported; or that failed
abbrev pub syncs : Call
syncs = SyncsFile TheJournal

abbrev pub sync_fails : Call
sync_fails = SyncFails TheJournal

-- the last call failed, by this fault
abbrev pub LastFails : KeepFault → List Call → Type 0
LastFails Journal calls =
    (before : List Call) × ((calls ≡ before ++ sync_fails ∷ []) ⊎ ((bytes : List ℕ) × (calls ≡ before ++ append_fails bytes ∷ [])))
LastFails Write calls = (before : List Call) × (bytes : List ℕ) × (calls ≡ before ++ AnswerFails bytes ∷ [])
LastFails other calls = ⊥

-- the bytes of the journal that a crash leaves in any case, and those behind them of which it leaves some front; the bytes that
-- were put out at most; and whether a call failed. Behind such a call nothing more is known to be kept
pub record Standing : Type 0 where
  pub kept : List ℕ
  pub waiting : List ℕ
  pub answered : List ℕ
  pub broken : Bool

-- before the first call
abbrev pub nothing_yet : Standing
nothing_yet = record { kept = []; waiting = []; answered = []; broken = false }

-- after one more call; behind any other than these nothing is known of the journal
abbrev pub after_call : Standing → Call → Standing
after_call standing (Writes TheJournal bytes) = record standing { waiting = standing.waiting ++ bytes }
after_call standing (WriteFails TheJournal bytes) = record standing { waiting = standing.waiting ++ bytes; broken = true }
after_call standing (SyncsFile TheJournal) = if standing.broken then standing else record standing { kept = standing.kept ++ standing.waiting; waiting = [] }
after_call standing (SyncFails TheJournal) = record standing { broken = true }
after_call standing (Answers bytes) = record standing { answered = standing.answered ++ bytes }
after_call standing (AnswerFails bytes) = record standing { answered = standing.answered ++ bytes; broken = true }
after_call standing other = record standing { kept = []; waiting = []; broken = true }

-- after several calls
abbrev pub after_calls : Standing → List Call → Standing
after_calls standing [] = standing
after_calls standing (call ∷ calls) = after_calls (after_call standing call) calls
