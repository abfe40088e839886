-- What a session did before a fault.
use Rattle.std.specs.Prelude.{◌≡◌, ◌⊎◌, Bool, false, ℕ, ◌+◌, List, [], ◌∷◌, ◌++◌, length, min, Option, None, codes}
use Rattle.sf_journal.specs.Crc.{crc}
use Rattle.sf_journal.specs.Records.{head_with}
use Rattle.sf_folder.specs.Calls.{AnswerFails, Call, Does, FindsNone, Locks, Opens, Refuses, Tries}
use Rattle.sf_folder.specs.declared.choosing.Chosen.{Chosen}
use Rattle.sf_folder.specs.Renewals.{Chooses, renewing_calls}
use Rattle.sf_loading.specs.Loading.{FailsBy}
use Rattle.sf_saving.specs.Canonical.{canonical_ruled}
use Rattle.sf_keeping.specs.History.{Machine, ruled_now}
use Rattle.sf_keeping.specs.declared.desk.KeepFault.{KeepFault}
use Rattle.sf_keeping.specs.declared.desk.KeepFault.TheVariants as keeping
use Rattle.sf_keeping.specs.declared.keeping.Stop.TheVariants as stops
use Rattle.sf_keeping.specs.declared.replaying.ReplayFault.{ReplayFault}
use Rattle.sf_keeping.specs.declared.replaying.ReplayFault.TheVariants as replaying
use Rattle.sf_keeping.specs.Replays.{FailsAt}
use Rattle.sf_keeping.specs.Serving.{EndsKept, ServesKept}
use Rattle.sf_session.specs.declared.fault.HomeFault.{HomeFault}
use Rattle.sf_session.specs.declared.fault.HomeFault.TheVariants as homes
use Rattle.sf_session.specs.declared.fault.JournalFault.{JournalFault}
use Rattle.sf_session.specs.declared.fault.JournalFault.TheVariants as journals
use Rattle.sf_session.specs.declared.fault.SessionFault.{SessionFault}
use Rattle.sf_session.specs.declared.fault.SessionFault.TheVariants.{Home, Load, Journal, Serve, Save, SaveChanged}
use Rattle.sf_session.specs.Openings.{BeginsWith, Counts, Found, IsHeadAlone, finding_calls, reading_calls, records_that_count}
use Rattle.sf_session.specs.Saving.{HasSaved, IsUnsaved}
use Rattle.sf_session.specs.Sessions.{HasBegun, Place, SavesTimes, ServesAll}

-- a front of some calls was made, and the next one was refused
abbrev pub IsRefusedIn : List Call → Option (List Call) → Option (List Call) → Type 0
IsRefusedIn calls before after = (made : List Call) × (rest : List Call) × (calls ≡ made ++ rest) × Does before after (made ++ Refuses ∷ [])

-- the file could not be found; or it is not there, and no memory was found for a new store
abbrev pub IsUnfound : HomeFault → Option (List Call) → Option (List Call) → Type 0
IsUnfound fault before after = ((found : Found) × IsRefusedIn (finding_calls found) before after)
    ⊎ (((fault ≡ homes.Memory) ⊎ (fault ≡ homes.Read)) × Does before after (FindsNone ∷ []))

-- the file could not be had, or it has no content
abbrev pub IsUnloaded : SessionFault → Option (List Call) → Option (List Call) → Type 0
IsUnloaded (Home fault) before after = IsUnfound fault before after
IsUnloaded (Load fault) before after = (bytes : Option (List ℕ)) × (left : Option (List ℕ)) × FailsBy bytes left fault × Does before after (Opens bytes ∷ [])
IsUnloaded other before after = ⊥

-- the bytes have no content, and this is their first fault; or the file could not be looked at
abbrev pub HasNoContent : SessionFault → Option (List ℕ) → Option (List Call) → Option (List Call) → Type 0
HasNoContent (Home fault) bytes before after = Does before after (Refuses ∷ [])
HasNoContent (Load fault) bytes before after = (left : Option (List ℕ)) × FailsBy bytes left fault × (after ≡ before)
HasNoContent other bytes before after = ⊥

-- both journals were read, and nothing else was done
abbrev pub HasRead : Option (List Call) → Option (List Call) → (Option (List ℕ) → Option (List ℕ) → Type 0) → Type 0
HasRead before after P = (journal : Option (List ℕ)) × (beside : Option (List ℕ)) × P journal beside × Does before after (reading_calls journal beside)

-- a place behind the head of a journal, as it is told; one that is too great is told as the greatest
abbrev pub place_behind : List ℕ → ℕ → ℕ
place_behind head place = min (length head + place) 18446744073709551615

-- a journal counts, and replaying it fails at a place by this fault
abbrev pub FailsBehind : List ℕ → Machine → (ℕ → ReplayFault) → ℕ → Option (List ℕ) → Option (List ℕ) → Type 0
FailsBehind head machine fault told journal beside =
    (chosen : Chosen) × Counts head journal beside chosen × (place : ℕ) × (told ≡ place_behind head place)
    × FailsAt (crc head) (records_that_count head chosen journal beside) machine (fault place)

-- memory ran out; or none of the journals counts
abbrev pub IsUnchosen : SessionFault → List ℕ → Option (List ℕ) → Option (List ℕ) → Type 0
IsUnchosen fault head journal beside = (fault ≡ Journal journals.Memory)
    ⊎ ((fault ≡ Journal journals.OtherFile) × Chooses head journal beside None × (IsHeadAlone journal → ⊥))

-- the journal that counts could not be replayed, or none counts, and nothing was done; or a front of the calls was made by which one
-- is written anew
abbrev pub IsUnrenewed : SessionFault → List ℕ → Option (List ℕ) → Option (List ℕ) → Machine → Option (List Call) → Option (List Call) → Type 0
IsUnrenewed (Journal (journals.Damaged place)) head journal beside machine before after =
    FailsBehind head machine replaying.Damaged place journal beside × (after ≡ before)
IsUnrenewed (Journal (journals.NotAccepted place)) head journal beside machine before after =
    FailsBehind head machine replaying.NotAccepted place journal beside × (after ≡ before)
IsUnrenewed (Journal journals.OtherFile) head journal beside machine before after =
    Chooses head journal beside None × (IsHeadAlone journal → ⊥) × (after ≡ before)
IsUnrenewed (Journal journals.Memory) head journal beside machine before after =
    (chosen : Chosen) × (records : List ℕ) × Tries before after (renewing_calls chosen head records)
IsUnrenewed (Journal journals.Write) head journal beside machine before after =
    (chosen : Chosen) × (records : List ℕ) × Tries before after (renewing_calls chosen head records)
IsUnrenewed other head journal beside machine before after = ⊥

-- a journal could not be read; or both were read, and then a front of the calls was made by which one is written anew
abbrev pub IsUnwritten : List ℕ → Option (List Call) → Option (List Call) → Type 0
IsUnwritten head before after =
    ((journal : Option (List ℕ)) × (beside : Option (List ℕ)) × IsRefusedIn (reading_calls journal beside) before after)
    ⊎ ((read : Option (List Call)) × HasRead before read (λ journal beside. Unit {0}) × (chosen : Chosen) × (records : List ℕ) × Tries read after (renewing_calls chosen head records))

-- replaying records behind a head of so many bytes failed by the fault
abbrev pub IsUnreplayed : SessionFault → ℕ → ℕ → List ℕ → Machine → Type 0
IsUnreplayed (Journal (journals.Damaged told)) front sum bytes machine =
    (place : ℕ) × (told ≡ min (front + place) 18446744073709551615) × FailsAt sum bytes machine (replaying.Damaged place)
IsUnreplayed (Journal (journals.NotAccepted told)) front sum bytes machine =
    (place : ℕ) × (told ≡ min (front + place) 18446744073709551615) × FailsAt sum bytes machine (replaying.NotAccepted place)
IsUnreplayed (Journal journals.Memory) front sum bytes machine = Unit {0}
IsUnreplayed other front sum bytes machine = ⊥

-- a fault of replaying is told so, whatever was replayed
abbrev pub TellsReplayFault : ReplayFault → ℕ → SessionFault → Type 0
TellsReplayFault fault front told = (sum : ℕ) (bytes : List ℕ) (machine : Machine) → FailsAt sum bytes machine fault → IsUnreplayed told front sum bytes machine

-- the journal could not be opened
abbrev pub IsUnopened : JournalFault → List ℕ → Machine → Option (List Call) → Option (List Call) → Type 0
IsUnopened (journals.Damaged place) head machine before after = HasRead before after (FailsBehind head machine replaying.Damaged place)
IsUnopened (journals.NotAccepted place) head machine before after = HasRead before after (FailsBehind head machine replaying.NotAccepted place)
IsUnopened journals.OtherFile head machine before after = HasRead before after (λ journal beside. Chooses head journal beside None × (IsHeadAlone journal → ⊥))
IsUnopened other head machine before after = IsUnwritten head before after

-- and that is the fault
abbrev pub IsUnopenedBy : SessionFault → List ℕ → Machine → Option (List Call) → Option (List Call) → Type 0
IsUnopenedBy (Journal fault) head machine before after = IsUnopened fault head machine before after
IsUnopenedBy other head machine before after = ⊥

-- a save failed, or another program had changed the store's file
abbrev pub IsSaveFault : SessionFault → Type 0
IsSaveFault (Save fault) = Unit {0}
IsSaveFault SaveChanged = Unit {0}
IsSaveFault other = ⊥

-- the lines up to one that asks for a save were answered, and what they left was saved; that line could not be answered
pub record IsUnanswered (last : Place) (left : Option (List ℕ)) (now : Option (List Call)) : Type 0 where
  pub machine : Machine
  pub served : Option (List Call)
  pub rest : List ℕ
  pub behind : ℕ
  pub serves : ServesKept stops.Save last.unread left last.ahead rest last.calls served last.sum behind last.machine machine
  pub saved : Option (List Call)
  pub sum : ℕ
  pub saves : HasSaved (canonical_ruled (ruled_now machine)) served saved sum
  pub fails : Does saved now (AnswerFails (codes "ok\n") ∷ [])

-- the lines up to one that asks for a save were answered, and what they left could not be saved
pub record IsServedUnsaved (last : Place) (left : Option (List ℕ)) (now : Option (List Call)) : Type 0 where
  pub machine : Machine
  pub served : Option (List Call)
  pub rest : List ℕ
  pub behind : ℕ
  pub serves : ServesKept stops.Save last.unread left last.ahead rest last.calls served last.sum behind last.machine machine
  pub unsaved : IsUnsaved (canonical_ruled (ruled_now machine)) served now

-- serving, or the answer to a save, ended by the fault
abbrev pub IsUnserved : KeepFault → Place → Option (List ℕ) → Option (List Call) → Type 0
IsUnserved fault last left now =
    ((machine : Machine) × EndsKept fault last.unread left last.ahead last.calls now last.sum last.machine machine)
    ⊎ ((fault ≡ keeping.Write) × IsUnanswered last left now)

-- behind some saves, serving or a save ended by the fault
abbrev pub BreaksOff : SessionFault → Place → Option (List ℕ) → Option (List Call) → Type 0
BreaksOff (Serve fault) first left now = (saves : ℕ) × (last : Place) × SavesTimes saves first last × IsUnserved fault last left now
BreaksOff (Save fault) first left now = (saves : ℕ) × (last : Place) × SavesTimes saves first last × IsServedUnsaved last left now
BreaksOff SaveChanged first left now = (saves : ℕ) × (last : Place) × SavesTimes saves first last × IsServedUnsaved last left now
BreaksOff other first left now = ⊥

-- all lines were answered, and what they left could not be saved at the end, where it is to be
abbrev pub IsUnsavedAtEnd : Bool → SessionFault → Place → Option (List ℕ) → Option (List Call) → Type 0
IsUnsavedAtEnd keep fault first left now = (keep ≡ false) × IsSaveFault fault × (served : Option (List Call)) × (machine : Machine)
    × ServesAll first left served machine × IsUnsaved (canonical_ruled (ruled_now machine)) served now

-- a session that has begun ended by the fault
abbrev pub FailsServing : Bool → SessionFault → Place → Option (List ℕ) → Option (List Call) → Type 0
FailsServing keep fault first left now = BreaksOff fault first left now ⊎ IsUnsavedAtEnd keep fault first left now

-- the lock was taken, and the file was loaded
abbrev pub HasLoaded : Option (List Call) → Option (List Call) → (ℕ → List ℕ → Machine → Type 0) → Type 0
HasLoaded start loaded P = (found : Found) × (size : ℕ) × (digest : List ℕ) × (machine : Machine)
    × BeginsWith found size digest machine × Does start loaded (Locks ∷ finding_calls found) × P size digest machine

-- what was done before a session could begin: nothing was written or put out, but perhaps a part of a journal that is written anew
abbrev pub IsUnbegun : SessionFault → Option (List Call) → Option (List Call) → Type 0
IsUnbegun (Home fault) start now = Does start now (Refuses ∷ []) ⊎ ((locked : Option (List Call)) × Does start locked (Locks ∷ []) × IsUnloaded (Home fault) locked now)
IsUnbegun (Load fault) start now = (locked : Option (List Call)) × Does start locked (Locks ∷ []) × IsUnloaded (Load fault) locked now
IsUnbegun (Journal fault) start now =
    (loaded : Option (List Call)) × HasLoaded start loaded (λ size digest machine. IsUnopened fault (head_with size digest) machine loaded now)
IsUnbegun other start now = ⊥

-- what was done before a session ended by the fault: where it could not begin, nothing of the input was read
abbrev pub EndsBy : Bool → SessionFault → Option (List ℕ) → Option (List ℕ) → Option (List Call) → Option (List Call) → Type 0
EndsBy keep fault unread left start now =
    ((left ≡ unread) × IsUnbegun fault start now) ⊎ ((first : Place) × HasBegun unread start first × FailsServing keep fault first left now)
