-- How a session goes on.
use Rattle.std.proofs.Common.{◌≡◌, inl, inr, ℕ, suc, List, [], ◌∷◌, Option, refl, subst, Bool, false, sym}
use Rattle.sf_journal.specs.Records.{head_with}
use Rattle.sf_folder.specs.Calls.{Call, Does, Locks}
use Rattle.sf_folder.proofs.Chains.{does-then}
use Rattle.sf_saving.specs.Canonical.{canonical_ruled}
use Rattle.sf_keeping.specs.History.{Machine, fresh_under, ruled_now}
use Rattle.sf_keeping.specs.declared.desk.KeepFault.{KeepFault}
use Rattle.sf_keeping.specs.declared.desk.KeepFault.TheVariants as keeping
use Rattle.sf_keeping.specs.declared.keeping.Stop.{Stop}
use Rattle.sf_keeping.specs.declared.keeping.Stop.TheVariants as stops
use Rattle.sf_keeping.specs.Serving.{EndsKept, ServesKept}
use Rattle.sf_keeping.proofs.ServingLaws.{EndsKept-none}
use Rattle.sf_session.specs.declared.fault.SessionFault.{SessionFault}
use Rattle.sf_session.specs.declared.fault.SessionFault.TheVariants.{Home, Load, Journal, Serve, Save, SaveChanged}
use Rattle.sf_session.specs.Openings.{BeginsWith, Found, IsOpened, finding_calls}
use Rattle.sf_session.specs.Saving.{HasSaved, IsUnsaved}
use Rattle.sf_session.specs.Answering.{IsUnkept, SavesAnswered}
use Rattle.sf_session.specs.Sessions.{Ends, HasBegun, IsServed, Place, SavesOnce, SavesTimes, ServesAll}
use Rattle.sf_session.specs.Faults.{BreaksOff, FailsServing, IsSaveFault, IsUnbegun, IsUnopenedBy}

-- the lock was taken, the file loaded, and the journal opened
pub begun : (unread : Option (List ℕ)) (found : Found) (size : ℕ) (digest : List ℕ) (first : Machine) (sum : ℕ) (opening : List Call) (machine : Machine) (start locked loaded now : Option (List Call))
    → Does start locked (Locks ∷ []) → BeginsWith found size digest first → Does locked loaded (finding_calls found)
    → IsOpened (head_with size digest) first opening sum machine → Does loaded now opening
    → HasBegun unread start (record { unread = unread; ahead = []; calls = now; sum = sum; machine = machine })
begun unread found size digest first sum opening machine start locked loaded now locks begins finds opens does =
    record {
      found = found;
      size = size;
      digest = digest;
      first = first;
      begins = begins;
      opening = opening;
      opens = opens;
      calls = does-then start loaded now (Locks ∷ finding_calls found) opening (does-then start locked loaded (Locks ∷ []) (finding_calls found) locks finds) does;
      unmoved = refl;
      nothing_ahead = refl;
    }

-- the journal could not be opened
pub unbegun-journal : (fault : SessionFault) (found : Found) (size : ℕ) (digest : List ℕ) (first : Machine) (start locked loaded now : Option (List Call))
    → Does start locked (Locks ∷ []) → BeginsWith found size digest first → Does locked loaded (finding_calls found)
    → IsUnopenedBy fault (head_with size digest) first loaded now → IsUnbegun fault start now
unbegun-journal (Journal fault) found size digest first start locked loaded now locks begins finds unopened =
    (loaded, (found, size, digest, first, begins, does-then start locked loaded (Locks ∷ []) (finding_calls found) locks finds, unopened))
unbegun-journal (Home fault) found size digest first start locked loaded now locks begins finds unopened = absurd unopened
unbegun-journal (Load fault) found size digest first start locked loaded now locks begins finds unopened = absurd unopened
unbegun-journal (Serve fault) found size digest first start locked loaded now locks begins finds unopened = absurd unopened
unbegun-journal (Save fault) found size digest first start locked loaded now locks begins finds unopened = absurd unopened
unbegun-journal SaveChanged found size digest first start locked loaded now locks begins finds unopened = absurd unopened

-- one save more
pub saved-more : (first last : Place) (saves : ℕ) (new : Place) → SavesTimes saves first last → SavesOnce last new → (n : ℕ) × SavesTimes n first new
saved-more first last saves new before once = (suc saves, (last, before, once))

-- the save that a line asked for was answered
pub saves-once : (stop : Stop) (old : Place) (unread : Option (List ℕ)) (ahead : List ℕ) (served now : Option (List Call)) (behind sum : ℕ) (machine new : Machine)
    → stop ≡ stops.Save → ServesKept stop old.unread unread old.ahead ahead old.calls served old.sum behind old.machine machine
    → SavesAnswered machine served now sum → new ≡ fresh_under (ruled_now machine)
    → SavesOnce old (record { unread = unread; ahead = ahead; calls = now; sum = sum; machine = new })
saves-once stop old unread ahead served now behind sum machine new is serves answered ended =
    record {
      machine = machine;
      served = served;
      behind = behind;
      serves = subst (λ s. ServesKept s old.unread unread old.ahead ahead old.calls served old.sum behind old.machine machine) is serves;
      saved = answered.saved;
      saves = answered.saves;
      answers = answered.answers;
      ended = ended;
    }

-- it was not, or not made
pub unkept : (fault : SessionFault) (stop : Stop) (first last : Place) (saves : ℕ) (left : Option (List ℕ)) (rest : List ℕ) (served now : Option (List Call)) (behind : ℕ) (machine : Machine)
    → SavesTimes saves first last → stop ≡ stops.Save → ServesKept stop last.unread left last.ahead rest last.calls served last.sum behind last.machine machine
    → IsUnkept fault machine served now → BreaksOff fault first left now
unkept (Serve fault) stop first last saves left rest served now behind machine before is_save serves (is, unanswered) = (
  saves,
  last,
  before,
  inr (
    is,
    record {
      machine = machine;
      served = served;
      rest = rest;
      behind = behind;
      serves = subst (λ s. ServesKept s last.unread left last.ahead rest last.calls served last.sum behind last.machine machine) is_save serves;
      saved = unanswered.saved;
      sum = unanswered.sum;
      saves = unanswered.saves;
      fails = unanswered.fails;
    },
  ),
)
unkept (Save fault) stop first last saves left rest served now behind machine before is_save serves unsaved =
    (saves, last, before, record { machine = machine; served = served; rest = rest; behind = behind; serves = subst (λ s. ServesKept s last.unread left last.ahead rest last.calls served last.sum behind last.machine machine) is_save serves; unsaved = unsaved })
unkept SaveChanged stop first last saves left rest served now behind machine before is_save serves unsaved =
    (saves, last, before, record { machine = machine; served = served; rest = rest; behind = behind; serves = subst (λ s. ServesKept s last.unread left last.ahead rest last.calls served last.sum behind last.machine machine) is_save serves; unsaved = unsaved })
unkept (Home fault) stop first last saves left rest served now behind machine before is_save serves u = absurd u
unkept (Load fault) stop first last saves left rest served now behind machine before is_save serves u = absurd u
unkept (Journal fault) stop first last saves left rest served now behind machine before is_save serves u = absurd u

-- all lines were answered
pub served-all : (stop : Stop) (first last : Place) (saves : ℕ) (left : Option (List ℕ)) (rest : List ℕ) (now : Option (List Call)) (behind : ℕ) (machine : Machine)
    → SavesTimes saves first last → stop ≡ stops.End → ServesKept stop last.unread left last.ahead rest last.calls now last.sum behind last.machine machine → ServesAll first left now machine
served-all stop first last saves left rest now behind machine before is serves = record {
  saves = saves;
  last = last;
  saved = before;
  rest = rest;
  behind = behind;
  serves = subst (λ s. ServesKept s last.unread left last.ahead rest last.calls now last.sum behind last.machine machine) is serves;
}

-- serving ended by a fault
pub unserved : (fault : KeepFault) (first last : Place) (saves : ℕ) (left : Option (List ℕ)) (now : Option (List Call)) (machine : Machine)
    → SavesTimes saves first last → EndsKept fault last.unread left last.ahead last.calls now last.sum last.machine machine → BreaksOff (Serve fault) first left now
unserved fault first last saves left now machine before ends = (saves, last, before, inl (machine, ends))

-- no memory was found behind some saves
pub unserved-here : (first last : Place) (saves : ℕ) → SavesTimes saves first last → BreaksOff (Serve keeping.Memory) first last.unread last.calls
unserved-here first last saves before = unserved keeping.Memory first last saves last.unread last.calls last.machine before (EndsKept-none last.unread last.ahead last.calls last.sum last.machine)

-- what was served could not be saved
pub unsaved-at-end : (keep : Bool) (fault : SessionFault) (first : Place) (left : Option (List ℕ)) (served now : Option (List Call)) (machine : Machine)
    → keep ≡ false → IsSaveFault fault → ServesAll first left served machine → IsUnsaved (canonical_ruled (ruled_now machine)) served now → FailsServing keep fault first left now
unsaved-at-end keep fault first left served now machine ends is serves unsaved = inr (ends, is, served, machine, serves, unsaved)

-- and what they left was saved
pub served-saved : (keep : Bool) (first : Place) (left : Option (List ℕ)) (served now : Option (List Call)) (machine : Machine) (sum : ℕ)
    → keep ≡ false → ServesAll first left served machine → HasSaved (canonical_ruled (ruled_now machine)) served now sum → IsServed keep first left now
served-saved keep first left served now machine sum is serves saved =
    record { served = served; machine = machine; serves = serves; ended = subst (λ k. Ends k (canonical_ruled (ruled_now machine)) served now) (sym is) (sum, saved) }
