-- What a whole session does over a store that is kept.
use Rattle.std.specs.Prelude.{◌≡◌, ℕ, zero, suc, Bool, true, false, List, [], ◌∷◌, ◌++◌, Option, codes}
use Rattle.sf_journal.specs.Records.{head_with}
use Rattle.sf_folder.specs.Calls.{Call, Answers, Does, Locks}
use Rattle.sf_saving.specs.Canonical.{canonical_ruled}
use Rattle.sf_keeping.specs.History.{Machine, fresh_under, ruled_now}
use Rattle.sf_keeping.specs.declared.keeping.Stop.TheVariants.{Save, End}
use Rattle.sf_keeping.specs.Serving.{ServesKept}
use Rattle.sf_session.specs.Openings.{BeginsWith, Found, IsOpened, finding_calls}
use Rattle.sf_session.specs.Saving.{HasSaved}

-- how far a session is: what is left of the input, and what was read of it and not carried out; the calls that were made; the sum
-- behind the last record of the journal; and the machine
pub record Place : Type 0 where
  pub unread : Option (List ℕ)
  pub ahead : List ℕ
  pub calls : Option (List Call)
  pub sum : ℕ
  pub machine : Machine

-- The lock was taken, then the file was loaded, and then its journal was opened. Nothing of the input was read.
pub record HasBegun (unread : Option (List ℕ)) (start : Option (List Call)) (place : Place) : Type 0 where
  pub found : Found
  pub size : ℕ
  pub digest : List ℕ
  pub first : Machine
  pub begins : BeginsWith found size digest first
  pub opening : List Call
  pub opens : IsOpened (head_with size digest) first opening place.sum place.machine
  pub calls : Does start place.calls (Locks ∷ finding_calls found ++ opening)
  pub unmoved : place.unread ≡ unread
  pub nothing_ahead : place.ahead ≡ []

-- it is so whatever the input is
abbrev pub BeginsBy : Option (List Call) → Option (List Call) → ℕ → Machine → Type 0
BeginsBy before after sum machine =
    (unread : Option (List ℕ)) → HasBegun unread before (record { unread = unread; ahead = []; calls = after; sum = sum; machine = machine })

-- The lines up to one that asks for a save were answered. What they left was saved, the history ended, and that line was answered.
pub record SavesOnce (old new : Place) : Type 0 where
  pub machine : Machine
  pub served : Option (List Call)
  pub behind : ℕ
  pub serves : ServesKept Save old.unread new.unread old.ahead new.ahead old.calls served old.sum behind old.machine machine
  pub saved : Option (List Call)
  pub saves : HasSaved (canonical_ruled (ruled_now machine)) served saved new.sum
  pub answers : Does saved new.calls (Answers (codes "ok\n") ∷ [])
  pub ended : new.machine ≡ fresh_under (ruled_now machine)

-- so many times, one after another
abbrev pub SavesTimes : ℕ → Place → Place → Type 0
SavesTimes zero old new = new ≡ old
SavesTimes (suc n) old new = (between : Place) × SavesTimes n old between × SavesOnce between new

-- All lines of the input were answered, with a save where one asks for it: behind the last of them the machine is this.
pub record ServesAll (first : Place) (left : Option (List ℕ)) (now : Option (List Call)) (machine : Machine) : Type 0 where
  pub saves : ℕ
  pub last : Place
  pub saved : SavesTimes saves first last
  pub rest : List ℕ
  pub behind : ℕ
  pub serves : ServesKept End last.unread left last.ahead rest last.calls now last.sum behind last.machine machine

-- at the end of a session these bytes are saved; or the journal keeps all
abbrev pub Ends : Bool → List ℕ → Option (List Call) → Option (List Call) → Type 0
Ends true bytes served now = now ≡ served
Ends false bytes served now = (sum : ℕ) × HasSaved bytes served now sum

-- all lines were answered, and what they left was saved, but where the journal is to keep it
pub record IsServed (keep : Bool) (first : Place) (left : Option (List ℕ)) (now : Option (List Call)) : Type 0 where
  pub served : Option (List Call)
  pub machine : Machine
  pub serves : ServesAll first left served machine
  pub ended : Ends keep (canonical_ruled (ruled_now machine)) served now

-- a whole session: it began, and then it was so
pub record IsSession (keep : Bool) (unread left : Option (List ℕ)) (start now : Option (List Call)) : Type 0 where
  pub first : Place
  pub begun : HasBegun unread start first
  pub served : IsServed keep first left now
