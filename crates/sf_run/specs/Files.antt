-- What a run asks of its files, call by call, and what a run from a file to a file comes to.
use Rattle.std.specs.Prelude.{◌≡◌, ◌⊎◌, ℕ, List, [], ◌∷◌, ◌++◌, ⊤, Option, None, Some}
use Rattle.std.specs.Io.KnownBytes.{Appends}
use Rattle.sf_saving.specs.Canonical.{canonical_ruled}
use Rattle.sf_console.specs.History.{Machine, fresh, ruled_now}
use Rattle.sf_console.specs.Serving.{ServesAll}
use Rattle.sf_run.specs.Runs.{Breaks, EndsEarly, RunsFrom}
use Rattle.sf_run.specs.declared.files.FilesFault.{FilesFault}
use Rattle.sf_run.specs.declared.files.FilesFault.TheVariants.{Open, Run, Begin, Save}
use Rattle.sf_run.specs.declared.running.RunFault.{RunFault}
use Rattle.sf_run.specs.declared.running.RunFault.TheVariants.{Load, Serve}

-- A file is opened by its path, to be read, with the bytes that it has, where they are known; or it could not be. One is begun, to
-- take the place of what a path names; or it could not be. It takes that place with its bytes, where they are known; or it could
-- not. It is given up
pub data FileCall : Type 0 where
  Opens : List ℕ → Option (List ℕ) → FileCall
  OpenFails : List ℕ → FileCall
  Begins : List ℕ → FileCall
  BeginFails : List ℕ → FileCall
  Finishes : Option (List ℕ) → FileCall
  FinishFails : Option (List ℕ) → FileCall
  GivesUp : FileCall

-- known calls grow by these
abbrev pub Does : Option (List FileCall) → Option (List FileCall) → List FileCall → Type 0
Does None after calls = ⊤
Does (Some before) None calls = ⊥
Does (Some before) (Some after) calls = after ≡ before ++ calls

-- a file that was begun has no byte, as far as is known
abbrev pub IsNew : Option (List ℕ) → Type 0
IsNew None = ⊤
IsNew (Some bytes) = bytes ≡ []

-- what serving begins with behind these calls: a new store, or that of the bytes of the file that was opened
abbrev pub StartsAt : Option (List ℕ) → List FileCall → (Machine → Type 0) → Type 0
StartsAt None calls Serves = (calls ≡ []) × Serves (fresh [])
StartsAt (Some path) calls Serves =
    (file_before : Option (List ℕ)) × (file : Option (List ℕ)) × (calls ≡ Opens path file_before ∷ []) × RunsFrom file_before file Serves

-- the calls by which these bytes are saved, where a path is given: they alone are written to a new file, which then takes its place
abbrev pub AreSaving : Option (List ℕ) → List ℕ → List FileCall → Type 0
AreSaving None bytes calls = calls ≡ []
AreSaving (Some path) bytes calls =
    (begun : Option (List ℕ)) × (written : Option (List ℕ)) × IsNew begun × Appends begun written bytes × (calls ≡ Begins path ∷ Finishes written ∷ [])

-- all lines were answered, from what was loaded by these calls on
pub record IsServed (load : Option (List ℕ)) (loading : List FileCall) (unread left written_before written : Option (List ℕ)) (served : Machine) : Type 0 where
  pub serves : StartsAt load loading (λ start. ServesAll unread left written_before written start served)

-- and what they left was saved
pub record IsSaved (load save : Option (List ℕ)) (before after : Option (List FileCall)) (unread left written_before written : Option (List ℕ)) : Type 0 where
  pub served : Machine
  pub loading : List FileCall
  pub serves : IsServed load loading unread left written_before written served
  pub saving : List FileCall
  pub saves : AreSaving save (canonical_ruled (ruled_now served)) saving
  pub calls : Does before after (loading ++ saving)

-- serving ended before its time, behind these calls
abbrev pub BreaksAt : Option (List ℕ) → List FileCall → RunFault → Option (List ℕ) → Option (List ℕ) → Option (List ℕ) → Option (List ℕ) → Type 0
BreaksAt None calls (Load fault) unread left written_before written = ⊥
BreaksAt None calls (Serve fault) unread left written_before written = (calls ≡ []) × EndsEarly fault unread left written_before written (fresh [])
BreaksAt (Some path) calls fault unread left written_before written =
    (file_before : Option (List ℕ)) × (file : Option (List ℕ)) × (calls ≡ Opens path file_before ∷ [])
    × Breaks fault file_before file unread left written_before written

-- the calls of a save that failed: the file was given up, or could not take its place
abbrev pub AreFailing : Option (List ℕ) → List FileCall → Type 0
AreFailing None calls = ⊥
AreFailing (Some path) calls =
    (calls ≡ Begins path ∷ GivesUp ∷ []) ⊎ ((written : Option (List ℕ)) × (calls ≡ Begins path ∷ FinishFails written ∷ []))

-- the calls of a save that could not begin
abbrev pub AreUnbegun : Option (List ℕ) → List FileCall → Type 0
AreUnbegun None calls = ⊥
AreUnbegun (Some path) calls = calls ≡ BeginFails path ∷ []

-- the calls where the file to load could not be opened
abbrev pub AreUnopened : Option (List ℕ) → List FileCall → Type 0
AreUnopened None calls = ⊥
AreUnopened (Some path) calls = calls ≡ OpenFails path ∷ []

-- what was done before the fault: until all lines are answered no file is begun
abbrev pub EndsBy : FilesFault → Option (List ℕ) → Option (List ℕ) → Option (List FileCall) → Option (List FileCall) → Option (List ℕ) → Option (List ℕ) → Option (List ℕ) → Option (List ℕ) → Type 0
EndsBy Open load save before after unread left written_before written =
    (calls : List FileCall) × AreUnopened load calls × Does before after calls × (left ≡ unread) × (written ≡ written_before)
EndsBy (Run fault) load save before after unread left written_before written =
    (loading : List FileCall) × BreaksAt load loading fault unread left written_before written × Does before after loading
EndsBy (Begin fault) load save before after unread left written_before written =
    (served : Machine) × (loading : List FileCall) × IsServed load loading unread left written_before written served
    × ((failing : List FileCall) × AreUnbegun save failing × Does before after (loading ++ failing))
EndsBy (Save fault) load save before after unread left written_before written =
    (served : Machine) × (loading : List FileCall) × IsServed load loading unread left written_before written served
    × ((failing : List FileCall) × AreFailing save failing × Does before after (loading ++ failing))

-- what was called by a save that failed
abbrev pub IsUnsaved : Option (List ℕ) → Option (List FileCall) → Option (List FileCall) → FilesFault → Type 0
IsUnsaved save before after Open = ⊥
IsUnsaved save before after (Run fault) = ⊥
IsUnsaved save before after (Begin fault) = (failing : List FileCall) × AreUnbegun save failing × Does before after failing
IsUnsaved save before after (Save fault) = (failing : List FileCall) × AreFailing save failing × Does before after failing
