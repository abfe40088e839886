-- The calls of a run's files, one after another.
use Rattle.std.proofs.Common.{◌≡◌, refl, ap, sym, subst, ◌∙◌, List, [], ◌∷◌, ◌++◌, Option, None, Some, inl, inr}
use Rattle.std.proofs.lemmas.List.{append-nil, append_assoc}
use Rattle.std.specs.Prelude.{ℕ}
use Rattle.std.specs.Io.KnownBytes.{Appends}
use Rattle.sf_console.specs.History.{Machine}
use Rattle.sf_run.specs.declared.files.FilesFault.{FilesFault}
use Rattle.sf_run.specs.declared.files.FilesFault.TheVariants.{Begin, Open, Run, Save}
use Rattle.sf_run.specs.Files.{AreFailing, AreSaving, AreUnbegun, Does, EndsBy, FileCall, IsNew, IsServed, IsUnsaved}
use Rattle.sf_run.specs.Files.FileCall.{BeginFails, Begins, FinishFails, Finishes, GivesUp}

-- none
pub does-none : (calls : Option (List FileCall)) → Does calls calls []
does-none None = tt
does-none (Some calls) = sym (append-nil calls)

-- some, and then others
pub does-then : (first middle last : Option (List FileCall)) (xs ys : List FileCall) → Does first middle xs → Does middle last ys → Does first last (xs ++ ys)
does-then None middle last xs ys h k = tt
does-then (Some first) None last xs ys h k = absurd h
does-then (Some first) (Some middle) None xs ys h k = absurd k
does-then (Some first) (Some middle) (Some last) xs ys h k = k ∙ ap (λ calls. calls ++ ys) h ∙ append_assoc first xs ys

-- no file could be begun
pub unbegun : (path : List ℕ) (save : Option (List ℕ)) (first last : Option (List FileCall)) → save ≡ Some path → Does first last (BeginFails path ∷ [])
    → (x : List FileCall) × AreUnbegun save x × Does first last x
unbegun path save first last is begun = (BeginFails path ∷ [], subst (λ s. AreUnbegun s (BeginFails path ∷ [])) (sym is) refl, begun)

-- a file that was begun is given up, takes its place, or does not
pub given-up : (path : List ℕ) (save : Option (List ℕ)) (first middle last : Option (List FileCall)) → save ≡ Some path → Does first middle (Begins path ∷ []) → Does middle last (GivesUp ∷ [])
    → (x : List FileCall) × AreFailing save x × Does first last x
given-up path save first middle last is begun given =
    (Begins path ∷ GivesUp ∷ [], subst (λ s. AreFailing s (Begins path ∷ GivesUp ∷ [])) (sym is) (inl refl), does-then first middle last (Begins path ∷ []) (GivesUp ∷ []) begun given)

pub unplaced : (path : List ℕ) (save : Option (List ℕ)) (first middle last : Option (List FileCall)) (written : Option (List ℕ)) → save ≡ Some path → Does first middle (Begins path ∷ []) → Does middle last (FinishFails written ∷ [])
    → (x : List FileCall) × AreFailing save x × Does first last x
unplaced path save first middle last written is begun finished = (
  Begins path ∷ FinishFails written ∷ [],
  subst (λ s. AreFailing s (Begins path ∷ FinishFails written ∷ [])) (sym is) (inr (written, refl)),
  does-then first middle last (Begins path ∷ []) (FinishFails written ∷ []) begun finished,
)

pub placed : (path : List ℕ) (save : Option (List ℕ)) (first middle last : Option (List FileCall)) (start written : Option (List ℕ)) (bytes : List ℕ) → save ≡ Some path → IsNew start → Appends start written bytes
    → Does first middle (Begins path ∷ []) → Does middle last (Finishes written ∷ []) → (x : List FileCall) × AreSaving save bytes x × Does first last x
placed path save first middle last start written bytes is new appended begun finished = (
  Begins path ∷ Finishes written ∷ [],
  subst (λ s. AreSaving s bytes (Begins path ∷ Finishes written ∷ [])) (sym is) (start, written, new, appended, refl),
  does-then first middle last (Begins path ∷ []) (Finishes written ∷ []) begun finished,
)

-- a save that failed, behind what was served
pub ends-unsaved : (fault : FilesFault) (load save : Option (List ℕ)) (first middle last : Option (List FileCall)) (loading : List FileCall) (unread left written_before written : Option (List ℕ)) (served : Machine)
    → IsServed load loading unread left written_before written served → Does first middle loading → IsUnsaved save middle last fault → EndsBy fault load save first last unread left written_before written
ends-unsaved Open load save first middle last loading unread left written_before written served is loaded none = absurd none
ends-unsaved (Run fault) load save first middle last loading unread left written_before written served is loaded none = absurd none
ends-unsaved (Begin fault) load save first middle last loading unread left written_before written served is loaded unsaved =
    (served, loading, is, (unsaved.0, unsaved.1, does-then first middle last loading unsaved.0 loaded unsaved.2))
ends-unsaved (Save fault) load save first middle last loading unread left written_before written served is loaded unsaved =
    (served, loading, is, (unsaved.0, unsaved.1, does-then first middle last loading unsaved.0 loaded unsaved.2))
