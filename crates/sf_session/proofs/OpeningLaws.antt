-- How a session opens a store.
use Rattle.std.proofs.Common.{◌≡◌, inl, inr, ◌⊎◌, ℕ, Bool, true, false, List, [], ◌∷◌, ◌++◌, length, ◌+◌, min, drop, take, Option, None, Some, Result, Ok, Err, MatchOption, IfOk, IfErr, OnOk, IsErrAnd, refl, sym, ap, ◌∙◌, subst}
use Rattle.sf_journal.specs.Crc.{crc}
use Rattle.sf_journal.specs.Records.{is_head_alone, records}
use Rattle.sf_folder.specs.Calls.{Call, Does, FindsNone, Opens, Reads, Refuses, Stays, Tries}
use Rattle.sf_folder.specs.declared.names.Name.TheVariants.{Journal as UnderItsName, JournalBeside}
use Rattle.sf_folder.specs.declared.choosing.Chosen.{Chosen}
use Rattle.sf_folder.specs.declared.choosing.Chosen.TheVariants.{NoneYet}
use Rattle.sf_folder.specs.Openings.{bytes_of}
use Rattle.sf_folder.specs.Renewals.{Chooses, renewing_calls}
use Rattle.sf_folder.proofs.Chains.{does-then, tries-none}
use Rattle.sf_keeping.specs.History.{Machine}
use Rattle.sf_keeping.specs.declared.replaying.Replayed.{Replayed}
use Rattle.sf_keeping.specs.declared.replaying.ReplayFault.TheVariants as replaying
use Rattle.sf_keeping.specs.Replays.{FailsAt, IsReplayed}
use Rattle.sf_session.specs.declared.fault.HomeFault.{HomeFault}
use Rattle.sf_session.specs.declared.fault.HomeFault.TheVariants as homes
use Rattle.sf_session.specs.declared.fault.JournalFault.TheVariants as journals
use Rattle.sf_session.specs.declared.fault.SessionFault.{SessionFault}
use Rattle.sf_session.specs.declared.fault.SessionFault.TheVariants.{Home, Load, Journal, Serve, Save, SaveChanged}
use Rattle.sf_session.specs.Openings.{Counts, IsHeadAlone, IsOpened, IsRenewed, bytes_that_count, reading_calls, records_that_count, warning_calls, finding_calls}
use Rattle.sf_session.specs.Faults.{HasNoContent, IsUnloaded, IsUnopenedBy, IsUnrenewed, IsUnreplayed, IsUnwritten}

-- what follows of each Ok, with a fact of all of them
pub IfOk-with : {T E C : Type 0} (r : Result T E) (P Q : T → Type 0) → IfOk r P → OnOk r C → ((x : T) → P x → C → Q x) → IfOk r Q
IfOk-with (Ok x) P Q p c f = f x p c
IfOk-with (Err e) P Q p c f = tt

-- the file could not be opened
pub unfound : (fault : HomeFault) (start now : Option (List Call)) → Does start now (Refuses ∷ []) → IsUnloaded (Home fault) start now
unfound fault start now does = inl (None, ([], finding_calls None, refl, does))

-- it is not there, and no memory was found for a new store
pub unmade : (fault : SessionFault) (start now : Option (List Call)) → Does start now (FindsNone ∷ []) → (fault ≡ Home homes.Memory) ⊎ (fault ≡ Home homes.Read) → IsUnloaded fault start now
unmade fault start now does (inl is) = subst (λ f. IsUnloaded f start now) (sym is) (inr (inl refl, does))
unmade fault start now does (inr is) = subst (λ f. IsUnloaded f start now) (sym is) (inr (inr refl, does))

-- what is said of one that is there
pub some-of : {T : Type 0} (o : Option T) (x : T) (N : Type 0) (S : T → Type 0) → o ≡ Some x → MatchOption o N S → S x
some-of o x N S is m = subst (λ o. MatchOption o N S) is m

-- what a fault has that is passed on
pub err-passed : {T E : Type 0} (r : Result T E) (fault : E) (P : E → Type 0) → IsErrAnd r (λ e. e ≡ fault) → P fault → IfErr r P
err-passed (Ok x) fault P passed p = tt
err-passed (Err e) fault P passed p = subst P (sym passed) p

-- a file was opened, and it has no content, or could not be looked at
pub unloaded : (fault : SessionFault) (bytes : Option (List ℕ)) (start opened now : Option (List Call)) → Does start opened (Opens bytes ∷ []) → HasNoContent fault bytes opened now → IsUnloaded fault start now
unloaded (Home fault) bytes start opened now does has = inl (Some bytes, (Opens bytes ∷ [], Stays ∷ [], refl, does-then start opened now (Opens bytes ∷ []) (Refuses ∷ []) does has))
unloaded (Load fault) bytes start opened now does has = (bytes, has.0, has.1, subst (λ calls. Does start calls (Opens bytes ∷ [])) (sym has.2) does)
unloaded (Journal fault) bytes start opened now does has = absurd has
unloaded (Serve fault) bytes start opened now does has = absurd has
unloaded (Save fault) bytes start opened now does has = absurd has
unloaded SaveChanged bytes start opened now does has = absurd has

-- a journal that is no head alone
pub not-alone : (journal : Option (List ℕ)) (alone : Bool) → alone ≡ is_head_alone (bytes_of journal) → alone ≡ false → IsHeadAlone journal → ⊥
not-alone journal alone is off on = differ (sym on ∙ sym is ∙ off)
  where
    differ : true ≡ false → ⊥
    differ h = cc

-- none counts, or no memory was found: nothing was done
pub unchosen : (fault : SessionFault) (head : List ℕ) (journal beside : Option (List ℕ)) (machine : Machine) (calls : Option (List Call))
    → (fault ≡ Journal journals.Memory) ⊎ ((fault ≡ Journal journals.OtherFile) × Chooses head journal beside None × (IsHeadAlone journal → ⊥))
    → IsUnrenewed fault head journal beside machine calls calls
unchosen fault head journal beside machine calls (inl is) =
    subst (λ f. IsUnrenewed f head journal beside machine calls calls) (sym is) (NoneYet, [], tries-none calls (renewing_calls NoneYet head []))
unchosen fault head journal beside machine calls (inr (is, chooses, not_alone)) =
    subst (λ f. IsUnrenewed f head journal beside machine calls calls) (sym is) (chooses, not_alone, refl)

-- no memory was found behind that
pub unheaded : (fault : SessionFault) (head : List ℕ) (journal beside : Option (List ℕ)) (machine : Machine) (calls : Option (List Call))
    → fault ≡ Journal journals.Memory → IsUnrenewed fault head journal beside machine calls calls
unheaded fault head journal beside machine calls is = unchosen fault head journal beside machine calls (inl is)

-- the records behind the head
pub records-are : (head bytes records : List ℕ) (chosen : Chosen) (journal beside : Option (List ℕ)) (front : ℕ) → front ≡ length head
    → bytes ≡ bytes_that_count chosen journal beside → records ≡ drop front bytes → records ≡ records_that_count head chosen journal beside
records-are head bytes records chosen journal beside front is counts behind = behind ∙ ap (λ n. drop n bytes) is ∙ ap (drop (length head)) counts

-- replaying them failed: nothing was done
pub unreplayed : (fault : SessionFault) (head : List ℕ) (journal beside : Option (List ℕ)) (chosen : Chosen) (machine : Machine) (front sum : ℕ) (bytes : List ℕ) (calls : Option (List Call))
    → Counts head journal beside chosen → front ≡ length head → sum ≡ crc head → bytes ≡ records_that_count head chosen journal beside
    → IsUnreplayed fault front sum bytes machine → IsUnrenewed fault head journal beside machine calls calls
unreplayed (Journal (journals.Damaged told)) head journal beside chosen machine front sum bytes calls counts is_front is_sum is_bytes (place, is_told, fails) = (
  (
    chosen,
    counts,
    place,
    is_told ∙ ap (λ n. min (n + place) 18446744073709551615) is_front,
    subst (λ b. FailsAt (crc head) b machine (replaying.Damaged place)) is_bytes (subst (λ s. FailsAt s bytes machine (replaying.Damaged place)) is_sum fails),
  ),
  refl,
)
unreplayed (Journal (journals.NotAccepted told)) head journal beside chosen machine front sum bytes calls counts is_front is_sum is_bytes (place, is_told, fails) = (
  (
    chosen,
    counts,
    place,
    is_told ∙ ap (λ n. min (n + place) 18446744073709551615) is_front,
    subst (λ b. FailsAt (crc head) b machine (replaying.NotAccepted place)) is_bytes (subst (λ s. FailsAt s bytes machine (replaying.NotAccepted place)) is_sum fails),
  ),
  refl,
)
unreplayed (Journal journals.Memory) head journal beside chosen machine front sum bytes calls counts is_front is_sum is_bytes u =
    (NoneYet, [], tries-none calls (renewing_calls NoneYet head []))
unreplayed (Journal journals.Read) head journal beside chosen machine front sum bytes calls counts is_front is_sum is_bytes u = absurd u
unreplayed (Journal journals.Write) head journal beside chosen machine front sum bytes calls counts is_front is_sum is_bytes u = absurd u
unreplayed (Journal journals.OtherFile) head journal beside chosen machine front sum bytes calls counts is_front is_sum is_bytes u = absurd u
unreplayed (Home fault) head journal beside chosen machine front sum bytes calls counts is_front is_sum is_bytes u = absurd u
unreplayed (Load fault) head journal beside chosen machine front sum bytes calls counts is_front is_sum is_bytes u = absurd u
unreplayed (Serve fault) head journal beside chosen machine front sum bytes calls counts is_front is_sum is_bytes u = absurd u
unreplayed (Save fault) head journal beside chosen machine front sum bytes calls counts is_front is_sum is_bytes u = absurd u
unreplayed SaveChanged head journal beside chosen machine front sum bytes calls counts is_front is_sum is_bytes u = absurd u

-- the journal could not be written anew
pub unwritten : (fault : SessionFault) (head : List ℕ) (journal beside : Option (List ℕ)) (chosen : Chosen) (machine : Machine) (bytes : List ℕ) (start now : Option (List Call))
    → (fault ≡ Journal journals.Memory) ⊎ (fault ≡ Journal journals.Write) → Tries start now (renewing_calls chosen head bytes) → IsUnrenewed fault head journal beside machine start now
unwritten fault head journal beside chosen machine bytes start now (inl is) tries = subst (λ f. IsUnrenewed f head journal beside machine start now) (sym is) (chosen, bytes, tries)
unwritten fault head journal beside chosen machine bytes start now (inr is) tries = subst (λ f. IsUnrenewed f head journal beside machine start now) (sym is) (chosen, bytes, tries)

-- a front of so many
take-front : (xs ys : List ℕ) → take (length xs) (xs ++ ys) ≡ xs
take-front [] ys = refl
take-front (x ∷ xs) ys = ap (λ l. x ∷ l) (take-front xs ys)

-- the whole records are those of the texts
whole-records : (sum : ℕ) (bytes : List ℕ) (old new : Machine) (done : Replayed) (r : IsReplayed sum bytes old done new) → take done.whole bytes ≡ records sum r.texts
whole-records sum bytes old new done r =
    ap (λ n. take n bytes) r.whole ∙ ap (take (length (records sum r.texts))) r.parts ∙ take-front (records sum r.texts) r.rest

-- it was written anew
pub renewed : (head : List ℕ) (journal beside : Option (List ℕ)) (chosen : Chosen) (old new : Machine) (sum : ℕ) (bytes : List ℕ) (done : Replayed) (start mid now : Option (List Call))
    → Counts head journal beside chosen → sum ≡ crc head → bytes ≡ records_that_count head chosen journal beside → IsReplayed sum bytes old done new
    → Does start mid (renewing_calls chosen head (take done.whole bytes)) → Does mid now (warning_calls done.is_cut_short)
    → (calls : List Call) × IsRenewed head journal beside old calls done.sum new × Does start now calls
renewed head journal beside chosen old new sum bytes done start mid now counts is_sum is_bytes r writes warns =
    let one : IsReplayed (crc head) bytes old done new = subst (λ s. IsReplayed s bytes old done new) is_sum r in
    let two : IsReplayed (crc head) (records_that_count head chosen journal beside) old done new = subst (λ b. IsReplayed (crc head) b old done new) is_bytes one in
    let whole : take done.whole bytes ≡ records (crc head) two.texts = ap (take done.whole) is_bytes ∙ whole-records (crc head) (records_that_count head chosen journal beside) old new done two in
    let wrote : Does start mid (renewing_calls chosen head (records (crc head) two.texts)) = subst (λ b. Does start mid (renewing_calls chosen head b)) whole writes in (
      renewing_calls chosen head (records (crc head) two.texts) ++ warning_calls done.is_cut_short,
      record { chosen = chosen; counts = counts; done = done; replayed = two; behind = refl; made = refl },
      does-then start mid now (renewing_calls chosen head (records (crc head) two.texts)) (warning_calls done.is_cut_short) wrote warns,
    )

-- a journal could not be read
pub unread : (fault : SessionFault) (head : List ℕ) (machine : Machine) (start now : Option (List Call))
    → (fault ≡ Journal journals.Memory) ⊎ (fault ≡ Journal journals.Read) → Does start now (Refuses ∷ []) → IsUnopenedBy fault head machine start now
unread fault head machine start now (inl h) does = subst (λ f. IsUnopenedBy f head machine start now) (sym h) (inl (None, None, ([], reading_calls None None, refl, does)))
unread fault head machine start now (inr h) does = subst (λ f. IsUnopenedBy f head machine start now) (sym h) (inl (None, None, ([], reading_calls None None, refl, does)))

-- one journal was read, and the other could not be
pub half-read : (fault : SessionFault) (head : List ℕ) (journal : Option (List ℕ)) (machine : Machine) (start mid now : Option (List Call))
    → (fault ≡ Journal journals.Memory) ⊎ (fault ≡ Journal journals.Read) → Does start mid (Reads UnderItsName journal ∷ []) → Does mid now (Refuses ∷ []) → IsUnopenedBy fault head machine start now
half-read fault head journal machine start mid now which does is =
    at which
  where
    read : IsUnwritten head start now
    read = inl (journal, None, (Reads UnderItsName journal ∷ [], Reads JournalBeside None ∷ [], refl, does-then start mid now (Reads UnderItsName journal ∷ []) (Refuses ∷ []) does is))

    at : (fault ≡ Journal journals.Memory) ⊎ (fault ≡ Journal journals.Read) → IsUnopenedBy fault head machine start now
    at (inl h) = subst (λ f. IsUnopenedBy f head machine start now) (sym h) read
    at (inr h) = subst (λ f. IsUnopenedBy f head machine start now) (sym h) read

-- both were read
pub both-read : (journal beside : Option (List ℕ)) (start mid now : Option (List Call)) → Does start mid (Reads UnderItsName journal ∷ []) → Does mid now (Reads JournalBeside beside ∷ []) → Does start now (reading_calls journal beside)
both-read journal beside start mid now one two = does-then start mid now (Reads UnderItsName journal ∷ []) (Reads JournalBeside beside ∷ []) one two

-- both were read, and one was written anew
pub opened : (head : List ℕ) (journal beside : Option (List ℕ)) (old new : Machine) (sum : ℕ) (start read now : Option (List Call)) → Does start read (reading_calls journal beside)
    → (calls : List Call) × IsRenewed head journal beside old calls sum new × Does read now calls → (calls : List Call) × IsOpened head old calls sum new × Does start now calls
opened head journal beside old new sum start read now reads (renewing, renews, does) = (
  reading_calls journal beside ++ renewing,
  record { journal = journal; beside = beside; renewing = renewing; renews = renews; made = refl },
  does-then start read now (reading_calls journal beside) renewing reads does,
)

-- both were read, and none was written anew
pub unopened : (fault : SessionFault) (head : List ℕ) (journal beside : Option (List ℕ)) (machine : Machine) (start read now : Option (List Call)) → Does start read (reading_calls journal beside)
    → IsUnrenewed fault head journal beside machine read now → IsUnopenedBy fault head machine start now
unopened (Journal (journals.Damaged told)) head journal beside machine start read now reads (fails, is) = (journal, beside, fails, subst (λ calls. Does start calls (reading_calls journal beside)) (sym is) reads)
unopened (Journal (journals.NotAccepted told)) head journal beside machine start read now reads (fails, is) = (journal, beside, fails, subst (λ calls. Does start calls (reading_calls journal beside)) (sym is) reads)
unopened (Journal journals.OtherFile) head journal beside machine start read now reads (chooses, not_alone, is) =
    (journal, beside, (chooses, not_alone), subst (λ calls. Does start calls (reading_calls journal beside)) (sym is) reads)
unopened (Journal journals.Memory) head journal beside machine start read now reads (chosen, bytes, tries) = inr (read, (journal, beside, tt, reads), chosen, bytes, tries)
unopened (Journal journals.Write) head journal beside machine start read now reads (chosen, bytes, tries) = inr (read, (journal, beside, tt, reads), chosen, bytes, tries)
unopened (Journal journals.Read) head journal beside machine start read now reads u = absurd u
unopened (Home fault) head journal beside machine start read now reads u = absurd u
unopened (Load fault) head journal beside machine start read now reads u = absurd u
unopened (Serve fault) head journal beside machine start read now reads u = absurd u
unopened (Save fault) head journal beside machine start read now reads u = absurd u
unopened SaveChanged head journal beside machine start read now reads u = absurd u

-- the same of journals that are the same
pub renewed-of : (head : List ℕ) (told journal told_beside beside : Option (List ℕ)) (old new : Machine) (sum : ℕ) (start now : Option (List Call)) → told ≡ journal → told_beside ≡ beside
    → (calls : List Call) × IsRenewed head told told_beside old calls sum new × Does start now calls → (calls : List Call) × IsRenewed head journal beside old calls sum new × Does start now calls
renewed-of head told journal told_beside beside old new sum start now is is_beside renews =
    subst (λ j. (calls : List Call) × IsRenewed head j beside old calls sum new × Does start now calls) is
    (subst (λ b. (calls : List Call) × IsRenewed head told b old calls sum new × Does start now calls) is_beside renews)

pub unrenewed-of : (fault : SessionFault) (head : List ℕ) (told journal told_beside beside : Option (List ℕ)) (machine : Machine) (start now : Option (List Call)) → told ≡ journal → told_beside ≡ beside
    → IsUnrenewed fault head told told_beside machine start now → IsUnrenewed fault head journal beside machine start now
unrenewed-of fault head told journal told_beside beside machine start now is is_beside unrenewed =
    subst (λ j. IsUnrenewed fault head j beside machine start now) is (subst (λ b. IsUnrenewed fault head told b machine start now) is_beside unrenewed)
