-- What a crash has left opens.
use Rattle.std.proofs.Common.{◌≡◌, ◌≢◌, ◌⊎◌, inl, inr, ℕ, List, [], ◌∷◌, ◌++◌, length, drop, Option, None, Some, refl, sym, ap, ◌∙◌, subst}
use Rattle.sf_journal.specs.Records.{first_sum, head_of, sum_behind}
use Rattle.sf_journal.specs.Readings.{Ending, Reads}
use Rattle.sf_journal.specs.Readings.Ending.{Whole, CutShort, Damaged as IsDamaged}
use Rattle.sf_folder.specs.declared.names.Name.TheVariants.{Journal as TheJournal, JournalBeside}
use Rattle.sf_folder.specs.declared.choosing.Chosen.{Chosen}
use Rattle.sf_folder.specs.declared.choosing.Chosen.TheVariants.{UnderItsName, Beside, NoneYet}
use Rattle.sf_folder.specs.Disks.{Contents}
use Rattle.sf_folder.specs.Openings.{HasHead, HasTexts, IsSound, OpensTo, bytes_of}
use Rattle.sf_folder.specs.Renewals.{Chooses}
use Rattle.sf_keeping.specs.History.{Machine}
use Rattle.sf_keeping.specs.Changes.{Leads}
use Rattle.sf_keeping.specs.declared.replaying.ReplayFault.{ReplayFault}
use Rattle.sf_keeping.specs.declared.replaying.ReplayFault.TheVariants as replaying
use Rattle.sf_keeping.proofs.ReplayedLaws.{replay-law}
use Rattle.sf_session.specs.declared.fault.JournalFault.TheVariants as journals
use Rattle.sf_session.specs.declared.fault.SessionFault.{SessionFault}
use Rattle.sf_session.specs.declared.fault.SessionFault.TheVariants.{Home, Load, Journal, Serve, Save, SaveChanged}
use Rattle.sf_session.specs.Openings.{Counts, RenewsBy, records_that_count}
use Rattle.sf_session.specs.Faults.{FailsBehind, IsUnrenewed}
use Rattle.sf_session.specs.Laws.{OpeningLaw}

-- a front of a list, dropped
drop-front : (xs ys : List ℕ) → drop (length xs) (xs ++ ys) ≡ ys
drop-front [] ys = refl
drop-front (x ∷ xs) ys = drop-front xs ys

-- a journal with texts has the head
has-head : (file : List ℕ) (texts : List (List ℕ)) (journal : Option (List ℕ)) → HasTexts file texts journal → HasHead (head_of file) journal
has-head file texts None has = absurd has
has-head file texts (Some journal) has = (has.0, has.1)

-- some bytes read as texts, and are not damaged
record AreRead (sum : ℕ) (bytes : List ℕ) (texts : List (List ℕ)) : Type 0 where
  ending : Ending
  reads : Reads sum bytes texts ending
  undamaged : ending ≢ IsDamaged

sound-undamaged : (ending : Ending) → IsSound ending → ending ≢ IsDamaged
sound-undamaged ending (inl is) damaged = differ (sym is ∙ damaged)
  where
    differ : Whole ≡ IsDamaged → ⊥
    differ h = cc
sound-undamaged ending (inr is) damaged = differ (sym is ∙ damaged)
  where
    differ : CutShort ≡ IsDamaged → ⊥
    differ h = cc

-- the records behind the head
has-read : (file : List ℕ) (texts : List (List ℕ)) (journal : Option (List ℕ)) → HasTexts file texts journal → AreRead (first_sum file) (drop (length (head_of file)) (bytes_of journal)) texts
has-read file texts None has = absurd has
has-read file texts (Some journal) (records, parts, ending, reads, sound) =
    record {
      ending = ending;
      reads = subst (λ b. Reads (first_sum file) b texts ending) (sym (ap (drop (length (head_of file))) parts ∙ drop-front (head_of file) records)) reads;
      undamaged = sound-undamaged ending sound;
    }

-- no bytes
none-read : (sum : ℕ) (texts : List (List ℕ)) → texts ≡ [] → AreRead sum [] texts
none-read sum texts none = record { ending = Whole; reads = subst (λ t. Reads sum [] t Whole) (sym none) refl; undamaged = sound-undamaged Whole (inl refl) }

-- what is there is not none
not-none : (journal : Option (List ℕ)) (head : List ℕ) → HasHead head journal → journal ≡ None → ⊥
not-none None head has none = has
not-none (Some journal) head has none = differ none
  where
    differ : Some journal ≡ None → ⊥
    differ h = cc

-- the journal that counts is the one to which the folder opens
counted : (contents : Contents) (file : List ℕ) (texts : List (List ℕ)) (chosen : Chosen) → OpensTo contents file texts → Counts (head_of file) (contents TheJournal) (contents JournalBeside) chosen
    → AreRead (first_sum file) (records_that_count (head_of file) chosen (contents TheJournal) (contents JournalBeside)) texts
counted contents file texts UnderItsName (store, inl has) counts = has-read file texts (contents TheJournal) has
counted contents file texts Beside (store, inl has) (inl (other, beside)) = absurd (other (has-head file texts (contents TheJournal) has))
counted contents file texts Beside (store, inl has) (inr ((other, beside, some), alone, is)) = absurd (other (has-head file texts (contents TheJournal) has))
counted contents file texts NoneYet (store, inl has) (inl (none, other)) = absurd (not-none (contents TheJournal) (head_of file) (has-head file texts (contents TheJournal) has) none)
counted contents file texts NoneYet (store, inl has) (inr ((other, beside, some), alone, is)) = absurd (other (has-head file texts (contents TheJournal) has))
counted contents file texts UnderItsName (store, inr (inl (other, has))) (inl head) = absurd (other head)
counted contents file texts UnderItsName (store, inr (inl (other, has))) (inr ((none, beside, rest), alone, is)) = absurd (beside (has-head file texts (contents JournalBeside) has))
counted contents file texts Beside (store, inr (inl (other, has))) counts = has-read file texts (contents JournalBeside) has
counted contents file texts NoneYet (store, inr (inl (other, has))) (inl (none, beside)) = absurd (beside (has-head file texts (contents JournalBeside) has))
counted contents file texts NoneYet (store, inr (inl (other, has))) (inr ((none, beside, rest), alone, is)) = absurd (beside (has-head file texts (contents JournalBeside) has))
counted contents file texts UnderItsName (store, inr (inr (none, beside, empty))) (inl head) = absurd (not-none (contents TheJournal) (head_of file) head none)
counted contents file texts UnderItsName (store, inr (inr (none, beside, empty))) (inr ((other, rest, some), alone, is)) = absurd (some none)
counted contents file texts Beside (store, inr (inr (none, beside, empty))) (inl (other, head)) = absurd (beside head)
counted contents file texts Beside (store, inr (inr (none, beside, empty))) (inr ((other, rest, some), alone, is)) = absurd (some none)
counted contents file texts NoneYet (store, inr (inr (none, beside, empty))) counts = none-read (first_sum file) texts empty

-- a journal counts
some-counts : (contents : Contents) (file : List ℕ) (texts : List (List ℕ)) → OpensTo contents file texts → Chooses (head_of file) (contents TheJournal) (contents JournalBeside) None → ⊥
some-counts contents file texts (store, inl has) (other, beside, some) = other (has-head file texts (contents TheJournal) has)
some-counts contents file texts (store, inr (inl (other, has))) (none, beside, some) = beside (has-head file texts (contents JournalBeside) has)
some-counts contents file texts (store, inr (inr (none, beside, empty))) (other, rest, some) = some none

-- replaying it does not fail at a place
fails-nowhere : (contents : Contents) (file : List ℕ) (texts : List (List ℕ)) (old last : Machine) → OpensTo contents file texts → Leads old texts last
    → (fault : ℕ → ReplayFault) → ((place : ℕ) → fault place ≡ replaying.Memory → ⊥) → (told : ℕ)
    → FailsBehind (head_of file) old fault told (contents TheJournal) (contents JournalBeside) → ⊥
fails-nowhere contents file texts old last opens leads fault other told (chosen, counts, place, is_told, fails) =
    let read = counted contents file texts chosen opens counts in
    other place ((replay-law (first_sum file) (records_that_count (head_of file) chosen (contents TheJournal) (contents JournalBeside)) texts read.ending old last read.reads read.undamaged leads).1 (fault place) fails)

damaged-is-other : (place : ℕ) → replaying.Damaged place ≡ replaying.Memory → ⊥
damaged-is-other place h = cc

refused-is-other : (place : ℕ) → replaying.NotAccepted place ≡ replaying.Memory → ⊥
refused-is-other place h = cc

pub opening-law : OpeningLaw
opening-law contents file texts old last before after opens leads = (leads_on, fails_so)
  where
    leads_on : (sum : ℕ) (new : Machine) → RenewsBy (head_of file) (contents TheJournal) (contents JournalBeside) old before after sum new → (new ≡ last) × (sum ≡ sum_behind (first_sum file) texts)
    leads_on sum new (calls, r, does) =
        let read = counted contents file texts r.chosen opens r.counts in
        let same = (replay-law (first_sum file) (records_that_count (head_of file) r.chosen (contents TheJournal) (contents JournalBeside)) texts read.ending old last read.reads read.undamaged leads).0 r.done new r.replayed in
        (same.0, r.behind ∙ same.1)

    fails_so : (fault : SessionFault) → IsUnrenewed fault (head_of file) (contents TheJournal) (contents JournalBeside) old before after
        → (fault ≡ Journal journals.Memory) ⊎ (fault ≡ Journal journals.Write)
    fails_so (Journal (journals.Damaged place)) u = absurd (fails-nowhere contents file texts old last opens leads replaying.Damaged damaged-is-other place u.0)
    fails_so (Journal (journals.NotAccepted place)) u = absurd (fails-nowhere contents file texts old last opens leads replaying.NotAccepted refused-is-other place u.0)
    fails_so (Journal journals.OtherFile) u = absurd (some-counts contents file texts opens u.0)
    fails_so (Journal journals.Memory) u = inl refl
    fails_so (Journal journals.Write) u = inr refl
    fails_so (Journal journals.Read) u = absurd u
    fails_so (Home fault) u = absurd u
    fails_so (Load fault) u = absurd u
    fails_so (Serve fault) u = absurd u
    fails_so (Save fault) u = absurd u
    fails_so SaveChanged u = absurd u
