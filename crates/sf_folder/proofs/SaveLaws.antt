-- The laws of a save.
use Rattle.std.proofs.Common.{◌≡◌, ◌⊎◌, inl, inr, ℕ, List, [], ◌∷◌, ◌++◌, map, length, None, Some, refl, sym, ap, ◌∙◌, subst, append-nil, append_assoc}
use Rattle.sf_journal.specs.Records.{head_of, records, first_sum}
use Rattle.sf_folder.specs.declared.names.Name.{Name}
use Rattle.sf_folder.specs.declared.names.Name.TheVariants.{Store, StoreBeside, Journal, JournalBeside}
use Rattle.sf_folder.specs.Calls.{Call, Begins, Writes, SyncsFile, Renames, SyncsFolder}
use Rattle.sf_folder.specs.Disks.{Contents, Disk, File, Names, disk_of, names_of, synced_file, with_name, after, after_call, IsLeftAt, MayLeave}
use Rattle.sf_folder.specs.Openings.{OpensTo}
use Rattle.sf_folder.specs.Saves.{joined, writing_calls, beside_calls, store_calls, journal_calls, finishing_calls, replacing_calls, save_calls}
use Rattle.sf_folder.specs.Laws.{LeavesOnly, IsAtRest, AreToldApart, WritingLaw, SaveLaw, ReplacedLaw, SavedLaw, RefusalLaw}
use Rattle.sf_folder.proofs.Moments.{Along, along-front, along-whole, along-write}
use Rattle.sf_folder.proofs.HeadLaws.{same-head}
use Rattle.sf_folder.proofs.LeftLaws.{old, new-opens, between, left-file, left-same}

-- the disk while the new file is written
abbrev writing : Contents → List ℕ → Disk
writing contents bytes = record {
  files = synced_file (contents Store) ∷ synced_file (contents StoreBeside) ∷ synced_file (contents Journal) ∷ synced_file (contents JournalBeside)
      ∷ record { bytes = bytes; synced = 0 } ∷ [];
  names = with_name StoreBeside (Some 4) (names_of contents);
  possible = names_of contents ∷ with_name StoreBeside (Some 4) (names_of contents) ∷ [];
}

-- the pieces are written, and then other calls are made
along-pieces : (P : Disk → Type 0) (contents : Contents) → ((bytes : List ℕ) → P (writing contents bytes)) → (pieces : List (List ℕ)) (bytes : List ℕ) (calls : List Call)
    → Along P (writing contents (bytes ++ joined pieces)) calls → Along P (writing contents bytes) (map (Writes StoreBeside) pieces ++ calls)
along-pieces P contents all [] bytes calls later = subst (λ b. Along P (writing contents b) calls) (append-nil bytes) later
along-pieces P contents all (piece ∷ pieces) bytes calls later =
    along-write P (writing contents bytes) StoreBeside piece (map (Writes StoreBeside) pieces ++ calls) (all bytes) (λ front. all (bytes ++ front))
    (along-pieces P contents all pieces (bytes ++ piece) calls (subst (λ b. Along P (writing contents b) calls) (sym (append_assoc bytes piece (joined pieces))) later))

-- the disk once they are written
after-pieces : (contents : Contents) (pieces : List (List ℕ)) (bytes : List ℕ) (calls : List Call)
    → after (writing contents bytes) (map (Writes StoreBeside) pieces ++ calls) ≡ after (writing contents (bytes ++ joined pieces)) calls
after-pieces contents [] bytes calls = ap (λ b. after (writing contents b) calls) (sym (append-nil bytes))
after-pieces contents (piece ∷ pieces) bytes calls =
    after-pieces contents pieces (bytes ++ piece) calls ∙ ap (λ b. after (writing contents b) calls) (append_assoc bytes piece (joined pieces))

-- what holds of each disk on which the names are old, holds until the file takes its place
along-beside : (contents : Contents) (file : List ℕ) (texts : List (List ℕ)) → IsAtRest contents file texts
    → (P : Disk → Type 0) → ((disk : Disk) → LeavesOnly (λ left. OpensTo left file texts) disk → P disk)
    → (bytes head : List ℕ) (calls : List Call) → Along P (after (writing contents bytes) (beside_calls head)) calls
    → Along P (writing contents bytes) (beside_calls head ++ calls)
along-beside contents file texts rest P from bytes head calls later =
    let d₀ = writing contents bytes in
    let d₁ = after_call d₀ (SyncsFile StoreBeside) in
    let d₂ = after_call d₁ (Begins JournalBeside) in
    let d₃ = after_call d₂ (Writes JournalBeside head) in
    let d₄ = after_call d₃ (SyncsFile JournalBeside) in
    let c₄ = SyncsFolder ∷ calls in
    let c₃ = SyncsFile JournalBeside ∷ c₄ in
    let c₂ = Writes JournalBeside head ∷ c₃ in
    along-whole P d₀ (SyncsFile StoreBeside) (Begins JournalBeside ∷ c₂) (λ part is. is) (from d₀ (old contents file texts rest d₀ refl refl ((refl, refl), ((refl, refl), tt))))
    (along-whole P d₁ (Begins JournalBeside) c₂ (λ part is. is) (from d₁ (old contents file texts rest d₁ refl refl ((refl, refl), ((refl, refl), tt))))
    (along-write P d₂ JournalBeside head c₃ (from d₂ (old contents file texts rest d₂ refl refl ((refl, refl), ((refl, refl), ((refl, refl), ((refl, refl), tt))))))
    (λ front. from (after_call d₂ (Writes JournalBeside front)) (old contents file texts rest (after_call d₂ (Writes JournalBeside front)) refl refl ((refl, refl), ((refl, refl), ((refl, refl), ((refl, refl), tt))))))
    (along-whole P d₃ (SyncsFile JournalBeside) c₄ (λ part is. is) (from d₃ (old contents file texts rest d₃ refl refl ((refl, refl), ((refl, refl), ((refl, refl), ((refl, refl), tt))))))
    (along-whole P d₄ SyncsFolder calls (λ part is. is) (from d₄ (old contents file texts rest d₄ refl refl ((refl, refl), ((refl, refl), ((refl, refl), ((refl, refl), tt))))))
    later))))

-- a file is begun beside
along-begin : (contents : Contents) (file : List ℕ) (texts : List (List ℕ)) → IsAtRest contents file texts
    → (P : Disk → Type 0) → ((disk : Disk) → LeavesOnly (λ left. OpensTo left file texts) disk → P disk)
    → (pieces : List (List ℕ)) (calls : List Call) → Along P (writing contents (joined pieces)) calls
    → Along P (disk_of contents) (writing_calls pieces ++ calls)
along-begin contents file texts rest P from pieces calls later =
    along-whole P (disk_of contents) (Begins StoreBeside) (map (Writes StoreBeside) pieces ++ calls) (λ part is. is)
    (from (disk_of contents) (old contents file texts rest (disk_of contents) refl refl ((refl, refl), tt)))
    (along-pieces P contents (λ bytes. from (writing contents bytes) (old contents file texts rest (writing contents bytes) refl refl ((refl, refl), ((refl, refl), tt))))
    pieces [] calls later)

pub writing-law : WritingLaw
writing-law contents file texts pieces made rest front =
    let P : Disk → Type 0 = λ disk. LeavesOnly (λ left. OpensTo left file texts) disk in
    along-front P (disk_of contents) made (writing_calls pieces)
    (subst (Along P (disk_of contents)) (append-nil (writing_calls pieces))
    (along-begin contents file texts rest P (λ disk h. h) pieces []
    (old contents file texts rest (writing contents (joined pieces)) refl refl ((refl, refl), ((refl, refl), tt))))) front

-- the files once both are written beside
abbrev files_of : Contents → List ℕ → List ℕ → List File
files_of contents new head =
    synced_file (contents Store) ∷ synced_file (contents StoreBeside) ∷ synced_file (contents Journal) ∷ synced_file (contents JournalBeside)
    ∷ record { bytes = new; synced = length new } ∷ record { bytes = head; synced = length head } ∷ []

-- the names then; once the file took its place; and once the journal did
abbrev names_before : Contents → Names
names_before contents = with_name JournalBeside (Some 5) (with_name StoreBeside (Some 4) (names_of contents))

abbrev names_between : Contents → Names
names_between contents = with_name Store (Some 4) (with_name StoreBeside None (names_before contents))

abbrev names_behind : Contents → Names
names_behind contents = with_name Journal (Some 5) (with_name JournalBeside None (names_between contents))

-- the names that a crash may leave, one or two
abbrev placed : Contents → List ℕ → List ℕ → Names → List Names → Disk
placed contents new head names possible = record { files = files_of contents new head; names = names; possible = possible }

opens-between : (contents : Contents) (file : List ℕ) (texts : List (List ℕ)) (new head : List ℕ) → IsAtRest contents file texts → AreToldApart file new → head ≡ head_of new
    → (left : Contents) → ((name : Name) → IsLeftAt (files_of contents new head) (names_between contents name) (left name))
    → OpensTo left new [] ⊎ ((file ≡ new) × OpensTo left file texts)
opens-between contents file texts new head rest apart is left h =
    let files = files_of contents new head in
    between contents file new texts rest apart left (left-file files 4 new (left Store) refl (h Store))
    (left-same files 2 (contents Journal) (left Journal) refl (h Journal)) (left-file files 5 head (left JournalBeside) refl (h JournalBeside) ∙ ap Some is)

opens-behind : (contents : Contents) (new head : List ℕ) → head ≡ head_of new
    → (left : Contents) → ((name : Name) → IsLeftAt (files_of contents new head) (names_behind contents name) (left name)) → OpensTo left new []
opens-behind contents new head is left h =
    let files = files_of contents new head in
    new-opens new left (left-file files 4 new (left Store) refl (h Store)) (left-file files 5 head (left Journal) refl (h Journal) ∙ ap Some is)

-- the file takes its place
along-store : (contents : Contents) (file : List ℕ) (texts : List (List ℕ)) (new head : List ℕ) → IsAtRest contents file texts → AreToldApart file new → head ≡ head_of new
    → (P : Disk → Type 0) → ((disk : Disk) → LeavesOnly (λ left. OpensTo left file texts ⊎ OpensTo left new []) disk → P disk)
    → (calls : List Call) → Along P (placed contents new head (names_between contents) (names_between contents ∷ [])) calls
    → Along P (placed contents new head (names_before contents) (names_before contents ∷ [])) (store_calls ++ calls)
along-store contents file texts new head rest apart is P from calls later =
    let d₀ = placed contents new head (names_before contents) (names_before contents ∷ []) in
    let d₁ = placed contents new head (names_between contents) (names_before contents ∷ names_between contents ∷ []) in
    let first : LeavesOnly (λ left. OpensTo left file texts) d₀ = old contents file texts rest d₀ refl refl ((refl, refl), tt) in
    along-whole P d₀ (Renames StoreBeside Store) (SyncsFolder ∷ calls) (λ part e. e) (from d₀ (λ left may. inl (first left may)))
    (along-whole P d₁ SyncsFolder calls (λ part e. e) (from d₁ (λ left may. at left may (λ m. first left m))) later)
  where
    or : (left : Contents) → OpensTo left new [] ⊎ ((file ≡ new) × OpensTo left file texts) → OpensTo left file texts ⊎ OpensTo left new []
    or left (inl h) = inr h
    or left (inr h) = inl h.1

    at : (left : Contents) → MayLeave (placed contents new head (names_between contents) (names_before contents ∷ names_between contents ∷ [])) left
        → (MayLeave (placed contents new head (names_before contents) (names_before contents ∷ [])) left → OpensTo left file texts)
        → OpensTo left file texts ⊎ OpensTo left new []
    at left (inl h) first = inl (first (inl h))
    at left (inr (inl h)) first = or left (opens-between contents file texts new head rest apart is left h)
    at left (inr (inr h)) first = absurd h

-- the journal takes its place
along-journal : (contents : Contents) (file : List ℕ) (texts : List (List ℕ)) (new head : List ℕ) → IsAtRest contents file texts → AreToldApart file new → head ≡ head_of new
    → Along (LeavesOnly (λ left. OpensTo left new [] ⊎ ((file ≡ new) × OpensTo left file texts)))
    (placed contents new head (names_between contents) (names_between contents ∷ [])) journal_calls
along-journal contents file texts new head rest apart is =
    let P : Disk → Type 0 = LeavesOnly (λ left. OpensTo left new [] ⊎ ((file ≡ new) × OpensTo left file texts)) in
    let d₀ = placed contents new head (names_between contents) (names_between contents ∷ []) in
    let d₁ = placed contents new head (names_behind contents) (names_between contents ∷ names_behind contents ∷ []) in
    along-whole P d₀ (Renames JournalBeside Journal) (SyncsFolder ∷ []) (λ part e. e) (at (names_between contents) (λ left h. opens-between contents file texts new head rest apart is left h))
    (along-whole P d₁ SyncsFolder [] (λ part e. e)
    (λ left may. two left may)
    (at (names_behind contents) (λ left h. inl (opens-behind contents new head is left h))))
  where
    at : (names : Names)
        → ((left : Contents) → ((name : Name) → IsLeftAt (files_of contents new head) (names name) (left name)) → OpensTo left new [] ⊎ ((file ≡ new) × OpensTo left file texts))
        → (left : Contents) → MayLeave (placed contents new head names (names ∷ [])) left → OpensTo left new [] ⊎ ((file ≡ new) × OpensTo left file texts)
    at names opens left (inl h) = opens left h
    at names opens left (inr h) = absurd h

    two : (left : Contents) → MayLeave (placed contents new head (names_behind contents) (names_between contents ∷ names_behind contents ∷ [])) left
        → OpensTo left new [] ⊎ ((file ≡ new) × OpensTo left file texts)
    two left (inl h) = opens-between contents file texts new head rest apart is left h
    two left (inr (inl h)) = inl (opens-behind contents new head is left h)
    two left (inr (inr h)) = absurd h

-- what holds of each disk for one reason holds for another
along-map : (P Q : Disk → Type 0) → ((disk : Disk) → P disk → Q disk) → (disk : Disk) (calls : List Call) → Along P disk calls → Along Q disk calls
along-map P Q to disk [] a = to disk a
along-map P Q to disk (call ∷ calls) a = (to disk a.0, λ part is. to (after_call disk part) (a.1 part is), along-map P Q to (after_call disk call) calls a.2)

pub save-law : SaveLaw
save-law contents file texts pieces made rest apart front =
    let P : Disk → Type 0 = LeavesOnly (λ left. OpensTo left file texts ⊎ OpensTo left (joined pieces) []) in
    let from : (disk : Disk) → LeavesOnly (λ left. OpensTo left file texts) disk → P disk = λ disk h left may. inl (h left may) in
    along-front P (disk_of contents) made (save_calls pieces)
    (along-begin contents file texts rest P from pieces (finishing_calls (head_of (joined pieces)))
    (along-beside contents file texts rest P from (joined pieces) (head_of (joined pieces)) (store_calls ++ journal_calls)
    (along-store contents file texts (joined pieces) (head_of (joined pieces)) rest apart refl P (λ disk h. h) journal_calls
    (along-map (LeavesOnly (λ left. OpensTo left (joined pieces) [] ⊎ ((file ≡ joined pieces) × OpensTo left file texts))) P
    (λ disk h left may. or left (h left may)) (placed contents (joined pieces) (head_of (joined pieces)) (names_between contents) (names_between contents ∷ [])) journal_calls
    (along-journal contents file texts (joined pieces) (head_of (joined pieces)) rest apart refl))))) front
  where
    or : (left : Contents) → OpensTo left (joined pieces) [] ⊎ ((file ≡ joined pieces) × OpensTo left file texts) → OpensTo left file texts ⊎ OpensTo left (joined pieces) []
    or left (inl h) = inr h
    or left (inr h) = inl h.1

-- calls and then others
after-append : (disk : Disk) (calls others : List Call) → after disk (calls ++ others) ≡ after (after disk calls) others
after-append disk [] others = refl
after-append disk (call ∷ calls) others = after-append (after_call disk call) calls others

-- the disk once the file has its place
after-replacing : (contents : Contents) (pieces : List (List ℕ))
    → after (disk_of contents) (replacing_calls pieces) ≡ placed contents (joined pieces) (head_of (joined pieces)) (names_between contents) (names_between contents ∷ [])
after-replacing contents pieces = after-pieces contents pieces [] (beside_calls (head_of (joined pieces)) ++ store_calls)

pub replaced-law : ReplacedLaw
replaced-law contents file texts pieces made rest apart front =
    let P : Disk → Type 0 = LeavesOnly (λ left. OpensTo left (joined pieces) [] ⊎ ((file ≡ joined pieces) × OpensTo left file texts)) in
    let d = placed contents (joined pieces) (head_of (joined pieces)) (names_between contents) (names_between contents ∷ []) in
    subst P (sym (after-append (disk_of contents) (replacing_calls pieces) made ∙ ap (λ disk. after disk made) (after-replacing contents pieces)))
    (along-front P d made journal_calls (along-journal contents file texts (joined pieces) (head_of (joined pieces)) rest apart refl) front)

pub saved-law : SavedLaw
saved-law contents pieces =
    let new = joined pieces in
    let P : Disk → Type 0 = LeavesOnly (λ left. OpensTo left new []) in
    subst P (sym (after-pieces contents pieces [] (finishing_calls (head_of new)))) (λ left may. at left may)
  where
    at : (left : Contents) → MayLeave (placed contents (joined pieces) (head_of (joined pieces)) (names_behind contents) (names_behind contents ∷ [])) left → OpensTo left (joined pieces) []
    at left (inl h) = opens-behind contents (joined pieces) (head_of (joined pieces)) refl left h
    at left (inr h) = absurd h

pub refusal-law : RefusalLaw
refusal-law file other texts front rest records_of_other apart parts is =
    apart (same-head file other (records (first_sum file) texts) (records_of_other ++ rest) (parts ∙ ap (λ l. l ++ rest) is ∙ append_assoc (head_of other) records_of_other rest))
