-- The law of writing the journal anew.
use Rattle.std.proofs.Common.{◌≡◌, ◌⊎◌, inl, inr, ℕ, zero, suc, cond, Bool, true, false, ◌==◌, ◌||◌, List, [], ◌∷◌, ◌++◌, length, Option, None, Some, option_map, slice_get, refl, sym, ap, ◌∙◌, subst, append-nil, append_assoc}
use Rattle.std.specs.Prelude.{slice_get, option_map}
use Rattle.std.specs.List.{AllByRecursion, list_any}
use Rattle.sf_text_lines.specs.Lines.{Line, lines_of, onto_first, HasNoFeed}
use Rattle.sf_journal.specs.Records.{head_of, records, first_sum, sum_with, mark_of}
use Rattle.sf_journal.specs.Readings.{Ending, Whole, AreIn, Reads}
use Rattle.sf_journal.proofs.FrontLaws.{Reads-records}
use Rattle.sf_folder.specs.declared.names.Name.{Name}
use Rattle.sf_folder.specs.declared.names.Name.TheVariants.{Store, StoreBeside, Journal, JournalBeside}
use Rattle.sf_folder.specs.declared.choosing.Chosen.TheVariants.{UnderItsName, Beside, NoneYet}
use Rattle.sf_folder.specs.Calls.{Call, Begins, Writes, SyncsFile, Renames, SyncsFolder}
use Rattle.sf_folder.specs.Disks.{Contents, Disk, File, Names, disk_of, names_of, synced_file, with_name, renamed, after, after_call, IsLeftAt}
use Rattle.sf_folder.specs.Openings.{bytes_of, HasHead, GoesOnFrom, HasTexts, OpensTo}
use Rattle.sf_folder.specs.Renewals.{settling_calls, rewriting_calls, renewing_calls}
use Rattle.sf_folder.specs.Laws.{LeavesOnly, RenewLaw}
use Rattle.sf_folder.proofs.Moments.{Along, along-front, along-whole}
use Rattle.sf_folder.proofs.LeftLaws.{left-file, left-same, goes-on, some_eq}
use Rattle.std.proofs.lemmas.List.{append_cancel_left}

-- texts of records have no line feed

tail : (a b : Bool) → (a || b) ≡ false → b ≡ false
tail true b h = cc
tail false b h = h

unfed-behind : (xs ys : List ℕ) → HasNoFeed (xs ++ ys) → HasNoFeed ys
unfed-behind [] ys h = h
unfed-behind (x ∷ xs) ys h = unfed-behind xs ys (tail (x == 10) (list_any (λ b. b == 10) (xs ++ ys)) h)

lines-unfed : (bytes : List ℕ) → AllByRecursion (λ line. HasNoFeed line.bytes) (lines_of bytes)
lines-unfed [] = tt
lines-unfed (b ∷ bytes) = at (lines_of bytes) (lines-unfed bytes) (b == 10) refl
  where
    onto : (lines : List Line) → AllByRecursion (λ line. HasNoFeed line.bytes) lines → (b == 10) ≡ false → AllByRecursion (λ line. HasNoFeed line.bytes) (onto_first b lines)
    onto [] all is = (ap (λ x. x || false) is, tt)
    onto (line ∷ lines) all is = (ap (λ x. x || list_any (λ c. c == 10) line.bytes) is ∙ all.0, all.1)

    at : (lines : List Line) → AllByRecursion (λ line. HasNoFeed line.bytes) lines → (x : Bool) → (b == 10) ≡ x
        → AllByRecursion (λ line. HasNoFeed line.bytes) (cond x (record { bytes = []; ended = true } ∷ lines) (onto_first b lines))
    at lines all true is = (refl, all)
    at lines all false is = onto lines all is

unfed-texts : (sum : ℕ) (lines : List Line) (texts : List (List ℕ)) (ending : Ending) → AllByRecursion (λ line. HasNoFeed line.bytes) lines → AreIn sum lines texts ending
    → AllByRecursion HasNoFeed texts
unfed-texts sum lines [] ending all h = tt
unfed-texts sum [] (text ∷ texts) ending all h = absurd h
unfed-texts sum (line ∷ lines) (text ∷ texts) ending all h =
    (unfed-behind (mark_of (sum_with sum text)) text (subst HasNoFeed h.1 all.0), unfed-texts (sum_with sum text) lines texts ending all.1 h.2)

-- the journal that is written anew has the texts
HasTexts-anew : (file : List ℕ) (texts : List (List ℕ)) → AllByRecursion HasNoFeed texts → HasTexts file texts (Some (head_of file ++ records (first_sum file) texts))
HasTexts-anew file texts unfed =
    let sum = first_sum file in
    let reads : Reads sum (records sum texts) texts Whole =
    subst (λ t. Reads sum (records sum texts) t Whole) (append-nil texts)
    (subst (λ b. Reads sum b (texts ++ []) Whole) (append-nil (records sum texts)) (Reads-records sum texts [] [] Whole unfed refl)) in
    (records sum texts, refl, Whole, reads, inl refl)

-- so do texts that are read from a journal
HasTexts-unfed : (file : List ℕ) (texts : List (List ℕ)) (journal : Option (List ℕ)) → HasTexts file texts journal → AllByRecursion HasNoFeed texts
HasTexts-unfed file texts None h = absurd h
HasTexts-unfed file texts (Some bytes) h = unfed-texts (first_sum file) (lines_of h.0) texts h.2 (lines-unfed h.0) h.3

-- a writing, of which any front may have taken place
along-fronts : (P : Disk → Type 0) (disk : Disk) (name : Name) (bytes : List ℕ) (calls : List Call)
    → P disk → ((front rest : List ℕ) → bytes ≡ front ++ rest → P (after_call disk (Writes name front))) → Along P (after_call disk (Writes name bytes)) calls
    → Along P disk (Writes name bytes ∷ calls)
along-fronts P disk name bytes calls now fronts later =
    (now, λ part is. subst (λ c. P (after_call disk c)) (sym is.3) (fronts is.0 is.1 is.2), later)

-- the files that were there
abbrev four : Contents → List File
four contents = synced_file (contents Store) ∷ synced_file (contents StoreBeside) ∷ synced_file (contents Journal) ∷ synced_file (contents JournalBeside) ∷ []

-- the disk before a journal is written, with these names
abbrev before : Contents → Names → Disk
before contents names = record { files = four contents; names = names; possible = names ∷ [] }

-- the same files, and one more
slice_get-more : (files : List File) (more : File) (number : ℕ) (file : File) → slice_get files number ≡ Some file → slice_get (files ++ more ∷ []) number ≡ Some file
slice_get-more [] more number file h = cc
slice_get-more (f ∷ files) more zero file h = h
slice_get-more (f ∷ files) more (suc number) file h = slice_get-more files more number file h

left-more : (files : List File) (more : File) (number : Option ℕ) (left : Option (List ℕ)) → IsLeftAt files number left → IsLeftAt (files ++ more ∷ []) number left
left-more files more None None h = tt
left-more files more None (Some bytes) h = absurd h
left-more files more (Some number) None h = absurd h
left-more files more (Some number) (Some bytes) h = (h.0, slice_get-more files more number h.0 h.1, h.2)

-- while a front of the new journal stands beside, and the other names are as they were, the store opens as it did
abbrev Steady : Contents → Names → List ℕ → List (List ℕ) → List ℕ → Type 0
Steady contents old file texts journal =
    (left : Contents) (new : File) (names : Names) → names Store ≡ old Store → names Journal ≡ old Journal
    → ((names JournalBeside ≡ old JournalBeside) ⊎ ((names JournalBeside ≡ Some 4) × (rest : List ℕ) × (journal ≡ new.bytes ++ rest)))
    → ((name : Name) → IsLeftAt (four contents ++ new ∷ []) (names name) (left name)) → OpensTo left file texts

-- the disk while it is written
abbrev during : Contents → Names → File → List Names → Disk
during contents old new possible = record { files = four contents ++ new ∷ []; names = with_name JournalBeside (Some 4) old; possible = possible }

abbrev renewed : Names → Names
renewed old = with_name Journal (Some 4) (with_name JournalBeside None (with_name JournalBeside (Some 4) old))

abbrev file_with : List ℕ → File
file_with bytes = record { bytes = bytes; synced = 0 }

abbrev new_names : Names → Names
new_names old = with_name JournalBeside (Some 4) old

abbrev two : Names → List Names
two old = old ∷ new_names old ∷ []

-- the disk once it has its name
abbrev behind : Contents → Names → File → List Names → Disk
behind contents old new possible = record { files = four contents ++ new ∷ []; names = renewed old; possible = possible }

-- what is known of the file and of the texts while a journal is written
record Renews (contents : Contents) (old : Names) (file : List ℕ) (texts : List (List ℕ)) (head recs : List ℕ) : Type 0 where
  store : old Store ≡ names_of contents Store
  is : bytes_of (contents Store) ≡ file
  steady : Steady contents old file texts (head ++ recs)
  has : HasTexts file texts (Some (head ++ recs))

at-start : (contents : Contents) (old : Names) (file : List ℕ) (texts : List (List ℕ)) (head recs : List ℕ) → Renews contents old file texts head recs
    → LeavesOnly (λ left. OpensTo left file texts) (before contents old)
at-start contents old file texts head recs r left (inl h) =
    r.steady left (file_with []) old refl refl (inl refl) (λ name. left-more (four contents) (file_with []) (old name) (left name) (h name))
at-start contents old file texts head recs r left (inr h) = absurd h

at-two : (contents : Contents) (old : Names) (file : List ℕ) (texts : List (List ℕ)) (head recs : List ℕ) → Renews contents old file texts head recs
    → (new : File) (rest : List ℕ) → head ++ recs ≡ new.bytes ++ rest → LeavesOnly (λ left. OpensTo left file texts) (during contents old new (two old))
at-two contents old file texts head recs r new rest is left (inl h) = r.steady left new old refl refl (inl refl) h
at-two contents old file texts head recs r new rest is left (inr (inl h)) = r.steady left new (new_names old) refl refl (inr (refl, rest, is)) h
at-two contents old file texts head recs r new rest is left (inr (inr h)) = absurd h

abbrev whole : List ℕ → List ℕ → File
whole head recs = record { bytes = head ++ recs; synced = length (head ++ recs) }

opens-new : (contents : Contents) (old : Names) (file : List ℕ) (texts : List (List ℕ)) (head recs : List ℕ) → Renews contents old file texts head recs
    → (left : Contents) → ((name : Name) → IsLeftAt (four contents ++ whole head recs ∷ []) (renewed old name) (left name)) → OpensTo left file texts
opens-new contents old file texts head recs r left h =
    let files = four contents ++ whole head recs ∷ [] in (
      ap bytes_of (left-same files 0 (contents Store) (left Store) refl (subst (λ n. IsLeftAt files n (left Store)) r.store (h Store))) ∙ r.is,
      inl (subst (HasTexts file texts) (sym (left-file files 4 (head ++ recs) (left Journal) refl (h Journal))) r.has),
    )

opens-beside : (contents : Contents) (old : Names) (file : List ℕ) (texts : List (List ℕ)) (head recs : List ℕ) → Renews contents old file texts head recs
    → (left : Contents) → ((name : Name) → IsLeftAt (four contents ++ whole head recs ∷ []) (new_names old name) (left name)) → OpensTo left file texts
opens-beside contents old file texts head recs r left h =
    r.steady left (whole head recs) (new_names old) refl refl (inr (refl, [], sym (append-nil (head ++ recs)))) h

at-one : (contents : Contents) (old : Names) (file : List ℕ) (texts : List (List ℕ)) (head recs : List ℕ) → Renews contents old file texts head recs
    → LeavesOnly (λ left. OpensTo left file texts) (during contents old (whole head recs) (new_names old ∷ []))
at-one contents old file texts head recs r left (inl h) = opens-beside contents old file texts head recs r left h
at-one contents old file texts head recs r left (inr h) = absurd h

at-rename : (contents : Contents) (old : Names) (file : List ℕ) (texts : List (List ℕ)) (head recs : List ℕ) → Renews contents old file texts head recs
    → LeavesOnly (λ left. OpensTo left file texts) (behind contents old (whole head recs) (new_names old ∷ renewed old ∷ []))
at-rename contents old file texts head recs r left (inl h) = opens-beside contents old file texts head recs r left h
at-rename contents old file texts head recs r left (inr (inl h)) = opens-new contents old file texts head recs r left h
at-rename contents old file texts head recs r left (inr (inr h)) = absurd h

at-end : (contents : Contents) (old : Names) (file : List ℕ) (texts : List (List ℕ)) (head recs : List ℕ) → Renews contents old file texts head recs
    → LeavesOnly (λ left. OpensTo left file texts) (behind contents old (whole head recs) (renewed old ∷ []))
at-end contents old file texts head recs r left (inl h) = opens-new contents old file texts head recs r left h
at-end contents old file texts head recs r left (inr h) = absurd h

along-rewriting : (contents : Contents) (old : Names) (file : List ℕ) (texts : List (List ℕ)) (head recs : List ℕ) → Renews contents old file texts head recs
    → Along (LeavesOnly (λ left. OpensTo left file texts)) (before contents old) (rewriting_calls head recs)
along-rewriting contents old file texts head recs r =
    let P : Disk → Type 0 = LeavesOnly (λ left. OpensTo left file texts) in
    let d = before contents old in
    let start = at-start contents old file texts head recs r in
    let at = at-two contents old file texts head recs r in
    let c₆ = Renames JournalBeside Journal ∷ SyncsFolder ∷ [] in
    let c₅ = SyncsFolder ∷ c₆ in
    let c₄ = SyncsFile JournalBeside ∷ c₅ in
    let c₃ = Writes JournalBeside recs ∷ c₄ in
    let c₂ = Writes JournalBeside head ∷ c₃ in
    along-whole P d SyncsFolder (Begins JournalBeside ∷ c₂) (λ part e. e) start
    (along-whole P d (Begins JournalBeside) c₂ (λ part e. e) start
    (along-fronts P (during contents old (file_with []) (two old)) JournalBeside head c₃ (at (file_with []) (head ++ recs) refl)
    (λ front rest e. at (file_with front) (rest ++ recs) (ap (λ l. l ++ recs) e ∙ append_assoc front rest recs))
    (along-fronts P (during contents old (file_with head) (two old)) JournalBeside recs c₄ (at (file_with head) recs refl)
    (λ front rest e. at (file_with (head ++ front)) rest (ap (λ l. head ++ l) e ∙ sym (append_assoc head front rest)))
    (along-whole P (during contents old (file_with (head ++ recs)) (two old)) (SyncsFile JournalBeside) c₅ (λ part e. e) (at (file_with (head ++ recs)) [] (sym (append-nil (head ++ recs))))
    (along-whole P (during contents old (whole head recs) (two old)) SyncsFolder c₆ (λ part e. e) (at (whole head recs) [] (sym (append-nil (head ++ recs))))
    (along-whole P (during contents old (whole head recs) (new_names old ∷ [])) (Renames JournalBeside Journal) (SyncsFolder ∷ []) (λ part e. e) (at-one contents old file texts head recs r)
    (along-whole P (behind contents old (whole head recs) (new_names old ∷ renewed old ∷ [])) SyncsFolder [] (λ part e. e)
    (at-rename contents old file texts head recs r) (at-end contents old file texts head recs r))))))))

-- where a journal counts under some name, nothing beside matters
steady-journal : (contents : Contents) (old : Names) (file : List ℕ) (texts : List (List ℕ)) (journal : List ℕ) → old Store ≡ names_of contents Store → bytes_of (contents Store) ≡ file
    → (number : ℕ) (there : Option (List ℕ)) → ((new : File) → slice_get (four contents ++ new ∷ []) number ≡ Some (synced_file there))
    → old Journal ≡ option_map (λ _. number) there → HasTexts file texts there → Steady contents old file texts journal
steady-journal contents old file texts journal store is number there at names_it has left new names s j b h =
    let files = four contents ++ new ∷ [] in (
      ap bytes_of (left-same files 0 (contents Store) (left Store) refl (subst (λ n. IsLeftAt files n (left Store)) (s ∙ store) (h Store))) ∙ is,
      inl (subst (HasTexts file texts) (sym (left-same files number there (left Journal) (at new) (subst (λ n. IsLeftAt files n (left Journal)) (j ∙ names_it) (h Journal)))) has),
    )

-- no journal goes on that is not there
none-goes : (file : List ℕ) (there : Option (List ℕ)) → there ≡ None → GoesOnFrom file there → ⊥
none-goes file None is h = h
none-goes file (Some bytes) is h = cc

goes : (file : List ℕ) (texts : List (List ℕ)) (there : Option (List ℕ)) → HasTexts file texts there → GoesOnFrom file there
goes file texts None h = h
goes file texts (Some bytes) h = (h.0, h.1)

no-more : (head r more : List ℕ) → head ++ [] ≡ (head ++ r) ++ more → r ≡ []
no-more head [] more is = refl
no-more head (x ∷ r) more is = absurd (wrong (append_cancel_left head [] ((x ∷ r) ++ more) (is ∙ append_assoc head (x ∷ r) more)))
  where
    wrong : [] ≡ (x ∷ r) ++ more → ⊥
    wrong h = cc

-- a front of a head that begins with the head is the head
head-alone : (file kept r more : List ℕ) → kept ≡ head_of file ++ r → head_of file ++ [] ≡ kept ++ more → HasTexts file [] (Some kept)
head-alone file kept r more is all =
    ([], is ∙ ap (λ l. head_of file ++ l) (no-more (head_of file) r more (all ∙ ap (λ l. l ++ more) is)), Whole, refl, inl refl)

-- the same of what a crash left of a new journal without texts
head-left : (file : List ℕ) (files : List File) (new : File) (rest : List ℕ) (left : Option (List ℕ)) → slice_get files 4 ≡ Some new → head_of file ++ [] ≡ new.bytes ++ rest
    → IsLeftAt files (Some 4) left → GoesOnFrom file left → HasTexts file [] left
head-left file files new rest None at is h goes = goes
head-left file files new rest (Some kept) at is h goes =
    let same : h.0 ≡ new = some_eq h.0 new (sym h.1 ∙ at) in
    let parts : new.bytes ≡ kept ++ h.2.rest = ap (λ f. f.bytes) (sym same) ∙ h.2.front in
    head-alone file kept goes.0 (h.2.rest ++ rest) goes.1 (is ∙ ap (λ l. l ++ rest) parts ∙ append_assoc kept h.2.rest rest)

-- where there is no journal yet, the new one beside has no texts
steady-none : (contents : Contents) (file : List ℕ) → bytes_of (contents Store) ≡ file → contents Journal ≡ None → (GoesOnFrom file (contents JournalBeside) → ⊥)
    → Steady contents (names_of contents) file [] (head_of file ++ [])
steady-none contents file is none other left new names s j b h = (ap bytes_of store ∙ is, inr (at (goes-on file (left JournalBeside))))
  where
    store : left Store ≡ contents Store
    store = left-same (four contents ++ new ∷ []) 0 (contents Store) (left Store) refl (subst (λ n. IsLeftAt (four contents ++ new ∷ []) n (left Store)) s (h Store))

    journal : left Journal ≡ None
    journal = left-same (four contents ++ new ∷ []) 2 (contents Journal) (left Journal) refl (subst (λ n. IsLeftAt (four contents ++ new ∷ []) n (left Journal)) j (h Journal)) ∙ none

    beside : (names JournalBeside ≡ names_of contents JournalBeside) ⊎ ((names JournalBeside ≡ Some 4) × (rest : List ℕ) × (head_of file ++ [] ≡ new.bytes ++ rest))
        → GoesOnFrom file (left JournalBeside) → HasTexts file [] (left JournalBeside)
    beside (inl same) goes =
        absurd (other (subst (GoesOnFrom file)
        (left-same (four contents ++ new ∷ []) 3 (contents JournalBeside) (left JournalBeside) refl (subst (λ n. IsLeftAt (four contents ++ new ∷ []) n (left JournalBeside)) same (h JournalBeside))) goes))
    beside (inr new_one) goes =
        head-left file (four contents ++ new ∷ []) new new_one.1 (left JournalBeside) refl new_one.2
        (subst (λ n. IsLeftAt (four contents ++ new ∷ []) n (left JournalBeside)) new_one.0 (h JournalBeside)) goes

    at : GoesOnFrom file (left JournalBeside) ⊎ (GoesOnFrom file (left JournalBeside) → ⊥)
        → ((GoesOnFrom file (left Journal) → ⊥) × HasTexts file [] (left JournalBeside))
        ⊎ ((left Journal ≡ None) × (GoesOnFrom file (left JournalBeside) → ⊥) × (◌≡◌ {A = List (List ℕ)} [] []))
    at (inl goes) = inl (none-goes file (left Journal) journal, beside b goes)
    at (inr not_so) = inr (journal, not_so, refl)

-- the same bytes open to the same
opens-same : (contents : Contents) (file : List ℕ) (texts : List (List ℕ)) → OpensTo contents file texts → (left : Contents)
    → left Store ≡ contents Store → left Journal ≡ contents Journal → left JournalBeside ≡ contents JournalBeside → OpensTo left file texts
opens-same contents file texts opens left s j b = (ap bytes_of s ∙ opens.0, at opens.1)
  where
    at : (HasTexts file texts (contents Journal) ⊎ ((GoesOnFrom file (contents Journal) → ⊥) × HasTexts file texts (contents JournalBeside))
        ⊎ ((contents Journal ≡ None) × (GoesOnFrom file (contents JournalBeside) → ⊥) × (texts ≡ [])))
        → (HasTexts file texts (left Journal) ⊎ ((GoesOnFrom file (left Journal) → ⊥) × HasTexts file texts (left JournalBeside))
        ⊎ ((left Journal ≡ None) × (GoesOnFrom file (left JournalBeside) → ⊥) × (texts ≡ [])))
    at (inl has) = inl (subst (HasTexts file texts) (sym j) has)
    at (inr (inl has)) = inr (inl ((λ g. has.0 (subst (GoesOnFrom file) j g)), subst (HasTexts file texts) (sym b) has.1))
    at (inr (inr bare)) = inr (inr (j ∙ bare.0, (λ g. bare.1 (subst (GoesOnFrom file) b g)), bare.2))

-- a journal that is there
some-of : (head : List ℕ) (there : Option (List ℕ)) → HasHead head there → (bytes : List ℕ) × (there ≡ Some bytes)
some-of head None h = absurd h
some-of head (Some bytes) h = (bytes, refl)

-- the journal beside takes its place, and is written anew there
abbrev settled : Contents → Names
settled contents = with_name Journal (Some 3) (with_name JournalBeside None (names_of contents))

along-settling : (contents : Contents) (file : List ℕ) (texts : List (List ℕ)) (bytes : List ℕ) → OpensTo contents file texts → contents JournalBeside ≡ Some bytes
    → HasTexts file texts (contents JournalBeside) → (calls : List Call) → Along (LeavesOnly (λ left. OpensTo left file texts)) (before contents (settled contents)) calls
    → Along (LeavesOnly (λ left. OpensTo left file texts)) (disk_of contents) (settling_calls ++ calls)
along-settling contents file texts bytes opens there has calls later =
    let P : Disk → Type 0 = LeavesOnly (λ left. OpensTo left file texts) in
    let moved : Disk = record { files = four contents; names = settled contents; possible = names_of contents ∷ settled contents ∷ [] } in
    along-whole P (disk_of contents) SyncsFolder (Renames JournalBeside Journal ∷ SyncsFolder ∷ calls) (λ part e. e) first
    (along-whole P (disk_of contents) (Renames JournalBeside Journal) (SyncsFolder ∷ calls) (λ part e. e) first
    (subst (λ o. Along P (renamed o JournalBeside Journal (disk_of contents)) (SyncsFolder ∷ calls)) (sym (ap (option_map (λ _. 3)) there))
    (along-whole P moved SyncsFolder calls (λ part e. e) second later)))
  where
    same : (left : Contents) → ((name : Name) → IsLeftAt (four contents) (names_of contents name) (left name)) → OpensTo left file texts
    same left h =
        opens-same contents file texts opens left (left-same (four contents) 0 (contents Store) (left Store) refl (h Store))
        (left-same (four contents) 2 (contents Journal) (left Journal) refl (h Journal)) (left-same (four contents) 3 (contents JournalBeside) (left JournalBeside) refl (h JournalBeside))

    first : LeavesOnly (λ left. OpensTo left file texts) (disk_of contents)
    first left (inl h) = same left h
    first left (inr h) = absurd h

    second : LeavesOnly (λ left. OpensTo left file texts) (record { files = four contents; names = settled contents; possible = names_of contents ∷ settled contents ∷ [] })
    second left (inl h) = same left h
    second left (inr (inl h)) = (
      ap bytes_of (left-same (four contents) 0 (contents Store) (left Store) refl (h Store)) ∙ opens.0,
      inl (subst (HasTexts file texts)
          (sym (left-same (four contents) 3 (contents JournalBeside) (left Journal) refl (subst (λ n. IsLeftAt (four contents) n (left Journal)) (sym (ap (option_map (λ _. 3)) there)) (h Journal)))) has),
    )
    second left (inr (inr h)) = absurd h

pub renew-law : RenewLaw
renew-law contents file texts UnderItsName made opens choose front = at opens.1
  where
    with_it : HasTexts file texts (contents Journal) → LeavesOnly (λ left. OpensTo left file texts) (after (disk_of contents) made)
    with_it has =
        along-front (LeavesOnly (λ left. OpensTo left file texts)) (disk_of contents) made (rewriting_calls (head_of file) (records (first_sum file) texts))
        (along-rewriting contents (names_of contents) file texts (head_of file) (records (first_sum file) texts) (record {
          store = refl;
          is = opens.0;
          steady = steady-journal contents (names_of contents) file texts (head_of file ++ records (first_sum file) texts) refl opens.0 2 (contents Journal) (λ new. refl) refl has;
          has = HasTexts-anew file texts (HasTexts-unfed file texts (contents Journal) has);
        })) front

    at : (HasTexts file texts (contents Journal) ⊎ ((GoesOnFrom file (contents Journal) → ⊥) × HasTexts file texts (contents JournalBeside))
        ⊎ ((contents Journal ≡ None) × (GoesOnFrom file (contents JournalBeside) → ⊥) × (texts ≡ []))) → LeavesOnly (λ left. OpensTo left file texts) (after (disk_of contents) made)
    at (inl has) = with_it has
    at (inr (inl has)) = absurd (has.0 choose)
    at (inr (inr bare)) = absurd (none-goes file (contents Journal) bare.0 choose)
renew-law contents file texts Beside made opens choose front = at opens.1
  where
    with_it : HasTexts file texts (contents JournalBeside) → LeavesOnly (λ left. OpensTo left file texts) (after (disk_of contents) made)
    with_it has =
        let there = some-of (head_of file) (contents JournalBeside) choose.1 in
        along-front (LeavesOnly (λ left. OpensTo left file texts)) (disk_of contents) made (renewing_calls Beside (head_of file) (records (first_sum file) texts))
        (along-settling contents file texts there.0 opens there.1 has (rewriting_calls (head_of file) (records (first_sum file) texts))
        (along-rewriting contents (settled contents) file texts (head_of file) (records (first_sum file) texts) (record {
          store = refl;
          is = opens.0;
          steady = steady-journal contents (settled contents) file texts (head_of file ++ records (first_sum file) texts) refl opens.0 3 (contents JournalBeside) (λ new. refl)
              (sym (ap (option_map (λ _. 3)) there.1)) has;
          has = HasTexts-anew file texts (HasTexts-unfed file texts (contents JournalBeside) has);
        }))) front

    at : (HasTexts file texts (contents Journal) ⊎ ((GoesOnFrom file (contents Journal) → ⊥) × HasTexts file texts (contents JournalBeside))
        ⊎ ((contents Journal ≡ None) × (GoesOnFrom file (contents JournalBeside) → ⊥) × (texts ≡ []))) → LeavesOnly (λ left. OpensTo left file texts) (after (disk_of contents) made)
    at (inl has) = absurd (choose.0 (goes file texts (contents Journal) has))
    at (inr (inl has)) = with_it has.1
    at (inr (inr bare)) = absurd (bare.1 choose.1)
renew-law contents file texts NoneYet made opens choose front = at opens.1
  where
    with_none : texts ≡ [] → LeavesOnly (λ left. OpensTo left file texts) (after (disk_of contents) made)
    with_none none =
        along-front (LeavesOnly (λ left. OpensTo left file texts)) (disk_of contents) made (rewriting_calls (head_of file) (records (first_sum file) texts))
        (subst (λ t. Along (LeavesOnly (λ left. OpensTo left file t)) (disk_of contents) (rewriting_calls (head_of file) (records (first_sum file) t))) (sym none)
        (along-rewriting contents (names_of contents) file [] (head_of file) [] (record {
          store = refl;
          is = opens.0;
          steady = steady-none contents file opens.0 choose.0 choose.1;
          has = HasTexts-anew file [] tt;
        }))) front

    at : (HasTexts file texts (contents Journal) ⊎ ((GoesOnFrom file (contents Journal) → ⊥) × HasTexts file texts (contents JournalBeside))
        ⊎ ((contents Journal ≡ None) × (GoesOnFrom file (contents JournalBeside) → ⊥) × (texts ≡ []))) → LeavesOnly (λ left. OpensTo left file texts) (after (disk_of contents) made)
    at (inl has) = absurd (none-goes file (contents Journal) choose.0 (goes file texts (contents Journal) has))
    at (inr (inl has)) = absurd (choose.1 (goes file texts (contents JournalBeside) has.1))
    at (inr (inr bare)) = with_none bare.2
