-- What a crash leaves of files that are synced, and what stores open to.
use Rattle.std.proofs.Common.{◌≡◌, ◌⊎◌, inl, inr, ℕ, ◌+◌, ◌≤◌, List, [], ◌∷◌, ◌++◌, length, Option, None, Some, option_map, slice_get, refl, sym, ap, ◌∙◌, subst, arith, append-nil, Bool, true, false, ◌==◌}
use Rattle.std.proofs.lemmas.Grind.{common_steps}
use Rattle.std.specs.Prelude.{slice_get, option_map}
use Rattle.std.specs.List.{AllByRecursion}
use Rattle.std.proofs.lemmas.List.{length-append}
use Rattle.sf_journal.specs.Records.{head_of}
use Rattle.sf_journal.specs.Readings.{Whole}
use Rattle.sf_folder.specs.declared.names.Name.{Name}
use Rattle.sf_folder.specs.declared.names.Name.TheVariants.{Store, Journal, JournalBeside}
use Rattle.sf_folder.specs.Disks.{Contents, Disk, File, Names, names_of, synced_file, IsLeftAt, OneOf}
use Rattle.sf_folder.specs.Openings.{bytes_of, GoesOnFrom, HasTexts, OpensTo}
use Rattle.sf_folder.specs.Laws.{LeavesOnly, IsAtRest, AreToldApart}
use Rattle.sf_folder.proofs.HeadLaws.{same-head}

-- a front as long as the whole is the whole
whole-front : (bytes left rest : List ℕ) → bytes ≡ left ++ rest → length bytes ≤ length left → left ≡ bytes
whole-front bytes left [] is long = sym (is ∙ append-nil left)
whole-front bytes left (x ∷ rest) is long = absurd (too_long (ap length is ∙ length-append left (x ∷ rest)))
  where
    too_long : length bytes ≡ length left + length (x ∷ rest) → ⊥
    too_long h = omega (arith, h, long)

pub some_eq : {A : Type 0} (a b : A) → Option.Some a ≡ Option.Some b → a ≡ b
some_eq a b h = cc

-- a file that is synced is left as it is
pub left-file : (files : List File) (number : ℕ) (bytes : List ℕ) (left : Option (List ℕ))
    → slice_get files number ≡ Some (record { bytes = bytes; synced = length bytes }) → IsLeftAt files (Some number) left → left ≡ Some bytes
left-file files number bytes None is h = absurd h
left-file files number bytes (Some kept) is (file, there, h) =
    let same : file ≡ record { bytes = bytes; synced = length bytes } = some_eq file _ (sym there ∙ is) in
    let front : bytes ≡ kept ++ h.rest = sym (ap (λ f. f.bytes) same) ∙ h.front in
    let long : length bytes ≤ length kept = subst (λ f. f.synced ≤ length kept) same h.synced in
    ap Some (whole-front bytes kept h.rest front long)

-- a file that was on the disk, or none
pub left-same : (files : List File) (number : ℕ) (there left : Option (List ℕ))
    → slice_get files number ≡ Some (synced_file there) → IsLeftAt files (option_map (λ _. number) there) left → left ≡ there
left-same files number None None is h = refl
left-same files number None (Some kept) is h = absurd h
left-same files number (Some bytes) left is h = left-file files number bytes left is h

-- the file and the journal are as they were
abbrev pub IsOld : Contents → Names → Type 0
IsOld contents names = (names Store ≡ names_of contents Store) × (names Journal ≡ names_of contents Journal)

pub old-opens : (contents : Contents) (file : List ℕ) (texts : List (List ℕ)) → IsAtRest contents file texts
    → (left : Contents) → left Store ≡ contents Store → left Journal ≡ contents Journal → OpensTo left file texts
old-opens contents file texts rest left store journal =
    (ap bytes_of store ∙ rest.store, inl (subst (HasTexts file texts) (sym journal) rest.journal))

-- where all names that a crash may leave are old, the store opens as it did
pub old : (contents : Contents) (file : List ℕ) (texts : List (List ℕ)) → IsAtRest contents file texts
    → (disk : Disk) → slice_get disk.files 0 ≡ Some (synced_file (contents Store)) → slice_get disk.files 2 ≡ Some (synced_file (contents Journal))
    → AllByRecursion (IsOld contents) disk.possible → LeavesOnly (λ left. OpensTo left file texts) disk
old contents file texts rest disk store journal all left may = each disk.possible all may
  where
    each : (possible : List Names) → AllByRecursion (IsOld contents) possible
        → OneOf (λ names. (name : Name) → IsLeftAt disk.files (names name) (left name)) possible → OpensTo left file texts
    each [] all may = absurd may
    each (names ∷ possible) all (inl h) =
        old-opens contents file texts rest left
        (left-same disk.files 0 (contents Store) (left Store) store (subst (λ n. IsLeftAt disk.files n (left Store)) all.0.0 (h Store)))
        (left-same disk.files 2 (contents Journal) (left Journal) journal (subst (λ n. IsLeftAt disk.files n (left Journal)) all.0.1 (h Journal)))
    each (names ∷ possible) all (inr h) = each possible all.1 h

-- a journal of its head alone
pub HasTexts-head : (file : List ℕ) → HasTexts file [] (Some (head_of file))
HasTexts-head file = ([], sym (append-nil (head_of file)), Whole, refl, inl refl)

-- the new file with its journal
pub new-opens : (file : List ℕ) (left : Contents) → left Store ≡ Some file → left Journal ≡ Some (head_of file) → OpensTo left file []
new-opens file left store journal = (ap bytes_of store, inl (subst (HasTexts file []) (sym journal) (HasTexts-head file)))

-- whether a journal goes on from a file
pub goes-on : (file : List ℕ) (journal : Option (List ℕ)) → GoesOnFrom file journal ⊎ (GoesOnFrom file journal → ⊥)
goes-on file None = inr (λ h. h)
goes-on file (Some journal) = begins (head_of file) journal
  where
    begins : (xs ys : List ℕ) → ((r : List ℕ) × (ys ≡ xs ++ r)) ⊎ ((r : List ℕ) × (ys ≡ xs ++ r) → ⊥)
    begins [] ys = inl (ys, refl)
    begins (x ∷ xs) [] = inr (λ h. empty h.0 h.1)
      where
        empty : (r : List ℕ) → [] ≡ x ∷ xs ++ r → ⊥
        empty r h = cc
    begins (x ∷ xs) (y ∷ ys) = at (begins xs ys) (x == y) refl
      where
        first : (r : List ℕ) → y ∷ ys ≡ x ∷ xs ++ r → x ≡ y
        first r h = cc

        rest : (r : List ℕ) → y ∷ ys ≡ x ∷ xs ++ r → ys ≡ xs ++ r
        rest r h = cc

        at : ((r : List ℕ) × (ys ≡ xs ++ r)) ⊎ ((r : List ℕ) × (ys ≡ xs ++ r) → ⊥) → (b : Bool) → (x == y) ≡ b
            → ((r : List ℕ) × (y ∷ ys ≡ (x ∷ xs) ++ r)) ⊎ ((r : List ℕ) × (y ∷ ys ≡ (x ∷ xs) ++ r) → ⊥)
        at (inl h) true is = let same : x ≡ y = grind (arith, common_steps) in inl (h.0, ap (λ l. y ∷ l) h.1 ∙ ap (λ z. z ∷ xs ++ h.0) (sym same))
        at (inr h) true is = inr (λ g. h (g.0, rest g.0 g.1))
        at before false is = inr (λ g. let same : x ≡ y = first g.0 g.1 in grind (arith, common_steps))

-- the new file, with the old journal under its name and the new one beside
pub between : (contents : Contents) (file new : List ℕ) (texts : List (List ℕ)) → IsAtRest contents file texts → AreToldApart file new
    → (left : Contents) → left Store ≡ Some new → left Journal ≡ contents Journal → left JournalBeside ≡ Some (head_of new)
    → OpensTo left new [] ⊎ ((file ≡ new) × OpensTo left file texts)
between contents file new texts rest apart left store journal beside = at (goes-on new (contents Journal)) (contents Journal) refl rest.journal
  where
    same : (there : Option (List ℕ)) → HasTexts file texts there → GoesOnFrom new there → file ≡ new
    same None has goes = absurd has
    same (Some bytes) has goes = apart (same-head file new has.0 goes.0 (sym has.1 ∙ goes.1))

    at : GoesOnFrom new (contents Journal) ⊎ (GoesOnFrom new (contents Journal) → ⊥) → (there : Option (List ℕ)) → contents Journal ≡ there → HasTexts file texts (contents Journal)
        → OpensTo left new [] ⊎ ((file ≡ new) × OpensTo left file texts)
    at (inl goes) there is has =
        let one : file ≡ new = same (contents Journal) has goes in
        inr (one, (ap bytes_of store ∙ sym one, inl (subst (HasTexts file texts) (sym journal) has)))
    at (inr other) there is has =
        inl (ap bytes_of store, inr (inl ((λ goes. other (subst (GoesOnFrom new) journal goes)), subst (HasTexts new []) (sym beside) (HasTexts-head new))))
