-- How a disk follows what is put behind the journal.
use Rattle.std.proofs.Common.{◌≡◌, inl, inr, ℕ, zero, suc, Bool, true, false, List, [], ◌∷◌, ◌++◌, length, Option, None, Some, slice_get, refl, sym, ap, ◌∙◌, subst, append_assoc, append-nil, if◌then◌else◌}
use Rattle.sf_folder.specs.Calls.{AnswerFails, Answers, Begins, Call, FindsNone, Knows, Locks, Opens, Reads, Refuses, Renames, Stays, SyncFails, SyncsFile, SyncsFolder, Warns, WriteFails, Writes}
use Rattle.sf_folder.specs.declared.names.Name.{Name}
use Rattle.sf_folder.specs.declared.names.Name.TheVariants.{Store, StoreBeside, Journal, JournalBeside}
use Rattle.sf_folder.specs.Disks.{Disk, File, after, after_call as disk_after, with_file, with_file_at}
use Rattle.sf_keeping.specs.Desks.{Standing, after_call, after_calls}

-- a file that was changed, and the others
at-file : (change : File → File) (number : ℕ) (files : List File) (file : File) → slice_get files number ≡ Some file → slice_get (with_file change number files) number ≡ Some (change file)
at-file change number [] file is = absurd (none is)
  where
    none : slice_get {X = File} [] number ≡ Some file → ⊥
    none h = cc
at-file change zero (f ∷ files) file is = ap (λ g. Some (change g)) (same is)
  where
    same : ◌≡◌ {A = Option File} (Some f) (Some file) → f ≡ file
    same h = cc
at-file change (suc number) (f ∷ files) file is = at-file change number files file is

other-file : (change : File → File) (number other : ℕ) (files : List File) → (other ≡ number → ⊥) → slice_get (with_file change number files) other ≡ slice_get files other
other-file change number other [] differ = refl
other-file change zero zero (f ∷ files) differ = absurd (differ refl)
other-file change zero (suc other) (f ∷ files) differ = refl
other-file change (suc number) zero (f ∷ files) differ = refl
other-file change (suc number) (suc other) (f ∷ files) differ = other-file change number other files (λ is. differ (ap suc is))

-- a disk has followed the calls behind another one, whose journal has these bytes on the disk
pub record Follows (disk : Disk) (journal : ℕ) (bytes : List ℕ) (now : Disk) (standing : Standing) : Type 0 where
  pub names : now.names ≡ disk.names
  pub possible : now.possible ≡ disk.names ∷ []
  pub file : slice_get now.files journal ≡ Some (record { bytes = bytes ++ (standing.kept ++ standing.waiting); synced = length (bytes ++ standing.kept) })
  pub others : (other : ℕ) → (other ≡ journal → ⊥) → slice_get now.files other ≡ slice_get disk.files other

broken : {P : Type 0} → true ≡ false → P
broken h = absurd (no h)
  where
    no : true ≡ false → ⊥
    no h = cc

-- bytes are put behind it
follows-write : (disk now : Disk) (journal : ℕ) (bytes more : List ℕ) (standing : Standing) → disk.names Journal ≡ Some journal → Follows disk journal bytes now standing
    → Follows disk journal bytes (disk_after now (Writes Journal more)) (after_call standing (Writes Journal more))
follows-write disk now journal bytes more standing at f =
    subst (λ o. Follows disk journal bytes (with_file_at o (λ file. record file { bytes = file.bytes ++ more }) now) (after_call standing (Writes Journal more)))
    (sym (ap (λ names. names Journal) f.names ∙ at))
    (record {
      names = f.names;
      possible = f.possible;
      file = at-file (λ file. record file { bytes = file.bytes ++ more }) journal now.files _ f.file
          ∙ ap (λ l. Some (record { bytes = l; synced = length (bytes ++ standing.kept) }))
          (append_assoc bytes (standing.kept ++ standing.waiting) more ∙ ap (λ l. bytes ++ l) (append_assoc standing.kept standing.waiting more));
      others = λ other differ. other-file (λ file. record file { bytes = file.bytes ++ more }) journal other now.files differ ∙ f.others other differ;
    })

-- it is synced
follows-sync : (disk now : Disk) (journal : ℕ) (bytes : List ℕ) (standing : Standing) → disk.names Journal ≡ Some journal → standing.broken ≡ false → Follows disk journal bytes now standing
    → Follows disk journal bytes (disk_after now (SyncsFile Journal)) (after_call standing (SyncsFile Journal))
follows-sync disk now journal bytes standing at whole f =
    subst (λ s. Follows disk journal bytes (disk_after now (SyncsFile Journal)) s)
    (sym (ap (λ b. if b then standing else record standing { kept = standing.kept ++ standing.waiting; waiting = [] }) whole))
    (subst (λ o. Follows disk journal bytes (with_file_at o (λ file. record file { synced = length file.bytes }) now) (record standing { kept = standing.kept ++ standing.waiting; waiting = [] }))
    (sym (ap (λ names. names Journal) f.names ∙ at))
    (record {
      names = f.names;
      possible = f.possible;
      file = at-file (λ file. record file { synced = length file.bytes }) journal now.files _ f.file
          ∙ ap (λ l. Some (record { bytes = bytes ++ l; synced = length (bytes ++ (standing.kept ++ standing.waiting)) })) (sym (append-nil (standing.kept ++ standing.waiting)));
      others = λ other differ. other-file (λ file. record file { synced = length file.bytes }) journal other now.files differ ∙ f.others other differ;
    }))

-- one more call, behind which the journal is known
follows-call : (disk now : Disk) (journal : ℕ) (bytes : List ℕ) (standing : Standing) (call : Call) → disk.names Journal ≡ Some journal → standing.broken ≡ false
    → (after_call standing call).broken ≡ false → Follows disk journal bytes now standing → Follows disk journal bytes (disk_after now call) (after_call standing call)
follows-call disk now journal bytes standing (Writes Journal more) at whole known f = follows-write disk now journal bytes more standing at f
follows-call disk now journal bytes standing (SyncsFile Journal) at whole known f = follows-sync disk now journal bytes standing at whole f
follows-call disk now journal bytes standing (Answers more) at whole known f = record { names = f.names; possible = f.possible; file = f.file; others = f.others }
follows-call disk now journal bytes standing (Writes Store more) at whole known f = broken known
follows-call disk now journal bytes standing (Writes StoreBeside more) at whole known f = broken known
follows-call disk now journal bytes standing (Writes JournalBeside more) at whole known f = broken known
follows-call disk now journal bytes standing (SyncsFile Store) at whole known f = broken known
follows-call disk now journal bytes standing (SyncsFile StoreBeside) at whole known f = broken known
follows-call disk now journal bytes standing (SyncsFile JournalBeside) at whole known f = broken known
follows-call disk now journal bytes standing (Begins name) at whole known f = broken known
follows-call disk now journal bytes standing (Renames from to) at whole known f = broken known
follows-call disk now journal bytes standing SyncsFolder at whole known f = broken known
follows-call disk now journal bytes standing Locks at whole known f = broken known
follows-call disk now journal bytes standing FindsNone at whole known f = broken known
follows-call disk now journal bytes standing (Opens found) at whole known f = broken known
follows-call disk now journal bytes standing Stays at whole known f = broken known
follows-call disk now journal bytes standing (Reads name found) at whole known f = broken known
follows-call disk now journal bytes standing Warns at whole known f = broken known
follows-call disk now journal bytes standing (Knows size digest) at whole known f = broken known
follows-call disk now journal bytes standing Refuses at whole known f = broken known
follows-call disk now journal bytes standing (WriteFails Store more) at whole known f = broken known
follows-call disk now journal bytes standing (WriteFails StoreBeside more) at whole known f = broken known
follows-call disk now journal bytes standing (WriteFails Journal more) at whole known f = broken known
follows-call disk now journal bytes standing (WriteFails JournalBeside more) at whole known f = broken known
follows-call disk now journal bytes standing (SyncFails Store) at whole known f = broken known
follows-call disk now journal bytes standing (SyncFails StoreBeside) at whole known f = broken known
follows-call disk now journal bytes standing (SyncFails Journal) at whole known f = broken known
follows-call disk now journal bytes standing (SyncFails JournalBeside) at whole known f = broken known
follows-call disk now journal bytes standing (AnswerFails more) at whole known f = broken known

-- a call that leaves the journal known was made where it was known
synced-known : (standing synced : Standing) (b : Bool) → standing.broken ≡ b → (if b then standing else synced).broken ≡ false → standing.broken ≡ false
synced-known standing synced true is known = known
synced-known standing synced false is known = is

known-before : (standing : Standing) (call : Call) → (after_call standing call).broken ≡ false → standing.broken ≡ false
known-before standing (Writes Journal more) known = known
known-before standing (SyncsFile Journal) known = synced-known standing (record standing { kept = standing.kept ++ standing.waiting; waiting = [] }) standing.broken refl known
known-before standing (Answers more) known = known
known-before standing (Writes Store more) known = broken known
known-before standing (Writes StoreBeside more) known = broken known
known-before standing (Writes JournalBeside more) known = broken known
known-before standing (SyncsFile Store) known = broken known
known-before standing (SyncsFile StoreBeside) known = broken known
known-before standing (SyncsFile JournalBeside) known = broken known
known-before standing (Begins name) known = broken known
known-before standing (Renames from to) known = broken known
known-before standing SyncsFolder known = broken known
known-before standing Locks known = broken known
known-before standing FindsNone known = broken known
known-before standing (Opens found) known = broken known
known-before standing Stays known = broken known
known-before standing (Reads name found) known = broken known
known-before standing Warns known = broken known
known-before standing (Knows size digest) known = broken known
known-before standing Refuses known = broken known
known-before standing (WriteFails Store more) known = broken known
known-before standing (WriteFails StoreBeside more) known = broken known
known-before standing (WriteFails Journal more) known = broken known
known-before standing (WriteFails JournalBeside more) known = broken known
known-before standing (SyncFails Store) known = broken known
known-before standing (SyncFails StoreBeside) known = broken known
known-before standing (SyncFails Journal) known = broken known
known-before standing (SyncFails JournalBeside) known = broken known
known-before standing (AnswerFails more) known = broken known

pub known-first : (standing : Standing) (calls : List Call) → (after_calls standing calls).broken ≡ false → standing.broken ≡ false
known-first standing [] known = known
known-first standing (call ∷ calls) known = known-before standing call (known-first (after_call standing call) calls known)

-- several calls
pub follows : (disk now : Disk) (journal : ℕ) (bytes : List ℕ) (standing : Standing) (calls : List Call) → disk.names Journal ≡ Some journal
    → (after_calls standing calls).broken ≡ false → Follows disk journal bytes now standing → Follows disk journal bytes (after now calls) (after_calls standing calls)
follows disk now journal bytes standing [] at known f = f
follows disk now journal bytes standing (call ∷ calls) at known f =
    let next = known-first (after_call standing call) calls known in
    follows disk (disk_after now call) journal bytes (after_call standing call) calls at known
    (follows-call disk now journal bytes standing call at (known-before standing call next) next f)
