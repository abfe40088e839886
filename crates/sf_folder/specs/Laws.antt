-- What no crash can take: laws of the calls of a save and of writing the journal anew.
use Rattle.std.specs.Prelude.{◌≡◌, ◌⊎◌, ℕ, List, [], ◌++◌, Some}
use Rattle.sf_journal.specs.Records.{head_of, records, first_sum}
use Rattle.sf_folder.specs.declared.names.Name.TheVariants.{Store, Journal, JournalBeside}
use Rattle.sf_folder.specs.Calls.{Call, IsFrontOf}
use Rattle.sf_folder.specs.Disks.{Contents, Disk, disk_of, after, MayLeave}
use Rattle.sf_folder.specs.Openings.{bytes_of, HasTexts, OpensTo}
use Rattle.sf_folder.specs.declared.choosing.Chosen.{Chosen}
use Rattle.sf_folder.specs.Renewals.{Chooses, renewing_calls}
use Rattle.sf_folder.specs.Saves.{joined, writing_calls, replacing_calls, save_calls, journal_calls}

-- every crash leaves this
abbrev pub LeavesOnly : (Contents → Type 0) → Disk → Type 0
LeavesOnly P disk = (left : Contents) → MayLeave disk left → P left

-- a store's file, or none, and the journal that goes on from it; whatever stands beside
pub record IsAtRest (contents : Contents) (file : List ℕ) (texts : List (List ℕ)) : Type 0 where
  pub store : bytes_of (contents Store) ≡ file
  pub journal : HasTexts file texts (contents Journal)

-- two files of one length and one SHA-256 are one
abbrev pub AreToldApart : List ℕ → List ℕ → Type 0
AreToldApart a b = head_of a ≡ head_of b → a ≡ b

-- while the new file is written, a crash leaves the old one with its journal
abbrev pub WritingLaw : Type 0
WritingLaw =
    (contents : Contents) (file : List ℕ) (texts : List (List ℕ)) (pieces : List (List ℕ)) (made : List Call)
    → IsAtRest contents file texts → IsFrontOf made (writing_calls pieces)
    → LeavesOnly (λ left. OpensTo left file texts) (after (disk_of contents) made)

-- at each moment of a save, a crash leaves the old file with its journal, or the new file and no texts
abbrev pub SaveLaw : Type 0
SaveLaw =
    (contents : Contents) (file : List ℕ) (texts : List (List ℕ)) (pieces : List (List ℕ)) (made : List Call)
    → IsAtRest contents file texts → AreToldApart file (joined pieces) → IsFrontOf made (save_calls pieces)
    → LeavesOnly (λ left. OpensTo left file texts ⊎ OpensTo left (joined pieces) []) (after (disk_of contents) made)

-- once the new file has its place on the disk, a crash leaves it and no texts; or it is the old one
abbrev pub ReplacedLaw : Type 0
ReplacedLaw =
    (contents : Contents) (file : List ℕ) (texts : List (List ℕ)) (pieces : List (List ℕ)) (made : List Call)
    → IsAtRest contents file texts → AreToldApart file (joined pieces) → IsFrontOf made journal_calls
    → LeavesOnly (λ left. OpensTo left (joined pieces) [] ⊎ ((file ≡ joined pieces) × OpensTo left file texts))
    (after (disk_of contents) (replacing_calls pieces ++ made))

-- after a save, a crash leaves the new file and no texts
abbrev pub SavedLaw : Type 0
SavedLaw =
    (contents : Contents) (pieces : List (List ℕ))
    → LeavesOnly (λ left. OpensTo left (joined pieces) []) (after (disk_of contents) (save_calls pieces))

-- whatever journal counts, while it is written anew a crash leaves the file and the texts as they were
abbrev pub RenewLaw : Type 0
RenewLaw =
    (contents : Contents) (file : List ℕ) (texts : List (List ℕ)) (chosen : Chosen) (made : List Call)
    → OpensTo contents file texts → Chooses (head_of file) (contents Journal) (contents JournalBeside) (Some chosen)
    → IsFrontOf made (renewing_calls chosen (head_of file) (records (first_sum file) texts))
    → LeavesOnly (λ left. OpensTo left file texts) (after (disk_of contents) made)

-- no front of a journal of one file goes on from another file
abbrev pub RefusalLaw : Type 0
RefusalLaw =
    (file other : List ℕ) (texts : List (List ℕ)) (front rest records_of_other : List ℕ) → AreToldApart file other
    → head_of file ++ records (first_sum file) texts ≡ front ++ rest → front ≡ head_of other ++ records_of_other → file ≡ other
