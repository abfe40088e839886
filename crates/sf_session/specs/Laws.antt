-- The laws of opening and of keeping: what a crash leaves of a store, and that it opens to all that was answered.
use Rattle.std.specs.Prelude.{◌≡◌, ◌⊎◌, ℕ, false, List, ◌++◌, Option, Some}
use Rattle.std.specs.List.{AllByRecursion}
use Rattle.sf_text_lines.specs.Lines.{HasNoFeed}
use Rattle.sf_journal.specs.Records.{first_sum, head_of, records, sum_behind}
use Rattle.sf_journal.specs.Fronts.{IsFrontOf as IsFrontOfBytes}
use Rattle.sf_folder.specs.Calls.{Call, IsFrontOf}
use Rattle.sf_folder.specs.declared.choosing.Chosen.{Chosen}
use Rattle.sf_folder.specs.declared.names.Name.TheVariants.{Journal, JournalBeside}
use Rattle.sf_folder.specs.Disks.{Contents, after, disk_of}
use Rattle.sf_folder.specs.Laws.{LeavesOnly}
use Rattle.sf_folder.specs.Openings.{OpensTo}
use Rattle.sf_folder.specs.Renewals.{Chooses, renewing_calls}
use Rattle.sf_keeping.specs.History.{Machine}
use Rattle.sf_keeping.specs.Requests.{Request}
use Rattle.sf_keeping.specs.Changes.{Leads}
use Rattle.sf_keeping.specs.Desks.{after_calls, nothing_yet}
use Rattle.sf_keeping.specs.Kept.{Keeps}
use Rattle.sf_keeping.specs.Moments.{AtEachMoment}
use Rattle.sf_session.specs.declared.fault.JournalFault.TheVariants.{Memory, Write}
use Rattle.sf_session.specs.declared.fault.SessionFault.{SessionFault}
use Rattle.sf_session.specs.declared.fault.SessionFault.TheVariants as sessions
use Rattle.sf_session.specs.Openings.{RenewsBy}
use Rattle.sf_session.specs.Faults.{IsUnrenewed}

-- Where a folder opens to a file and to texts that lead from the file's store to a machine, replaying its journals leads to this
-- machine, and to the sum behind these texts. Nothing is refused: neither journal is taken as damaged, as that of another file, or as one
-- with a text that is not accepted. It fails where memory runs out, or where the journal can't be written anew.
abbrev pub OpeningLaw : Type 0
OpeningLaw =
    (contents : Contents) (file : List ℕ) (texts : List (List ℕ)) (old last : Machine) (before after : Option (List Call))
    → OpensTo contents file texts → Leads old texts last
    → ((sum : ℕ) (new : Machine) → RenewsBy (head_of file) (contents Journal) (contents JournalBeside) old before after sum new
    → (new ≡ last) × (sum ≡ sum_behind (first_sum file) texts))
    × ((fault : SessionFault) → IsUnrenewed fault (head_of file) (contents Journal) (contents JournalBeside) old before after
    → (fault ≡ sessions.Journal Memory) ⊎ (fault ≡ sessions.Journal Write))

-- what is left opens to the file, to the texts from before, and to those behind them that lead to the machine after some first of what
-- was asked, of whose answers what was put out is a front
pub record IsThere (file : List ℕ) (texts : List (List ℕ)) (old : Machine) (asked : List Request) (answered : List ℕ) (left : Contents) : Type 0 where
  pub later : List (List ℕ)
  pub opens : OpensTo left file (texts ++ later)
  pub machine : Machine
  pub leads : Leads old later machine
  pub first : List Request
  pub rest : List Request
  pub parts : asked ≡ first ++ rest
  pub output : List ℕ
  pub answers : Keeps old first output later machine
  pub has_answered : IsFrontOfBytes answered output

-- Behind an opening, at each moment of the lines that are served then, and within each call: whatever a crash leaves of the disk is there,
-- with all that was answered.
abbrev pub KeepingLaw : Type 0
KeepingLaw =
    (contents : Contents) (file : List ℕ) (texts : List (List ℕ)) (chosen : Chosen) (old last : Machine) (asked : List Request) (calls made : List Call)
    → OpensTo contents file texts → AllByRecursion HasNoFeed texts → Chooses (head_of file) (contents Journal) (contents JournalBeside) (Some chosen)
    → AtEachMoment (sum_behind (first_sum file) texts) old asked last calls → (after_calls nothing_yet calls).broken ≡ false → IsFrontOf made calls
    → LeavesOnly (IsThere file texts old asked (after_calls nothing_yet made).answered)
    (after (disk_of contents) (renewing_calls chosen (head_of file) (records (first_sum file) texts) ++ made))
