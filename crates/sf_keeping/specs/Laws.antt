-- The laws of recovery and of replaying: what a crash leaves of a journal, and what an opening makes of it.
use Rattle.std.specs.Prelude.{◌≡◌, ◌≢◌, ℕ, List, ◌++◌}
use Rattle.sf_journal.specs.Records.{sum_behind}
use Rattle.sf_journal.specs.Readings.{Ending, Reads}
use Rattle.sf_journal.specs.Readings.Ending.{Damaged}
use Rattle.sf_journal.specs.Fronts.{IsFrontOf}
use Rattle.sf_console.specs.History.{Machine}
use Rattle.sf_console.specs.Requests.{Request}
use Rattle.sf_keeping.specs.Desks.{Standing}
use Rattle.sf_keeping.specs.Changes.{Leads}
use Rattle.sf_keeping.specs.Kept.{Keeps}
use Rattle.sf_keeping.specs.Moments.{IsCovered}
use Rattle.sf_keeping.specs.Replays.{FailsAt, IsReplayed}
use Rattle.sf_keeping.specs.declared.replaying.ReplayFault.{ReplayFault}
use Rattle.sf_keeping.specs.declared.replaying.ReplayFault.TheVariants.{Memory}
use Rattle.sf_keeping.specs.declared.replaying.Replayed.{Replayed}

-- what a crash leaves of a journal at this moment: all that is kept, and a front of what waits
pub record IsLeft (standing : Standing) (bytes : List ℕ) : Type 0 where
  pub has_kept : IsFrontOf standing.kept bytes
  pub has_no_more : IsFrontOf bytes (standing.kept ++ standing.waiting)

-- the bytes read as texts that lead to the machine after some first of what was asked, among them all whose answers were put out
pub record IsRecovered (sum : ℕ) (old : Machine) (asked : List Request) (answered bytes : List ℕ) : Type 0 where
  pub first : List Request
  pub later : List Request
  pub parts : asked ≡ first ++ later
  pub output : List ℕ
  pub texts : List (List ℕ)
  pub machine : Machine
  pub answers : Keeps old first output texts machine
  pub has_answered : IsFrontOf answered output
  pub ending : Ending
  pub reads : Reads sum bytes texts ending
  pub undamaged : ending ≢ Damaged
  pub leads : Leads old texts machine

-- at each moment at which a session that is kept may end, whatever a crash leaves of its journal is read without damage and
-- leads to the machine after some first of what was asked, which have all that was answered
abbrev pub RecoveryLaw : Type 0
RecoveryLaw =
    (sum : ℕ) (old : Machine) (asked : List Request) (last : Machine) (standing : Standing) (bytes : List ℕ)
    → IsCovered sum old asked last standing → IsLeft standing bytes → IsRecovered sum old asked standing.answered bytes

-- Bytes that read without damage, as texts that lead to a machine, are replayed to it and to the sum behind these texts; else memory ran
-- out.
abbrev pub ReplayLaw : Type 0
ReplayLaw =
    (sum : ℕ) (bytes : List ℕ) (texts : List (List ℕ)) (ending : Ending) (old last : Machine)
    → Reads sum bytes texts ending → ending ≢ Damaged → Leads old texts last
    → ((done : Replayed) (new : Machine) → IsReplayed sum bytes old done new → (new ≡ last) × (done.sum ≡ sum_behind sum texts))
    × ((fault : ReplayFault) → FailsAt sum bytes old fault → fault ≡ Memory)
