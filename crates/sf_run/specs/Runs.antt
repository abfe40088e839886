-- What a run does from the bytes of a file on, in the words of `Read` and `Write` for the bytes that they report.
use Rattle.std.specs.Prelude.{◌≡◌, ℕ, List, Option}
use Rattle.sf_layers.specs.WellFormed.{IsWellFormed}
use Rattle.sf_loading.specs.Loading.{FailsBy, Loads}
use Rattle.sf_loading.specs.Stored.{IsKept, Ruled}
use Rattle.sf_console.specs.History.{Machine, fresh_under}
use Rattle.sf_console.specs.declared.serving.ServeFault.{ServeFault}
use Rattle.sf_console.specs.declared.serving.ServeFault.TheVariants.{Read, Write, Memory}
use Rattle.sf_console.specs.Serving.{BreaksOff, ServesWholeLines}
use Rattle.sf_run.specs.declared.running.RunFault.{RunFault}
use Rattle.sf_run.specs.declared.running.RunFault.TheVariants.{Load, Serve}

-- a file was loaded, whose content is well formed and whose rules hold over all points of the plane; and what was served began with
-- it, with neither past nor future
pub record RunsFrom (file_before file : Option (List ℕ)) (Serves : Machine → Type 0) : Type 0 where
  pub ruled : Ruled
  pub loaded : Loads file_before file ruled
  pub well_formed : IsWellFormed ruled.content
  pub kept : IsKept ruled
  pub served : Serves (fresh_under ruled)

-- serving ended by the fault: what was carried out and written before it
abbrev pub EndsEarly : ServeFault → Option (List ℕ) → Option (List ℕ) → Option (List ℕ) → Option (List ℕ) → Machine → Type 0
EndsEarly Read unread left written_before written start = (end : Machine) × ServesWholeLines unread left written_before written start end
EndsEarly Write unread left written_before written start = (end : Machine) × BreaksOff unread left written_before written start end
EndsEarly Memory unread left written_before written start = (left ≡ unread) × (written ≡ written_before)

-- a run from a file ended by the fault
abbrev pub Breaks : RunFault → Option (List ℕ) → Option (List ℕ) → Option (List ℕ) → Option (List ℕ) → Option (List ℕ) → Option (List ℕ) → Type 0
Breaks (Load fault) file_before file unread left written_before written =
    FailsBy file_before file fault × (left ≡ unread) × (written ≡ written_before)
Breaks (Serve fault) file_before file unread left written_before written =
    RunsFrom file_before file (EndsEarly fault unread left written_before written)
