-- Internal: who wants to trust the program need not read this file.
-- Names of what ends serving before the input ends.
use Rattle.std.specs.Prelude.{ℕ, List, codes}
use Rattle.sf_console.specs.declared.serving.ServeFault.{ServeFault}
use Rattle.sf_console.specs.declared.serving.ServeFault.TheVariants.{Read, Write, Memory}

-- the name of a fault
abbrev pub fault_name : ServeFault → List ℕ
fault_name Read = codes "Read"
fault_name Write = codes "Write"
fault_name Memory = codes "Memory"
