-- Points that words spell.
use Rattle.std.specs.Prelude.{ℕ, ℤ, List, Option, None, Some, Result, Ok, Err}
use Rattle.sf_refusals.specs.declared.refusal.Refusal.{Refusal}
use Rattle.sf_refusals.specs.declared.refusal.Refusal.TheVariants.{BadCommand}
use Rattle.sf_grid.specs.Plane.{Coordinates}
use Rattle.sf_wkt.specs.declared.fault.WktFault.{WktFault}
use Rattle.sf_wkt.specs.Faults.{refusal_of}
use Rattle.sf_wkt.specs.Tokens.{coordinate_of}

-- the point of two numbers: the form of both comes first, then the fault of x before that of y
abbrev pub point_by : Option (Result ℤ WktFault) → Option (Result ℤ WktFault) → Result Coordinates Refusal
point_by None y = Err BadCommand
point_by (Some x) None = Err BadCommand
point_by (Some (Err fault)) (Some y) = Err (refusal_of fault)
point_by (Some (Ok x)) (Some (Err fault)) = Err (refusal_of fault)
point_by (Some (Ok x)) (Some (Ok y)) = Ok (record { x = x; y = y })

-- the point that two words spell
abbrev pub point_of : List ℕ → List ℕ → Result Coordinates Refusal
point_of x y = point_by (coordinate_of x) (coordinate_of y)
