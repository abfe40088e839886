-- Internal: who wants to trust the program need not read this file.
-- Lines that are marked in a table, and runs that are left out by it.
use Rattle.std.specs.Prelude.{◌≡◌, ℕ, ℤ, ◌^◌, ◌-◌, ◌/◌, ◌&&◌, Bool, false, not, List, get_or, length, nat_eq, nat_lt, if◌then◌else◌, unsigned_abs}
use Rattle.std.specs.Int.Bits.{bit_and, bit_xor}
use Rattle.std.specs.List.{Contains, filter, list_any}
use Rattle.sf_along.specs.declared.marks.TheConstants.{MANY_RUNS}
use Rattle.sf_along.specs.declared.run.Run.{Run}
use Rattle.sf_along.specs.Runs.{GoTogether, IsRun}

-- the place of a line with these numbers
abbrev pub place_at : ℤ → ℤ → ℕ
place_at slope height = bit_and (bit_xor (bit_xor (unsigned_abs slope) (unsigned_abs height)) (unsigned_abs height / 2)) (2 ^ 15 - 1)

-- that of r's line
abbrev pub place_of : Run → ℕ
place_of r = place_at r.slope r.height

-- it has a mark
abbrev pub is_marked : List Bool → Run → Bool
is_marked marks r = get_or marks (place_of r) false

-- it is of the first of two geometries, or of the second
abbrev pub is_of : Bool → Run → Bool
is_of is_first r = if is_first then r.is_first else not r.is_first

-- a run of that geometry has a line with this place
abbrev pub has_run_at : List Run → Bool → ℕ → Bool
has_run_at runs is_first place = list_any (λ r. is_of is_first r && nat_eq (place_of r) place) runs

-- marked are just the places of the lines of one geometry's runs
abbrev pub AreMarks : List Bool → Bool → List Run → Type 0
AreMarks marks is_first runs = (place : ℕ) → get_or marks place false ≡ has_run_at runs is_first place

-- a run of the other geometry may go along r, where the runs of either have these marks
abbrev pub may_go : List Bool → List Bool → Run → Bool
may_go of_first of_second r = is_marked (if r.is_first then of_second else of_first) r

-- of some runs those are kept that go together, and maybe others
pub record KeepPairs (runs kept : List Run) : Type 0 where
  pub from : (r : Run) → Contains kept r → Contains runs r
  pub has : (r s : Run) → IsRun r → IsRun s → Contains runs r → Contains runs s → GoTogether r s → Contains kept r × Contains kept s

-- a run of the other geometry has a line with the place of r's
abbrev pub may_have_partner : List Run → Run → Bool
may_have_partner runs r = has_run_at runs (not r.is_first) (place_of r)

-- of many runs those that may have a partner, of few all
abbrev pub worth_sorting : List Run → List Run
worth_sorting runs = if nat_lt (length runs) MANY_RUNS then runs else filter (may_have_partner runs) runs
