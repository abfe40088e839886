-- Internal: who wants to trust the program need not read this file.
-- Edges as runs from their earlier end to their later, with numbers that are the same for edges of one line.
use Rattle.std.specs.Prelude.{◌≡◌, ◌≢◌, ◌^◌, ◌-◌, Bool, true, false, ◌&&◌, ◌⊎◌, ℤ, pos, ◌-ℤ◌, ◌*ℤ◌, List, [], ◌∷◌, ◌++◌, map, IsFalse, IsTrue, if◌then◌else◌}
use Rattle.std.specs.Int.{int_div_euclid}
use Rattle.std.specs.List.{AllByRecursion}
use Rattle.std.specs.Ordering.{int_cmp, int_eq, is_lt, ordering_then}
use Rattle.std.specs.declared.cmp.Ordering.{Ordering}
use Rattle.sf_grid.specs.Plane.{Coordinates}
use Rattle.sf_grid.specs.Edge.{edge_between}
use Rattle.sf_grid.specs.Sharing.{comes_before, earlier_of, later_of}
use Rattle.sf_plane.specs.Laws.{ShareTwoPoints}
use Rattle.sf_along.specs.declared.run.Run.{Run}

-- ---- the numbers of the line through the points u and v
-- how far v is right of u, and above it
abbrev pub width_of : Coordinates → Coordinates → ℤ
width_of u v = v.x -ℤ u.x

abbrev pub rise_of : Coordinates → Coordinates → ℤ
rise_of u v = v.y -ℤ u.y

-- the line's height at the origin, times the width
abbrev pub offset_of : Coordinates → Coordinates → ℤ
offset_of u v = u.y *ℤ width_of u v -ℤ u.x *ℤ rise_of u v

-- its slope, in parts of 2 ^ -31, rounded down; the greatest number where it is upright
abbrev pub slope_of : Coordinates → Coordinates → ℤ
slope_of u v = if int_eq u.x v.x then pos (2 ^ 63 - 1) else int_div_euclid (rise_of u v *ℤ pos (2 ^ 31)) (width_of u v)

-- its height at the origin, in half grid steps, rounded down; its x where it is upright
abbrev pub height_of : Coordinates → Coordinates → ℤ
height_of u v = if int_eq u.x v.x then u.x else int_div_euclid (offset_of u v *ℤ pos 2) (width_of u v)

-- ---- runs
abbrev pub run_between : Bool → Coordinates → Coordinates → Run
run_between is_first u v = record { slope = slope_of u v; height = height_of u v; left = u; right = v; is_first = is_first }

-- the run of the edge between the points of a pair
abbrev pub run_of : Bool → Coordinates × Coordinates → Run
run_of is_first pair = run_between is_first (earlier_of pair.0 pair.1) (later_of pair.0 pair.1)

-- those of the edges of two geometries, of the first one ahead
abbrev pub runs_of : List (Coordinates × Coordinates) → List (Coordinates × Coordinates) → List Run
runs_of first second = map (run_of true) first ++ map (run_of false) second

-- its ends differ, and its numbers are those of its line
pub record IsRun (r : Run) : Type 0 where
  pub forward : IsTrue (comes_before r.left r.right)
  pub slope : r.slope ≡ slope_of r.left r.right
  pub height : r.height ≡ height_of r.left r.right

-- ---- their order
-- what they are sorted by
abbrev pub key_of : Run → ℤ × ℤ × ℤ × ℤ
key_of r = (r.slope, r.height, r.left.x, r.left.y)

-- by slope, by height, and then by the left end, by x and then y
abbrev pub run_cmp : Run → Run → Ordering
run_cmp r s =
    ordering_then (int_cmp r.slope s.slope)
    (ordering_then (int_cmp r.height s.height)
    (ordering_then (int_cmp r.left.x s.left.x) (int_cmp r.left.y s.left.y)))

-- r comes before s
abbrev pub run_before : Run → Run → Bool
run_before r s = is_lt (run_cmp r s)

-- runs of which none comes before one that stands ahead of it
abbrev pub AreInOrder : List Run → Type 0
AreInOrder [] = Unit {0}
AreInOrder (r ∷ rs) = IsRun r × AllByRecursion (λ s. IsFalse (run_before s r)) rs × AreInOrder rs

-- ---- runs that go together
-- s has r's numbers, and begins before r ends
abbrev pub reaches : Run → Run → Bool
reaches r s = int_eq r.slope s.slope && int_eq r.height s.height && comes_before s.left r.right

-- they are of different geometries and have two points in common
pub record GoTogether (r s : Run) : Type 0 where
  pub differ : r.is_first ≢ s.is_first
  pub share : ShareTwoPoints (edge_between r.left r.right) (edge_between s.left s.right)

-- one of the runs goes along r
abbrev pub HasPartner : Run → List Run → Type 0
HasPartner r [] = ⊥
HasPartner r (s ∷ ss) = GoTogether r s ⊎ HasPartner r ss

-- two of them go together
abbrev pub HavePair : List Run → Type 0
HavePair [] = ⊥
HavePair (r ∷ rs) = HasPartner r rs ⊎ HavePair rs
