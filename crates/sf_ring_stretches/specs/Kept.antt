-- Internal: who wants to trust the program need not read this file.
-- The rules on the whole of polygons, where one ring's stretch was exchanged in a box that all other rings are off.
use Rattle.std.specs.Prelude.{◌≡◌, true, false, List, ◌∷◌, ◌++◌}
use Rattle.std.specs.List.{AllByRecursion}
use Rattle.sf_grid.specs.Plane.{Coordinates, grid_point}
use Rattle.sf_geometry.specs.Lists.{edges_of, is_closed}
use Rattle.sf_geometry.specs.PointSets.{in_polygon, in_ring}
use Rattle.sf_plane.specs.Boxes.{Box, in_box}
use Rattle.sf_valid_rules.specs.Rules.{polygon_rules}
use Rattle.sf_valid_rules.specs.Validity.{NoneApplies}
use Rattle.sf_interiors.specs.Paths.{IsOffBox}
use Rattle.sf_ring_stretches.specs.Exchange.{IsExchanged}

-- a closed ring that has no point of the box
abbrev pub IsOff : Box → List Coordinates → Type 0
IsOff box ring = (is_closed ring ≡ true) × AllByRecursion (IsOffBox box) (edges_of ring)

-- and the point isn't inside of it
abbrev pub IsBeside : Box → Coordinates → List Coordinates → Type 0
IsBeside box at ring = IsOff box ring × (in_ring ring (grid_point at) ≡ false)

-- all rings of a polygon are off, and the point isn't inside of it
abbrev pub IsPolygonBeside : Box → Coordinates → List (List Coordinates) → Type 0
IsPolygonBeside box at rings = AllByRecursion (IsOff box) rings × (in_polygon rings (grid_point at) ≡ false)

-- of the rings of a polygon one was exchanged: the shell, beside the holes, or a hole, within the shell and beside the others
pub data OneIsExchanged (box : Box) (at : Coordinates) : List (List Coordinates) → List (List Coordinates) → Type 0 where
  Shell : (r s : List Coordinates) (holes : List (List Coordinates)) → IsExchanged box r s → AllByRecursion (IsBeside box at) holes
      → OneIsExchanged box at (r ∷ holes) (s ∷ holes)
  Hole : (shell r s : List Coordinates) (front back : List (List Coordinates)) → IsExchanged box r s → IsOff box shell → in_ring shell (grid_point at) ≡ true
      → AllByRecursion (IsBeside box at) front → AllByRecursion (IsBeside box at) back
      → OneIsExchanged box at (shell ∷ (front ++ r ∷ back)) (shell ∷ (front ++ s ∷ back))

-- the rules on the whole that held of polygons still hold, where of one of them one ring was exchanged so in a box with the
-- point, and the others are beside
abbrev pub PolygonsAreKept : Type 0
PolygonsAreKept =
    (box : Box) (at : Coordinates) (front back : List (List (List Coordinates))) (was is : List (List Coordinates))
    → in_box box (grid_point at) ≡ true → OneIsExchanged box at was is
    → AllByRecursion (IsPolygonBeside box at) front → AllByRecursion (IsPolygonBeside box at) back
    → NoneApplies (polygon_rules (front ++ was ∷ back)) → NoneApplies (polygon_rules (front ++ is ∷ back))
