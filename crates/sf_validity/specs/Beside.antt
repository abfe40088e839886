-- Internal: who wants to trust the program need not read this file.
-- A box that lies apart from all rings of polygons but one.
use Rattle.std.specs.Prelude.{◌≡◌, ℕ, ◌+◌, ◌-◌, true, false, List, [], ◌∷◌, ◌++◌, length, take, drop, Option, None, Some, option_and_then, slice_get}
use Rattle.std.specs.List.{AllByRecursion}
use Rattle.sf_grid.specs.Plane.{Coordinates, IsPoint, Point}
use Rattle.sf_geometry.specs.declared.extent.Extent.{Extent}
use Rattle.sf_geometry.specs.Lists.{edges_of, is_closed}
use Rattle.sf_geometry.specs.PointSets.{in_ring}
use Rattle.sf_plane.specs.Boxes.{Box, in_box}
use Rattle.sf_interiors.specs.Paths.{IsOffBox}
use Rattle.sf_ring_stretches.specs.Exchange.{AreIn}
use Rattle.sf_validity.specs.declared.changed.Stretch.{Stretch}

-- a box as the plane has it
abbrev pub box_of_extent : Extent → Box
box_of_extent e = record { min_x = e.min_x; min_y = e.min_y; max_x = e.max_x; max_y = e.max_y }

-- no edge of the ring has a point of the box, and where the ring is closed no point of the box is inside it
pub record IsApart (box : Box) (ring : List Coordinates) : Type 0 where
  pub off : AllByRecursion (IsOffBox box) (edges_of ring)
  pub empty : is_closed ring ≡ true → (p : Point) → IsPoint p → in_box box p ≡ true → in_ring ring p ≡ false

-- of the rings before a hole: no edge of the shell has a point of the box, and the holes are apart from it
abbrev pub IsFrontOff : Box → List (List Coordinates) → Type 0
IsFrontOff box [] = Unit {0}
IsFrontOff box (shell ∷ holes) = AllByRecursion (IsOffBox box) (edges_of shell) × AllByRecursion (IsApart box) holes

-- of a polygon: all rings but the one with this number
pub record AreRingsApart (box : Box) (rings : List (List Coordinates)) (ring : ℕ) : Type 0 where
  pub front : List (List Coordinates)
  pub own : List Coordinates
  pub back : List (List Coordinates)
  pub is : rings ≡ front ++ own ∷ back
  pub placed : length front ≡ ring
  pub front_off : IsFrontOff box front
  pub back_apart : AllByRecursion (IsApart box) back

-- of several polygons: all rings but the one of this part and number
pub record AreOthersApart (box : Box) (polygons : List (List (List Coordinates))) (part ring : ℕ) : Type 0 where
  pub front : List (List (List Coordinates))
  pub own : List (List Coordinates)
  pub back : List (List (List Coordinates))
  pub is : polygons ≡ front ++ own ∷ back
  pub placed : length front ≡ part
  pub front_apart : AllByRecursion (AllByRecursion (IsApart box)) front
  pub back_apart : AllByRecursion (AllByRecursion (IsApart box)) back
  pub rings : AreRingsApart box own ring

-- the points of a ring from the one before an index on, so many and two
abbrev pub stretch_of : List Coordinates → ℕ → ℕ → List Coordinates
stretch_of ring index count = take (count + 2) (drop (index - 1) ring)

-- the point that stood there, if any
abbrev pub stood : Option Coordinates → List Coordinates
stood None = []
stood (Some p) = p ∷ []

-- a box has the stretch and the point that stood there, and all other rings are apart from it
pub record IsAlone (polygons : List (List (List Coordinates))) (points : List Coordinates) (s : Stretch) : Type 0 where
  pub box : Box
  pub apart : AreOthersApart box polygons s.part s.ring
  pub round : AreIn box (stretch_of points s.index s.count)
  pub before : AreIn box (stood s.gone)

-- the ring of a part and number
abbrev pub ring_in : List (List (List Coordinates)) → ℕ → ℕ → Option (List Coordinates)
ring_in polygons part ring = option_and_then (λ rings. slice_get rings ring) (slice_get polygons part)
