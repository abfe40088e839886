-- Internal: who wants to trust the program need not read this file.
-- The edges that can be on a point of a box or above one: those in the columns over it, from its lower side up.
use Rattle.std.specs.Prelude.{◌≡◌, ◌^◌, ◌-◌, pos, Bool, ◌||◌, not, IsTrue, List, map}
use Rattle.std.specs.List.{AllByRecursion, filter, list_any}
use Rattle.sf_grid.specs.Plane.{Coordinates, grid_point}
use Rattle.sf_geometry.specs.declared.extent.Extent.{Extent}
use Rattle.sf_geometry.specs.declared.geometry.Geometry.{Geometry}
use Rattle.sf_geometry.specs.Envelope.{envelope_of, extents_meet}
use Rattle.sf_geometry.specs.Parts.{edge_of}
use Rattle.sf_valid_rules.specs.Validity.{IsValid}
use Rattle.sf_relate.specs.Contact.{in_extent}
use Rattle.sf_relate.specs.Nearby.{ReachesBeyond, TellPlaces}
use Rattle.sf_relate.specs.Places.{shape_of}
use Rattle.sf_relate.specs.declared.shape.Shape.TheVariants.{Areas}
use Rattle.sf_edge_tree.specs.Meeting.{extent_of_edge}
use Rattle.sf_prepared.specs.Boxes.{AreEdgesOf, AreOnGrid}

-- the box of these columns, as far up as a number of 32 bits goes
abbrev pub columns_over : Extent → Extent
columns_over extent = record extent { max_y = pos (2 ^ 31 - 1) }

-- the edges whose boxes share a point with it, in order
abbrev pub nearby : Extent → List (Coordinates × Coordinates) → List (Coordinates × Coordinates)
nearby extent pairs = filter (λ pair. extents_meet (extent_of_edge pair) (columns_over extent)) pairs

-- an end of the edge is outside of the box
abbrev pub leaves : Extent → Coordinates × Coordinates → Bool
leaves extent pair = not (in_extent extent (grid_point pair.0)) || not (in_extent extent (grid_point pair.1))

-- a valid geometry, and a valid area with its edges as pairs of grid points
pub record IsBesideArea (a area : Geometry) (pairs : List (Coordinates × Coordinates)) : Type 0 where
  pub valid : IsValid a
  pub valid_area : IsValid area
  pub areal : shape_of area ≡ Areas
  pub edges : AreEdgesOf area pairs
  pub on_grid : AllByRecursion AreOnGrid pairs

-- those nearby decide the places of all points of the geometry
abbrev pub NearbyTellsPlaces : Type 0
NearbyTellsPlaces =
    (a area : Geometry) (pairs : List (Coordinates × Coordinates)) → IsBesideArea a area pairs
    → TellPlaces a area (map edge_of (nearby (envelope_of a) pairs))

-- where one of them leaves the geometry's box, the area reaches beyond the geometry
abbrev pub LeavingReachesBeyond : Type 0
LeavingReachesBeyond =
    (a area : Geometry) (pairs : List (Coordinates × Coordinates)) → IsBesideArea a area pairs
    → IsTrue (list_any (leaves (envelope_of a)) (nearby (envelope_of a) pairs)) → ReachesBeyond a area
