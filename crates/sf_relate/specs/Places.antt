-- Internal: who wants to trust the program need not read this file.
-- Where a cell lies in a geometry, by counts alone: whether something of it is on the cell, and the parities of its ends
-- there and of its edges above.
use Rattle.std.specs.Prelude.{◌≡◌, ℕ, ◌+◌, ◌*◌, Bool, true, false, ◌&&◌, List, nat_lt, slice_index, slice_index_or, if◌then◌else◌}
use Rattle.std.specs.List.{count_by}
use Rattle.sf_grid.specs.EvenOdd.{is_odd}
use Rattle.sf_grid.specs.Plane.{IsPoint, Point as PlanePoint}
use Rattle.sf_cells.specs.Groups.{Item}
use Rattle.sf_cells.specs.Pieces.{is_above, is_on}
use Rattle.sf_geometry.specs.declared.geometry.Geometry.{Geometry}
use Rattle.sf_geometry.specs.declared.geometry.Geometry.TheVariants.{Point, LineString, Polygon, MultiPoint, MultiLineString, MultiPolygon}
use Rattle.sf_geometry.specs.PointSets.{in_boundary, in_interior}
use Rattle.sf_plane.specs.declared.dim.Dim.{Dim}
use Rattle.sf_plane.specs.declared.dim.Dim.TheVariants.{Nothing}
use Rattle.sf_plane.specs.Unions.{dim_of}
use Rattle.sf_valid_rules.specs.Validity.{IsValid}
use Rattle.sf_relate.specs.declared.place.Place.{Place}
use Rattle.sf_relate.specs.declared.place.Place.TheVariants.{Interior, Boundary, Exterior}
use Rattle.sf_relate.specs.declared.shape.Shape.{Shape}
use Rattle.sf_relate.specs.declared.shape.Shape.TheVariants.{Points, Lines, Areas}
use Rattle.sf_relate.specs.declared.sink.KnownSink.{KnownSink}
use Rattle.sf_relate.specs.AllPieces.{end_dots_of, pieces_of}
use Rattle.sf_known.specs.declared.aim.Aim.{Aim}
use Rattle.sf_known.specs.declared.known.Known.{Known}
use Rattle.sf_known.specs.Entries.{exceeds}
use Rattle.sf_known.specs.Known.{is_enough, known_with, raised, settled}

-- ---- the place of a cell
-- what a geometry is made of
abbrev pub shape_of : Geometry → Shape
shape_of (Point p) = Points
shape_of (MultiPoint ps) = Points
shape_of (LineString ps) = Lines
shape_of (MultiLineString lines) = Lines
shape_of (Polygon rings) = Areas
shape_of (MultiPolygon polygons) = Areas

-- it is made of polygons
abbrev pub is_areal : Shape → Bool
is_areal Areas = true
is_areal shape = false

-- of a geometry, by how many of its pieces are on a cell, how many of its ends are there, and how many of its edges are above
abbrev pub place_by : Shape → ℕ → ℕ → ℕ → Place
place_by Points on ends above = if nat_lt 0 on then Interior else Exterior
place_by Lines on ends above = if nat_lt 0 on then (if is_odd ends then Boundary else Interior) else Exterior
place_by Areas on ends above = if nat_lt 0 on then Boundary else (if is_odd above then Interior else Exterior)

-- the place of an item in the first and in the second geometry; the count of a group that is not there is 0
abbrev pub first_place : Shape → Item → Place
first_place shape i = place_by shape (slice_index i.on 0) (slice_index i.on 2) (slice_index i.above 0)

abbrev pub second_place : Shape → Item → Place
second_place shape i = place_by shape (slice_index i.on 1) (slice_index i.on 3) (slice_index i.above 1)

-- ---- the place of a point
-- the place of q by counts
abbrev pub place_at : Geometry → PlanePoint → Place
place_at a q =
    place_by (shape_of a) (count_by (is_on q) (pieces_of a)) (count_by (is_on q) (end_dots_of a)) (count_by (is_above q) (pieces_of a))

-- both are one place
abbrev pub is_place : Place → Place → Bool
is_place Interior Interior = true
is_place Boundary Boundary = true
is_place Exterior Exterior = true
is_place p q = false

-- the place is that of q: of the three sets of a, q is in that one alone
pub record IsPlaceOf (a : Geometry) (q : PlanePoint) (place : Place) : Type 0 where
  pub interior : in_interior a q ≡ is_place Interior place
  pub boundary : in_boundary a q ≡ is_place Boundary place

-- of a valid geometry the counts give the place of each point of the plane
abbrev pub CountsTellPlaces : Type 0
CountsTellPlaces = (a : Geometry) (q : PlanePoint) → IsValid a → IsPoint q → IsPlaceOf a q (place_at a q)

-- ---- the matrix of items
-- the place of an entry among the nine, row by row
abbrev pub row_of : Place → ℕ
row_of Interior = 0
row_of Boundary = 1
row_of Exterior = 2

abbrev pub entry_place : Place → Place → ℕ
entry_place p q = 3 * row_of p + row_of q

-- the entries once an item was handed out
abbrev pub with_item : Shape → Shape → List Dim → Item → List Dim
with_item a b entries i = raised entries (entry_place (first_place a i) (second_place b i)) (dim_of i.dim)

-- what a sink has: the shapes of the geometries, what is to be found out, what is known so far, and whether that is enough
pub record Gathered : Type 0 where
  pub first : Shape
  pub second : Shape
  pub aim : Aim
  pub known : Known
  pub full : Bool

abbrev pub gathered_by : KnownSink → Gathered
gathered_by s = record { first = s.first; second = s.second; aim = s.aim; known = s.known; full = s.full }

-- nothing gathered yet
abbrev pub begun : Shape → Shape → Aim → Known → Gathered
begun first second aim known = record { first = first; second = second; aim = aim; known = known; full = false }

-- an entry has at least a dimension
abbrev pub with_entry : Gathered → ℕ → Dim → Gathered
with_entry g place d =
    let known = known_with g.known place d in
    record g { known = known; full = exceeds d (slice_index_or g.known.least place Nothing) && is_enough known g.aim }

-- once an item was handed out; what is enough stays as it is
abbrev pub with_cell : Gathered → Item → Gathered
with_cell g i = if g.full then g else with_entry g (entry_place (first_place g.first i) (second_place g.second i)) (dim_of i.dim)

-- what is known once all cells of two geometries were handed out, or as many as were enough: in the one case each entry has what
-- was found of it, and no more
abbrev pub found_by : Gathered → Known
found_by g = if g.full then g.known else settled g.known
