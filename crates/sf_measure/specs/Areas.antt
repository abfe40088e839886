-- Areas, by the sums that surveyors take over the corners of a plot.
use Rattle.std.specs.Prelude.{List, [], ◌∷◌, ℤ, pos, ◌+ℤ◌, ◌-ℤ◌, ◌*ℤ◌, unsigned_abs}
use Rattle.sf_grid.specs.Plane.{Coordinates}
use Rattle.sf_geometry.specs.declared.geometry.Geometry.{Geometry}
use Rattle.sf_geometry.specs.Parts.{polygons_of}

-- the sum, over the steps of a chain, of x y' - y x': of a closed chain twice the area that it goes round to the left
abbrev pub shoelace_from : Coordinates → List Coordinates → ℤ
shoelace_from p [] = pos 0
shoelace_from p (q ∷ qs) = (p.x *ℤ q.y -ℤ p.y *ℤ q.x) +ℤ shoelace_from q qs

abbrev pub shoelace : List Coordinates → ℤ
shoelace [] = pos 0
shoelace (p ∷ ps) = shoelace_from p ps

-- twice the area of a ring, which way round it ever goes
abbrev pub doubled_in_ring : List Coordinates → ℤ
doubled_in_ring ring = pos (unsigned_abs (shoelace ring))

-- of some rings together
abbrev pub doubled_in_rings : List (List Coordinates) → ℤ
doubled_in_rings [] = pos 0
doubled_in_rings (ring ∷ rings) = doubled_in_ring ring +ℤ doubled_in_rings rings

-- twice the area of a polygon: that of its shell less those of its holes
abbrev pub doubled_in_polygon : List (List Coordinates) → ℤ
doubled_in_polygon [] = pos 0
doubled_in_polygon (shell ∷ holes) = doubled_in_ring shell -ℤ doubled_in_rings holes

-- of some polygons together
abbrev pub doubled_in_polygons : List (List (List Coordinates)) → ℤ
doubled_in_polygons [] = pos 0
doubled_in_polygons (polygon ∷ polygons) = doubled_in_polygon polygon +ℤ doubled_in_polygons polygons

-- twice the area of a geometry, in squared grid steps: that of its polygons; of points and lines 0
abbrev pub doubled_area_of : Geometry → ℤ
doubled_area_of geometry = doubled_in_polygons (polygons_of geometry)
