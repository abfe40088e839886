-- Internal: who wants to trust the program need not read this file.
-- The dimensions of a valid geometry's interior and boundary, as its kind and its ends tell them (6.1.15.2).
use Rattle.std.specs.Prelude.{Bool, if◌then◌else◌}
use Rattle.std.specs.List.{list_any}
use Rattle.sf_grid.specs.Plane.{grid_point}
use Rattle.sf_geometry.specs.declared.geometry.Geometry.{Geometry}
use Rattle.sf_geometry.specs.declared.geometry.Geometry.TheVariants.{Point, LineString, Polygon, MultiPoint, MultiLineString, MultiPolygon}
use Rattle.sf_geometry.specs.Parts.{ends_of}
use Rattle.sf_geometry.specs.PointSets.{in_boundary, in_interior}
use Rattle.sf_plane.specs.declared.dim.Dim.{Dim}
use Rattle.sf_plane.specs.declared.dim.Dim.TheVariants.{Nothing, One, Two, Zero}
use Rattle.sf_plane.specs.Dimension.{HasDimension}
use Rattle.sf_valid_rules.specs.Validity.{IsValid}

-- points have no length, lines no area
abbrev pub interior_dim : Geometry → Dim
interior_dim (Point p) = Zero
interior_dim (MultiPoint ps) = Zero
interior_dim (LineString ps) = One
interior_dim (MultiLineString lines) = One
interior_dim (Polygon rings) = Two
interior_dim (MultiPolygon polygons) = Two

-- an end of one of its lines is in its boundary
abbrev pub has_end : Geometry → Bool
has_end geometry = list_any (λ p. in_boundary geometry (grid_point p)) (ends_of geometry)

-- of points nothing, of lines their ends if any are left, of areas their rings
abbrev pub boundary_dim : Geometry → Dim
boundary_dim (Point p) = Nothing
boundary_dim (MultiPoint ps) = Nothing
boundary_dim (LineString ps) = if has_end (LineString ps) then Zero else Nothing
boundary_dim (MultiLineString lines) = if has_end (MultiLineString lines) then Zero else Nothing
boundary_dim (Polygon rings) = One
boundary_dim (MultiPolygon polygons) = One

-- what is so over all points of the plane
abbrev pub InteriorHasDimension : Type 0
InteriorHasDimension = (a : Geometry) → IsValid a → HasDimension (in_interior a) (interior_dim a)

abbrev pub BoundaryHasDimension : Type 0
BoundaryHasDimension = (a : Geometry) → IsValid a → HasDimension (in_boundary a) (boundary_dim a)
