-- Internal: who wants to trust the program need not read this file.
-- What an area has beside each end of its edges: a part of its interior and one of its boundary, less than a grid step away.
use Rattle.std.specs.Prelude.{◌≡◌, Bool, ◌&&◌, pos, ◌+ℤ◌, ◌-ℤ◌, ◌*ℤ◌, int_lt}
use Rattle.std.specs.List.{AllByRecursion}
use Rattle.sf_grid.specs.Edge.{Edge}
use Rattle.sf_grid.specs.Plane.{Coordinates, Point as PlanePoint}
use Rattle.sf_geometry.specs.declared.geometry.Geometry.{Geometry}
use Rattle.sf_geometry.specs.Parts.{edges_of}
use Rattle.sf_geometry.specs.PointSets.{in_boundary, in_interior}
use Rattle.sf_plane.specs.declared.dim.Dim.TheVariants.{Two}
use Rattle.sf_plane.specs.Dimension.{HasSegment, HasTriangle, PointSet}
use Rattle.sf_valid_rules.specs.Validity.{IsValid}
use Rattle.sf_interiors.specs.Dimensions.{interior_dim}

-- q is less than a grid step away from v, across and up
abbrev pub is_beside : Coordinates → PlanePoint → Bool
is_beside v q =
    (int_lt ((v.x -ℤ pos 1) *ℤ pos q.d) q.x && int_lt q.x ((v.x +ℤ pos 1) *ℤ pos q.d))
    && (int_lt ((v.y -ℤ pos 1) *ℤ pos q.d) q.y && int_lt q.y ((v.y +ℤ pos 1) *ℤ pos q.d))

-- the points of a set beside v
abbrev pub beside : Coordinates → PointSet → PointSet
beside v set q = set q && is_beside v q

pub record HasBeside (area : Geometry) (v : Coordinates) : Type 0 where
  pub interior : HasTriangle (beside v (in_interior area))
  pub boundary : HasSegment (beside v (in_boundary area))

-- a valid area has both beside each end of its edges
abbrev pub AreasHaveBeside : Type 0
AreasHaveBeside =
    (area : Geometry) → IsValid area → interior_dim area ≡ Two
    → AllByRecursion (λ (e : Edge). HasBeside area e.a × HasBeside area e.b) (edges_of area)
