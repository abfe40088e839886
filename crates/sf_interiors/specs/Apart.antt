-- Internal: who wants to trust the program need not read this file.
-- The interior and the boundary of a valid geometry have no point in common.
use Rattle.std.specs.Prelude.{IsFalse, IsTrue}
use Rattle.sf_grid.specs.Plane.{IsPoint, Point}
use Rattle.sf_geometry.specs.declared.geometry.Geometry.{Geometry}
use Rattle.sf_geometry.specs.PointSets.{in_boundary, in_interior}
use Rattle.sf_valid_rules.specs.Validity.{IsValid}

-- no point of the plane is in both
abbrev pub InteriorIsApart : Type 0
InteriorIsApart =
    (geometry : Geometry) (q : Point) → IsValid geometry → IsPoint q → IsTrue (in_interior geometry q) → IsFalse (in_boundary geometry q)
