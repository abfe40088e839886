-- Internal: who wants to trust the program need not read this file.
-- What a value of the type of valid geometries holds.
use Rattle.sf_geometry.specs.declared.geometry.Geometry.{Geometry}
use Rattle.sf_geometry.specs.Parts.{LiesOnGrid}
use Rattle.sf_valid_rules.specs.Validity.{IsValid}

-- a valid geometry, with its points on the grid
pub record IsHeld (geometry : Geometry) : Type 0 where
  pub valid : IsValid geometry
  pub on_grid : LiesOnGrid geometry
