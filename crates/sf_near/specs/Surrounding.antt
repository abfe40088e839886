-- Internal: who wants to trust the program need not read this file.
-- A geometry and how far from it is asked about, and what is kept of them.
use Rattle.std.specs.Prelude.{◌≡◌, ℕ}
use Rattle.sf_geometry.specs.declared.extent.Extent.{Extent}
use Rattle.sf_geometry.specs.declared.geometry.Geometry.{Geometry}
use Rattle.sf_geometry.specs.Envelope.{envelope_of}
use Rattle.sf_validity.specs.Held.{IsHeld}
use Rattle.sf_distance.specs.Mixed.{Mixed, number_of}
use Rattle.sf_distance.specs.Reaches.{square_of_reach, steps_of_reach}
use Rattle.sf_near.specs.Grown.{grown}

-- the reach is in thousandths of a grid step
pub record Surrounding : Type 0 where
  pub geometry : Geometry
  pub reach : ℕ

-- the square of the reach, the geometry's box, and the box with the reach more on each side
pub record AreKept (geometry : Geometry) (reach : ℕ) (bound : Mixed) (own extent : Extent) : Type 0 where
  pub held : IsHeld geometry
  pub bound_is : number_of bound ≡ square_of_reach reach
  pub own_is : own ≡ envelope_of geometry
  pub extent_is : extent ≡ grown (steps_of_reach reach) (envelope_of geometry)
