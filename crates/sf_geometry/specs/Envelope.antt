-- The envelope of a geometry: the least box, with sides along the axes, that has all its points.
use Rattle.std.specs.Prelude.{Bool, ◌&&◌, List, [], ◌∷◌, map, ℤ, pos, int_le, Option, None, Some}
use Rattle.std.specs.Int.{int_max, int_min}
use Rattle.std.specs.List.{fold}
use Rattle.sf_grid.specs.Plane.{Coordinates}
use Rattle.sf_geometry.specs.declared.extent.Extent.{Extent}
use Rattle.sf_geometry.specs.declared.geometry.Geometry.{Geometry}
use Rattle.sf_geometry.specs.Parts.{points_of}

-- the least and the greatest of some numbers; of none, 0
abbrev pub least : List ℤ → ℤ
least [] = pos 0
least (n ∷ ns) = fold int_min n ns

abbrev pub greatest : List ℤ → ℤ
greatest [] = pos 0
greatest (n ∷ ns) = fold int_max n ns

-- the least box that has these points
abbrev pub extent_of : List Coordinates → Extent
extent_of ps =
    record {
      min_x = least (map (λ p. p.x) ps);
      min_y = least (map (λ p. p.y) ps);
      max_x = greatest (map (λ p. p.x) ps);
      max_y = greatest (map (λ p. p.y) ps);
    }

-- the least box that has a point, beside those of a box
abbrev pub extent_at : Coordinates → Extent
extent_at p = record { min_x = p.x; min_y = p.y; max_x = p.x; max_y = p.y }

abbrev pub extent_with : Extent → Coordinates → Extent
extent_with e p =
    record { min_x = int_min e.min_x p.x; min_y = int_min e.min_y p.y; max_x = int_max e.max_x p.x; max_y = int_max e.max_y p.y }

abbrev pub grown : Option Extent → Coordinates → Option Extent
grown None p = Some (extent_at p)
grown (Some e) p = Some (extent_with e p)

-- the envelope of a geometry
abbrev pub envelope_of : Geometry → Extent
envelope_of geometry = extent_of (points_of geometry)

-- two closed boxes share a point: the greater of their least coordinates is at most the lesser of their greatest
abbrev pub extents_meet : Extent → Extent → Bool
extents_meet a b =
    int_le (int_max a.min_x b.min_x) (int_min a.max_x b.max_x)
    && int_le (int_max a.min_y b.min_y) (int_min a.max_y b.max_y)

-- the box that two boxes have in common; where they share no point, no other box shares one with it
abbrev pub common_extent : Extent → Extent → Extent
common_extent e f =
    record { min_x = int_max e.min_x f.min_x; min_y = int_max e.min_y f.min_y; max_x = int_min e.max_x f.max_x; max_y = int_min e.max_y f.max_y }
