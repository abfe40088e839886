-- The square of the least distance of two geometries, computed (6.1.2.4, Distance).
use Rattle.std.specs.Prelude.{List, [], ◌∷◌, map, pos, if◌then◌else◌}
use Rattle.std.specs.List.{flat_map}
use Rattle.sf_grid.specs.Fraction.{Fraction, whole}
use Rattle.sf_grid.specs.Edge.{Edge}
use Rattle.sf_geometry.specs.declared.geometry.Geometry.{Geometry}
use Rattle.sf_known.specs.Patterns.{has_contact}
use Rattle.sf_relate.specs.Matrices.{matrix_of}
use Rattle.sf_distance.specs.Nearest.{lesser, square_of_ends}
use Rattle.sf_nearness.specs.Segments.{segments_of}

-- the least of some fractions; of none 0
abbrev pub least_of : List Fraction → Fraction
least_of [] = whole (pos 0)
least_of (s ∷ []) = s
least_of (s ∷ t ∷ rest) = lesser s (least_of (t ∷ rest))

-- of each segment of the one list and each of the other the square of the distance of the nearest end
abbrev pub squares_of_pairs : List Edge → List Edge → List Fraction
squares_of_pairs es fs = flat_map (λ e. map (square_of_ends e) fs) es

-- 0 where they share a point, else the least of the squares of all pairs of segments
abbrev pub least_square_of : Geometry → Geometry → Fraction
least_square_of a b = if has_contact (matrix_of a b) then whole (pos 0) else least_of (squares_of_pairs (segments_of a) (segments_of b))
