-- Beside the headline, which says nothing of distances.
-- What is computed of edges is the least over all points of the plane.
use Rattle.std.specs.Prelude.{◌≡◌, ◌≢◌, pos, ◌≤ℤ◌, IsTrue}
use Rattle.sf_grid.specs.Fraction.{Fraction, IsFraction, fraction_eq}
use Rattle.sf_grid.specs.Plane.{Coordinates, IsSamePoint, grid_point}
use Rattle.sf_grid.specs.Edge.{Edge, IsOnEdge}
use Rattle.sf_grid.specs.Sharing.{IsSharing}
use Rattle.sf_grid.specs.declared.meet.Meet.TheVariants.{Apart}
use Rattle.sf_distance.specs.Squares.{IsLeastSquare}
use Rattle.sf_distance.specs.Nearest.{square_of_ends, square_to_edge}
use Rattle.sf_distance.specs.Texts.{distance_text, square_text}

-- the square of the distance of a grid point from an edge is the least over all points of the edge
abbrev pub FeetAreNearest : Type 0
FeetAreNearest = (e : Edge) (x : Coordinates) → e.a ≢ e.b → IsLeastSquare (λ p. IsSamePoint p (grid_point x)) (IsOnEdge e) (square_to_edge e x)

-- of two edges that share no point, that of the nearest end is the least over all points of both
abbrev pub EndsAreNearest : Type 0
EndsAreNearest =
    (e f : Edge) → e.a ≢ e.b → f.a ≢ f.b → IsSharing e f Apart → IsLeastSquare (IsOnEdge e) (IsOnEdge f) (square_of_ends e f)

-- equal squares are written alike, whatever their terms
abbrev pub EqualIsWrittenAlike : Type 0
EqualIsWrittenAlike =
    (s t : Fraction) → IsFraction s → IsFraction t → pos 0 ≤ℤ s.num → pos 0 ≤ℤ t.num → IsTrue (fraction_eq s t)
    → (distance_text s ≡ distance_text t) × (square_text s ≡ square_text t)
