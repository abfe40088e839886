-- Computes at which points of the plane a set is looked at: to be trusted by the law MatricesAreOverThePlane of sf_relate, and not by reading.
-- The samples of a list of pieces: points in columns, one for each cell that the pieces cut the plane into.
use Rattle.std.specs.Prelude.{ℕ, Bool, true, false, List, [], ◌∷◌, ◌++◌, map, Option, Some, None, pos, if◌then◌else◌}
use Rattle.std.specs.List.{flat_map}
use Rattle.sf_grid.specs.Fraction.{Fraction, whole, fraction_lt, one_more, one_less, middle}
use Rattle.sf_grid.specs.Plane.{Point, point_at, x_of}
use Rattle.sf_grid.specs.Edge.{edge_between, crossing}
use Rattle.sf_strips.specs.declared.piece.Piece.{Piece}
use Rattle.sf_strips.specs.declared.piece.Piece.TheVariants.{Edge, Dot}
use Rattle.sf_cells.specs.Pieces.{ends_of, heights_of}

-- a number put in its place, unless it is there already
abbrev pub insert_by : (Fraction → Fraction → Bool) → Fraction → List Fraction → List Fraction
insert_by before q [] = q ∷ []
insert_by before q (r ∷ rs) =
    if before q r then q ∷ r ∷ rs else (if before r q then r ∷ insert_by before q rs else r ∷ rs)

-- numbers in order, each once
abbrev pub sorted_by : (Fraction → Fraction → Bool) → List Fraction → List Fraction
sorted_by before [] = []
sorted_by before (q ∷ qs) = insert_by before q (sorted_by before qs)

abbrev pub rising : List Fraction → List Fraction
rising qs = sorted_by fraction_lt qs

abbrev pub falling : List Fraction → List Fraction
falling qs = sorted_by (λ q r. fraction_lt r q) qs

-- a place on an axis: one of the listed numbers, or one off the list
pub record Mark : Type 0 where
  pub place : Fraction
  pub listed : Bool

abbrev pub listed : Fraction → Mark
listed q = record { place = q; listed = true }

abbrev pub unlisted : Fraction → Mark
unlisted q = record { place = q; listed = false }

-- a number, the middle between it and the next one, and so on; past the last one a last place
abbrev pub marks_from : (Fraction → Fraction) → Fraction → List Fraction → List Mark
marks_from past q [] = listed q ∷ unlisted (past q) ∷ []
marks_from past q (r ∷ rs) = listed q ∷ unlisted (middle q r) ∷ marks_from past r rs

-- the same with a place before the first number; where there is no number, 0 alone
abbrev pub marks : (Fraction → Fraction) → (Fraction → Fraction) → List Fraction → List Mark
marks ahead past [] = unlisted (whole (pos 0)) ∷ []
marks ahead past (q ∷ qs) = unlisted (ahead q) ∷ marks_from past q qs

-- the place of the one point that two pieces share, if they are edges that aren't parallel
abbrev pub crossing_place : Option Point → List Fraction
crossing_place (Some p) = x_of p ∷ []
crossing_place None = []

abbrev pub crossings_of : Piece → Piece → List Fraction
crossings_of (Edge a b) (Edge c d) = crossing_place (crossing (edge_between a b) (edge_between c d))
crossings_of (Edge a b) (Dot c) = []
crossings_of (Dot a) q = []

-- the event columns, from the left: the places of all ends, dots and crossings
abbrev pub events : List Piece → List Fraction
events pieces =
    rising (flat_map ends_of pieces ++ flat_map (λ p. flat_map (crossings_of p) pieces) pieces)

-- the columns, from the left: the events, the middles between them, and one on either side
abbrev pub columns : List Piece → List Mark
columns pieces = marks one_less one_more (events pieces)

-- the places in a column, from the top: the heights, the middles between them, and one above and one below
abbrev pub levels : List Piece → Fraction → List Mark
levels pieces x = marks one_more one_less (falling (flat_map (heights_of x) pieces))

-- 0 at an event's height; 1 beside a height, or at a height beside the events; else 2
abbrev pub dimension : Bool → Bool → ℕ
dimension true true = 0
dimension true false = 1
dimension false true = 1
dimension false false = 2

-- a point, with the dimension of its cell
pub record Sample : Type 0 where
  pub point : Point
  pub dim : ℕ

abbrev pub sample_at : Mark → Mark → Sample
sample_at x y = record { point = point_at x.place y.place; dim = dimension x.listed y.listed }

-- the samples, columns from the left, each from the top
abbrev pub samples : List Piece → List Sample
samples pieces = flat_map (λ x. map (sample_at x) (levels pieces x.place)) (columns pieces)
