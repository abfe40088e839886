-- Computes the dimension of a set (HasDimension): to be trusted by the law MatricesAreOverThePlane of sf_relate, and not by reading.
-- Sets of points that are unions of cells: which points they have, and of what dimension they are, is seen by the samples.
use Rattle.std.specs.Prelude.{◌≡◌, ◌↔◌, ℕ, zero, suc, ◌≤◌, Bool, IsTrue, List, [], ◌∷◌, if◌then◌else◌}
use Rattle.std.specs.List.{All, Any}
use Rattle.sf_grid.specs.Plane.{IsPoint, IsSamePoint, Point}
use Rattle.sf_strips.specs.declared.piece.Piece.{Piece}
use Rattle.sf_cells.specs.declared.cell.Cell.{Cell}
use Rattle.sf_cells.specs.Cells.{cells, numbers_from}
use Rattle.sf_cells.specs.Pieces.{is_above, is_on}
use Rattle.sf_cells.specs.Samples.{Sample, samples}
use Rattle.sf_plane.specs.declared.dim.Dim.{Dim}
use Rattle.sf_plane.specs.declared.dim.Dim.TheVariants.{Nothing, One, Two, Zero}
use Rattle.sf_plane.specs.Cover.{cell_at, dimension_at}
use Rattle.sf_plane.specs.Dimension.{HasDimension, HasPoint, HasSegment, HasTriangle, PointSet}

-- both points have the same pieces on them and the same edges above them
pub record AreAlike (pieces : List Piece) (p q : Point) : Type 0 where
  pub on : numbers_from 0 (is_on p) pieces ≡ numbers_from 0 (is_on q) pieces
  pub above : numbers_from 0 (is_above p) pieces ≡ numbers_from 0 (is_above q) pieces

-- which is to say: each piece is on both or on neither, and above both or neither
abbrev pub AlikeForEachPiece : Type 0
AlikeForEachPiece =
    (pieces : List Piece) (p q : Point)
    → AreAlike pieces p q ↔ All (λ r. (is_on p r ≡ is_on q r) × (is_above p r ≡ is_above q r)) pieces

-- both points are in one cell: they are alike, their cells have one dimension, and where that is 0 they are one point
pub record AreInOneCell (pieces : List Piece) (p q : Point) : Type 0 where
  pub alike : AreAlike pieces p q
  pub dim : dimension_at pieces p ≡ dimension_at pieces q
  pub same : dimension_at pieces p ≡ 0 → IsSamePoint p q

-- of the points of one cell the set has all or none
abbrev pub IsUnionOfCells : List Piece → PointSet → Type 0
IsUnionOfCells pieces set = (p q : Point) → IsPoint p → IsPoint q → AreInOneCell pieces p q → set p ≡ set q

-- the dimension with a number
abbrev pub dim_of : ℕ → Dim
dim_of zero = Zero
dim_of (suc zero) = One
dim_of (suc (suc n)) = Two

-- the greater of two dimensions
abbrev pub greater_dim : Dim → Dim → Dim
greater_dim Nothing e = e
greater_dim Zero Nothing = Zero
greater_dim Zero e = e
greater_dim One Two = Two
greater_dim One e = One
greater_dim Two e = Two

-- the greatest dimension of the listed things that pass a test
abbrev pub greatest_dim : {A : Type 0} → (A → ℕ) → (A → Bool) → List A → Dim
greatest_dim dim test [] = Nothing
greatest_dim dim test (x ∷ xs) =
    let rest : Dim = greatest_dim dim test xs in
    if test x then greater_dim (dim_of (dim x)) rest else rest

-- the dimension of a set, as the samples of pieces see it: the greatest of a sample that lies in it
abbrev pub dimension_by_samples : List Piece → PointSet → Dim
dimension_by_samples pieces set = greatest_dim (λ (s : Sample). s.dim) (λ (s : Sample). set s.point) (samples pieces)

-- a sample lies in the set and has at least this dimension
abbrev pub IsSampleOf : PointSet → ℕ → Sample → Type 0
IsSampleOf set dim s = IsTrue (set s.point) × (dim ≤ s.dim)

-- what samples say of a set
pub record SamplesTell (pieces : List Piece) (set : PointSet) : Type 0 where
  pub every_point : ((p : Point) → IsPoint p → IsTrue (set p)) ↔ All (λ s. IsTrue (set s.point)) (samples pieces)
  pub point : HasPoint set ↔ Any (IsSampleOf set 0) (samples pieces)
  pub segment : HasSegment set ↔ Any (IsSampleOf set 1) (samples pieces)
  pub triangle : HasTriangle set ↔ Any (IsSampleOf set 2) (samples pieces)
  pub dimension : HasDimension set (dimension_by_samples pieces set)

-- the set of the points whose cells pass a test
abbrev pub by_cells : List Piece → (Cell → Bool) → PointSet
by_cells pieces test p = test (cell_at pieces p)

-- the greatest dimension of a cell that passes a test
abbrev pub greatest_of_cells : (Cell → Bool) → List Cell → Dim
greatest_of_cells test cs = greatest_dim (λ (c : Cell). c.dim) test cs

-- the same for a test of cells: such a set is a union of cells, and its dimension the greatest of a cell that passes
pub record CellsTell (pieces : List Piece) (test : Cell → Bool) : Type 0 where
  pub union : IsUnionOfCells pieces (by_cells pieces test)
  pub every_point : ((p : Point) → IsPoint p → IsTrue (by_cells pieces test p)) ↔ All (λ c. IsTrue (test c)) (cells pieces)
  pub dimension : HasDimension (by_cells pieces test) (greatest_of_cells test (cells pieces))

abbrev pub CellsTellOfTests : Type 0
CellsTellOfTests = (pieces : List Piece) (test : Cell → Bool) → CellsTell pieces test
