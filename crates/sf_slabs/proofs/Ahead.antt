-- What is right of a column of the sweep.
use Rattle.std.specs.Prelude.{◌≡◌, Bool, true, List}
use Rattle.std.specs.List.{AllByRecursion}
use Rattle.sf_grid.specs.Fraction.{Fraction, fraction_lt, whole}
use Rattle.sf_strips.specs.declared.piece.Piece.{Piece}
use Rattle.sf_strips.specs.declared.vertex.Vertex.{Vertex}
use Rattle.sf_strips.specs.Vertices.{IsVertexOf}
use Rattle.sf_slabs.specs.Sweeps.{AreVertices, InOrder}

-- the vertex is right of the column x
abbrev pub right_of : Fraction → Vertex → Bool
right_of x v = fraction_lt x (whole v.at.x)

-- the vertices right of the column x
pub record IsAhead (pieces : List Piece) (x : Fraction) (vs : List Vertex) : Type 0 where
  pub are : AreVertices pieces (right_of x) vs
  pub each : AllByRecursion (IsVertexOf pieces) vs
  pub later : AllByRecursion (λ v. right_of x v ≡ true) vs
  pub in_order : InOrder vs
