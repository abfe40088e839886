-- Internal: who wants to trust the program need not read this file.
-- The lists of a sweep: what comes to a column from the left, what lies in it, and what goes on from it.
use Rattle.std.specs.Prelude.{◌≡◌, ℕ, Bool, true, false, ◌&&◌, List, [], ◌∷◌, map, Option, if◌then◌else◌}
use Rattle.std.specs.List.{AllByRecursion, sum_by}
use Rattle.std.specs.declared.cmp.Ordering.{Ordering}
use Rattle.std.specs.declared.cmp.Ordering.TheVariants.{Equal, Less}
use Rattle.sf_grid.specs.Fraction.{Fraction, IsFraction, fraction_le, fraction_lt, whole}
use Rattle.sf_grid.specs.Edge.{edge_between, height_cmp, left_end, right_end}
use Rattle.sf_strips.specs.declared.piece.Piece.{Piece}
use Rattle.sf_strips.specs.declared.piece.Piece.TheVariants.{Dot, Edge}
use Rattle.sf_strips.specs.declared.active.Active.{Active}
use Rattle.sf_cells.specs.declared.cell.Cell.{Cell}
use Rattle.sf_strips.specs.declared.contact.Contact.{Contact}
use Rattle.sf_strips.specs.declared.vertex.Vertex.{Vertex}
use Rattle.sf_cells.specs.Cells.{cell_of, numbers_from}
use Rattle.sf_strips.specs.Fronts.{AreContacts, Descend, IsEntry, SameNumbers, line_of, pieces_of, touches}
use Rattle.sf_cells.specs.Samples.{Mark, levels, sample_at}
use Rattle.sf_strips.specs.Slanted.{goes_on}
use Rattle.sf_strips.specs.Vertices.{IsVertexOf, all_vertices, in_column, vertex_before}

-- the piece is an edge that isn't vertical and goes on to the right of the column x
abbrev pub passes : Fraction → Piece → Bool
passes x (Edge a b) = goes_on (edge_between a b) x
passes x (Dot a) = false

-- the piece is an edge that isn't vertical and comes to the column z from the left
abbrev pub comes_to : Fraction → Piece → Bool
comes_to z (Edge a b) =
    let e = edge_between a b in
    fraction_lt (whole (left_end e).x) z && fraction_le z (whole (right_end e).x)
comes_to z (Dot a) = false

-- the next edge is level with this one in the column z where the two touch, and else strictly below
abbrev pub step_by : Bool → Ordering
step_by true = Equal
step_by false = Less

abbrev pub StepsAtFrom : Fraction → Option Fraction → Active → List Active → List Contact → Type 0
StepsAtFrom z column a [] cs = cs ≡ []
StepsAtFrom z column a (b ∷ bs) [] = ⊥
StepsAtFrom z column a (b ∷ bs) (c ∷ cs) =
    (height_cmp (line_of b) (line_of a) z ≡ step_by (touches column c)) × StepsAtFrom z column b bs cs

abbrev pub StepsAt : Fraction → Option Fraction → List Active → List Contact → Type 0
StepsAt z column [] cs = cs ≡ []
StepsAt z column (a ∷ es) cs = StepsAtFrom z column a es cs

-- the vertices are just those of the pieces that pass a test, each as often
abbrev pub AreVertices : List Piece → (Vertex → Bool) → List Vertex → Type 0
AreVertices pieces test vs =
    (weight : Vertex → ℕ) → sum_by weight vs ≡ sum_by (λ v. if test v then weight v else 0) (all_vertices 0 pieces)

-- columns from the left, each from the top
abbrev pub InOrderFrom : Vertex → List Vertex → Type 0
InOrderFrom u [] = Unit {0}
InOrderFrom u (v ∷ vs) = (vertex_before v u ≡ false) × InOrderFrom v vs

abbrev pub InOrder : List Vertex → Type 0
InOrder [] = Unit {0}
InOrder (v ∷ vs) = InOrderFrom v vs

-- the vertices of a column
pub record IsColumnOf (pieces : List Piece) (z : Fraction) (vs : List Vertex) : Type 0 where
  pub are : AreVertices pieces (in_column z) vs
  pub each : AllByRecursion (IsVertexOf pieces) vs
  pub here : AllByRecursion (λ v. in_column z v ≡ true) vs
  pub in_order : InOrder vs

-- the edges that come to the column z from the left, from the top
pub record IsComing (pieces : List Piece) (z : Fraction) (column : Option Fraction) (es : List Active) (cs : List Contact) : Type 0 where
  pub place : IsFraction z
  pub entries : AllByRecursion (IsEntry pieces) es
  pub coming : SameNumbers (pieces_of es) (numbers_from 0 (comes_to z) pieces)
  pub steps : StepsAt z column es cs

-- the edges that go on to the right of the column x, from the top
pub record IsFront (pieces : List Piece) (x : Fraction) (os : List Active) (cs : List Contact) : Type 0 where
  pub place : IsFraction x
  pub entries : AllByRecursion (IsEntry pieces) os
  pub active : SameNumbers (pieces_of os) (numbers_from 0 (passes x) pieces)
  pub descend : Descend x os
  pub contacts : AreContacts x os cs

-- the cells of a column
abbrev pub cells_in : List Piece → Mark → List Cell
cells_in pieces m = map (λ y. cell_of pieces (sample_at m y)) (levels pieces m.place)
