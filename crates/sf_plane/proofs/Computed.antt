-- The definitions computed at small lists of pieces: dimensions of cells of points, dimensions of sets, edges above points of a ring.
use Rattle.std.proofs.Common.{◌≡◌, refl, ℕ, ℤ, pos, negsuc, true, false, ◌&&◌, ◌||◌, not, List, [], ◌∷◌, map}
use Rattle.sf_grid.specs.Plane.{Coordinates, Point, grid_point, same_point}
use Rattle.sf_grid.specs.Edge.{Edge as Line, edge_between, on_edge}
use Rattle.sf_strips.specs.declared.piece.Piece.{Piece}
use Rattle.sf_strips.specs.declared.piece.Piece.TheVariants.{Dot, Edge}
use Rattle.sf_cells.specs.declared.cell.Cell.{Cell}
use Rattle.sf_plane.specs.declared.dim.Dim.TheVariants.{Nothing, One, Two, Zero}
use Rattle.sf_plane.specs.Boxes.{in_box}
use Rattle.sf_grid.specs.EvenOdd.{edges_above, is_odd}
use Rattle.sf_plane.specs.Cover.{cell_at}
use Rattle.sf_plane.specs.Dimension.{PointSet, area, mean, mean_of_three}
use Rattle.sf_plane.specs.Unions.{dimension_by_samples}

abbrev at : ℤ → ℤ → Coordinates
at x y = record { x = x; y = y }

abbrev point : ℤ → ℤ → ℕ → Point
point x y d = record { x = x; y = y; d = d }

abbrev cell : ℕ → List ℕ → List ℕ → Cell
cell dim on above = record { dim = dim; on = on; above = above }

-- ---- two edges that cross at 2/3, 1/3, from the left end of both on
abbrev crossing_edges : List Piece
crossing_edges = Edge (at (pos 0) (pos 0)) (at (pos 2) (pos 1)) ∷ Edge (at (pos 0) (pos 1)) (at (pos 1) (pos 0)) ∷ []

-- at the crossing, however it is written
crossing-point : cell_at crossing_edges (point (pos 2) (pos 1) 3) ≡ cell 0 (0 ∷ 1 ∷ []) []
crossing-point = refl

crossing-scaled : cell_at crossing_edges (point (pos 4) (pos 2) 6) ≡ cell 0 (0 ∷ 1 ∷ []) []
crossing-scaled = refl

-- between the events on an edge, below both, above both
crossing-beside : map (cell_at crossing_edges) (point (pos 2) (pos 1) 4 ∷ point (pos 1) (pos 0) 4 ∷ point (pos 1) (pos 7) 4 ∷ [])
    ≡ cell 1 (0 ∷ []) (1 ∷ []) ∷ cell 2 [] (0 ∷ 1 ∷ []) ∷ cell 2 [] [] ∷ []
crossing-beside = refl

-- in an event's column beside its heights: at the left ends both edges count, at the right end none does
crossing-columns : map (cell_at crossing_edges) (point (pos 0) (negsuc 0) 1 ∷ point (pos 0) (pos 1) 2 ∷ point (pos 2) (pos 0) 1 ∷ [])
    ≡ cell 1 [] (0 ∷ 1 ∷ []) ∷ cell 1 [] (1 ∷ []) ∷ cell 1 [] [] ∷ []
crossing-columns = refl

-- left of all, right of all
crossing-outside : map (cell_at crossing_edges) (point (negsuc 6) (pos 0) 2 ∷ point (pos 9) (pos 1) 1 ∷ []) ≡ cell 2 [] [] ∷ cell 2 [] [] ∷ []
crossing-outside = refl

-- ---- an upright edge, a dot on its line, and a dot beside it
abbrev upright : List Piece
upright = Edge (at (pos 0) (pos 4)) (at (pos 0) (pos 0)) ∷ Dot (at (pos 0) (pos 6)) ∷ Dot (at (pos 3) (pos 1)) ∷ []

upright-cells : map (cell_at upright) (point (pos 0) (pos 4) 1 ∷ point (pos 0) (pos 3) 1 ∷ point (pos 0) (pos 5) 1 ∷ point (pos 0) (pos 6) 1 ∷ point (pos 1) (pos 3) 1 ∷ point (pos 6) (pos 2) 2 ∷ point (pos 3) (pos 0) 1 ∷ [])
    ≡ cell 0 (0 ∷ []) [] ∷ cell 1 (0 ∷ []) [] ∷ cell 1 [] [] ∷ cell 0 (1 ∷ []) [] ∷ cell 2 [] [] ∷ cell 0 (2 ∷ []) [] ∷ cell 1 [] [] ∷ []
upright-cells = refl

-- no piece at all
none-cell : cell_at [] (point (pos 7) (pos 1) 3) ≡ cell 2 [] []
none-cell = refl

-- ---- a line to and fro on one line: two points of dimension 0 with the same lists
abbrev to_and_fro : List Piece
to_and_fro =
    Edge (at (pos 0) (pos 0)) (at (pos 4) (pos 0)) ∷ Edge (at (pos 4) (pos 0)) (at (pos 1) (pos 0)) ∷ Edge (at (pos 1) (pos 0)) (at (pos 4) (pos 0)) ∷ Edge (at (pos 4) (pos 0)) (at (pos 2) (pos 0)) ∷ []

to_and_fro-cells : map (cell_at to_and_fro) (point (pos 2) (pos 0) 1 ∷ point (pos 4) (pos 0) 1 ∷ point (pos 3) (pos 0) 1 ∷ [])
    ≡ cell 0 (0 ∷ 1 ∷ 2 ∷ 3 ∷ []) [] ∷ cell 0 (0 ∷ 1 ∷ 2 ∷ 3 ∷ []) [] ∷ cell 1 (0 ∷ 1 ∷ 2 ∷ 3 ∷ []) [] ∷ []
to_and_fro-cells = refl

-- ---- dimensions of sets
abbrev on_first : PointSet
on_first p = on_edge (edge_between (at (pos 0) (pos 0)) (at (pos 2) (pos 1))) p

abbrev on_second : PointSet
on_second p = on_edge (edge_between (at (pos 0) (pos 1)) (at (pos 1) (pos 0))) p

dimension-both : dimension_by_samples crossing_edges (λ p. on_first p && on_second p) ≡ Zero
dimension-both = refl

dimension-one : dimension_by_samples crossing_edges on_first ≡ One
dimension-one = refl

dimension-none_on : dimension_by_samples crossing_edges (λ p. not (on_first p || on_second p)) ≡ Two
dimension-none_on = refl

dimension-empty : dimension_by_samples crossing_edges (λ p. false) ≡ Nothing
dimension-empty = refl

-- one of its ends alone, though its cell has the lists of another point
dimension-end : dimension_by_samples to_and_fro (λ p. same_point (grid_point (at (pos 2) (pos 0))) p) ≡ Zero
dimension-end = refl

dimension-plane : dimension_by_samples [] (λ p. true) ≡ Two
dimension-plane = refl

dimension-dot : dimension_by_samples (Dot (at (pos 5) (pos 5)) ∷ []) (λ p. same_point (grid_point (at (pos 5) (pos 5))) p) ≡ Zero
dimension-dot = refl

-- ---- means
mean-middle : same_point (mean 1 1 (point (pos 0) (pos 0) 1) (point (pos 3) (pos 1) 1)) (point (pos 3) (pos 1) 2) ≡ true
mean-middle = refl

-- the weights are those of the points as they are written: the half, written as 1/2, weighs twice
mean-written : same_point (mean 1 1 (point (pos 0) (pos 0) 1) (point (pos 1) (pos 0) 2)) (point (pos 1) (pos 0) 3) ≡ true
mean-written = refl

mean-three : same_point (mean_of_three 1 1 1 (point (pos 0) (pos 0) 1) (point (pos 3) (pos 0) 1) (point (pos 0) (pos 3) 1)) (point (pos 1) (pos 1) 1) ≡ true
mean-three = refl

area-left : area (point (pos 0) (pos 0) 1) (point (pos 3) (pos 0) 1) (point (pos 0) (pos 3) 1) ≡ pos 9
area-left = refl

area-line : area (point (pos 0) (pos 0) 1) (point (pos 1) (pos 1) 2) (point (pos 5) (pos 5) 1) ≡ pos 0
area-line = refl

-- ---- a triangle's ring, with an edge down to the left and a level one
abbrev triangle : List Line
triangle = edge_between (at (pos 0) (pos 0)) (at (pos 4) (pos 0)) ∷ edge_between (at (pos 4) (pos 0)) (at (pos 0) (pos 4)) ∷ edge_between (at (pos 0) (pos 4)) (at (pos 0) (pos 0)) ∷ []

ring-above : map (λ p. edges_above p triangle) (point (pos 1) (pos 1) 1 ∷ point (pos 1) (negsuc 0) 1 ∷ point (pos 3) (pos 3) 1 ∷ point (pos 0) (pos 1) 1 ∷ point (pos 4) (negsuc 0) 1 ∷ point (pos 5) (pos 0) 1 ∷ [])
    ≡ 1 ∷ 2 ∷ 0 ∷ 1 ∷ 0 ∷ 0 ∷ []
ring-above = refl

odd-numbers : map is_odd (0 ∷ 1 ∷ 2 ∷ 3 ∷ 4 ∷ []) ≡ false ∷ true ∷ false ∷ true ∷ false ∷ []
odd-numbers = refl

box-points : map (in_box (record { min_x = pos 0; min_y = pos 0; max_x = pos 4; max_y = pos 4 })) (point (pos 1) (pos 1) 2 ∷ point (pos 8) (pos 8) 2 ∷ point (pos 9) (pos 8) 2 ∷ point (negsuc 0) (pos 0) 3 ∷ [])
    ≡ true ∷ true ∷ false ∷ false ∷ []
box-points = refl
