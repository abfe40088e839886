-- The definitions of cells computed at four small lists of pieces.
use Rattle.std.proofs.Common.{◌≡◌, ℕ, List, [], ◌∷◌, map, refl, ℤ, pos, negsuc, Some, slice_get}
use Rattle.sf_grid.specs.Plane.{Coordinates}
use Rattle.sf_strips.specs.declared.piece.Piece.{Piece}
use Rattle.sf_strips.specs.declared.piece.Piece.TheVariants.{Edge, Dot}
use Rattle.sf_cells.specs.declared.cell.Cell.{Cell}
use Rattle.sf_cells.specs.Cells.{cells}
use Rattle.sf_cells.specs.Groups.{Item, item_of}

abbrev at : ℤ → ℤ → Coordinates
at x y = record { x = x; y = y }

abbrev cell : ℕ → List ℕ → List ℕ → Cell
cell dim on above = record { dim = dim; on = on; above = above }

cells-none : cells [] ≡ cell 2 [] [] ∷ []
cells-none = refl

cells-dot : cells (Dot (at (pos 0) (pos 0)) ∷ []) ≡ cell 2 [] [] ∷ cell 1 [] [] ∷ cell 0 (0 ∷ []) [] ∷ cell 1 [] [] ∷ cell 2 [] [] ∷ []
cells-dot = refl

cells-edge :
    cells (Edge (at (pos 0) (pos 0)) (at (pos 2) (pos 2)) ∷ [])
    ≡ cell 2 [] []
    ∷ cell 1 [] [] ∷ cell 0 (0 ∷ []) [] ∷ cell 1 [] (0 ∷ [])
    ∷ cell 2 [] [] ∷ cell 1 (0 ∷ []) [] ∷ cell 2 [] (0 ∷ [])
    ∷ cell 1 [] [] ∷ cell 0 (0 ∷ []) [] ∷ cell 1 [] []
    ∷ cell 2 [] [] ∷ []
cells-edge = refl

abbrev two_edges : List Piece
two_edges = (Edge (at (pos 0) (pos 0)) (at (pos 2) (pos 1))) ∷ (Edge (at (pos 0) (pos 1)) (at (pos 1) (pos 0))) ∷ []

cells-two_edges : cells two_edges ≡
    cell 2 ([]) ([])
    ∷ cell 1 ([]) ([])
    ∷ cell 0 (1 ∷ []) ([])
    ∷ cell 1 ([]) (1 ∷ [])
    ∷ cell 0 (0 ∷ []) (1 ∷ [])
    ∷ cell 1 ([]) (0 ∷ 1 ∷ [])
    ∷ cell 2 ([]) ([])
    ∷ cell 1 (1 ∷ []) ([])
    ∷ cell 2 ([]) (1 ∷ [])
    ∷ cell 1 (0 ∷ []) (1 ∷ [])
    ∷ cell 2 ([]) (0 ∷ 1 ∷ [])
    ∷ cell 1 ([]) ([])
    ∷ cell 0 (0 ∷ 1 ∷ []) ([])
    ∷ cell 1 ([]) (0 ∷ 1 ∷ [])
    ∷ cell 2 ([]) ([])
    ∷ cell 1 (0 ∷ []) ([])
    ∷ cell 2 ([]) (0 ∷ [])
    ∷ cell 1 (1 ∷ []) (0 ∷ [])
    ∷ cell 2 ([]) (0 ∷ 1 ∷ [])
    ∷ cell 1 ([]) ([])
    ∷ cell 0 (0 ∷ []) ([])
    ∷ cell 1 ([]) (0 ∷ [])
    ∷ cell 0 (1 ∷ []) (0 ∷ [])
    ∷ cell 1 ([]) (0 ∷ [])
    ∷ cell 2 ([]) ([])
    ∷ cell 1 (0 ∷ []) ([])
    ∷ cell 2 ([]) (0 ∷ [])
    ∷ cell 1 ([]) ([])
    ∷ cell 0 (0 ∷ []) ([])
    ∷ cell 1 ([]) ([])
    ∷ cell 2 ([]) ([]) ∷ []
cells-two_edges = refl

abbrev two_squares : List Piece
two_squares = (Edge (at (pos 0) (pos 0)) (at (pos 4) (pos 0))) ∷ (Edge (at (pos 4) (pos 0)) (at (pos 4) (pos 4))) ∷ (Edge (at (pos 4) (pos 4)) (at (pos 0) (pos 4))) ∷ (Edge (at (pos 0) (pos 4)) (at (pos 0) (pos 0))) ∷ (Edge (at (pos 2) (pos 2)) (at (pos 6) (pos 2))) ∷ (Edge (at (pos 6) (pos 2)) (at (pos 6) (pos 6))) ∷ (Edge (at (pos 6) (pos 6)) (at (pos 2) (pos 6))) ∷ (Edge (at (pos 2) (pos 6)) (at (pos 2) (pos 2))) ∷ []

cells-two_squares : cells two_squares ≡
    cell 2 ([]) ([])
    ∷ cell 1 ([]) ([])
    ∷ cell 0 (2 ∷ 3 ∷ []) ([])
    ∷ cell 1 (3 ∷ []) (2 ∷ [])
    ∷ cell 0 (0 ∷ 3 ∷ []) (2 ∷ [])
    ∷ cell 1 ([]) (0 ∷ 2 ∷ [])
    ∷ cell 2 ([]) ([])
    ∷ cell 1 (2 ∷ []) ([])
    ∷ cell 2 ([]) (2 ∷ [])
    ∷ cell 1 (0 ∷ []) (2 ∷ [])
    ∷ cell 2 ([]) (0 ∷ 2 ∷ [])
    ∷ cell 1 ([]) ([])
    ∷ cell 0 (6 ∷ 7 ∷ []) ([])
    ∷ cell 1 (7 ∷ []) (6 ∷ [])
    ∷ cell 0 (2 ∷ 7 ∷ []) (6 ∷ [])
    ∷ cell 1 (7 ∷ []) (2 ∷ 6 ∷ [])
    ∷ cell 0 (4 ∷ 7 ∷ []) (2 ∷ 6 ∷ [])
    ∷ cell 1 ([]) (2 ∷ 4 ∷ 6 ∷ [])
    ∷ cell 0 (0 ∷ []) (2 ∷ 4 ∷ 6 ∷ [])
    ∷ cell 1 ([]) (0 ∷ 2 ∷ 4 ∷ 6 ∷ [])
    ∷ cell 2 ([]) ([])
    ∷ cell 1 (6 ∷ []) ([])
    ∷ cell 2 ([]) (6 ∷ [])
    ∷ cell 1 (2 ∷ []) (6 ∷ [])
    ∷ cell 2 ([]) (2 ∷ 6 ∷ [])
    ∷ cell 1 (4 ∷ []) (2 ∷ 6 ∷ [])
    ∷ cell 2 ([]) (2 ∷ 4 ∷ 6 ∷ [])
    ∷ cell 1 (0 ∷ []) (2 ∷ 4 ∷ 6 ∷ [])
    ∷ cell 2 ([]) (0 ∷ 2 ∷ 4 ∷ 6 ∷ [])
    ∷ cell 1 ([]) ([])
    ∷ cell 0 (6 ∷ []) ([])
    ∷ cell 1 ([]) (6 ∷ [])
    ∷ cell 0 (1 ∷ 2 ∷ []) (6 ∷ [])
    ∷ cell 1 (1 ∷ []) (6 ∷ [])
    ∷ cell 0 (1 ∷ 4 ∷ []) (6 ∷ [])
    ∷ cell 1 (1 ∷ []) (4 ∷ 6 ∷ [])
    ∷ cell 0 (0 ∷ 1 ∷ []) (4 ∷ 6 ∷ [])
    ∷ cell 1 ([]) (4 ∷ 6 ∷ [])
    ∷ cell 2 ([]) ([])
    ∷ cell 1 (6 ∷ []) ([])
    ∷ cell 2 ([]) (6 ∷ [])
    ∷ cell 1 (4 ∷ []) (6 ∷ [])
    ∷ cell 2 ([]) (4 ∷ 6 ∷ [])
    ∷ cell 1 ([]) ([])
    ∷ cell 0 (5 ∷ 6 ∷ []) ([])
    ∷ cell 1 (5 ∷ []) ([])
    ∷ cell 0 (4 ∷ 5 ∷ []) ([])
    ∷ cell 1 ([]) ([])
    ∷ cell 2 ([]) ([]) ∷ []
cells-two_squares = refl

abbrev wide : List Piece
wide = (Edge (at (negsuc 1073741823) (negsuc 1073741823)) (at (pos 1073741823) (pos 1073741822))) ∷ (Edge (at (negsuc 1073741823) (pos 1073741823)) (at (pos 1073741823) (negsuc 1073741823))) ∷ (Dot (at (pos 3) (pos 5))) ∷ []

cells-wide : cells wide ≡
    cell 2 ([]) ([])
    ∷ cell 1 ([]) ([])
    ∷ cell 0 (1 ∷ []) ([])
    ∷ cell 1 ([]) (1 ∷ [])
    ∷ cell 0 (0 ∷ []) (1 ∷ [])
    ∷ cell 1 ([]) (0 ∷ 1 ∷ [])
    ∷ cell 2 ([]) ([])
    ∷ cell 1 (1 ∷ []) ([])
    ∷ cell 2 ([]) (1 ∷ [])
    ∷ cell 1 (0 ∷ []) (1 ∷ [])
    ∷ cell 2 ([]) (0 ∷ 1 ∷ [])
    ∷ cell 1 ([]) ([])
    ∷ cell 0 (0 ∷ 1 ∷ []) ([])
    ∷ cell 1 ([]) (0 ∷ 1 ∷ [])
    ∷ cell 2 ([]) ([])
    ∷ cell 1 (0 ∷ []) ([])
    ∷ cell 2 ([]) (0 ∷ [])
    ∷ cell 1 (1 ∷ []) (0 ∷ [])
    ∷ cell 2 ([]) (0 ∷ 1 ∷ [])
    ∷ cell 1 ([]) ([])
    ∷ cell 0 (2 ∷ []) ([])
    ∷ cell 1 ([]) ([])
    ∷ cell 0 (0 ∷ []) ([])
    ∷ cell 1 ([]) (0 ∷ [])
    ∷ cell 0 (1 ∷ []) (0 ∷ [])
    ∷ cell 1 ([]) (0 ∷ 1 ∷ [])
    ∷ cell 2 ([]) ([])
    ∷ cell 1 (0 ∷ []) ([])
    ∷ cell 2 ([]) (0 ∷ [])
    ∷ cell 1 (1 ∷ []) (0 ∷ [])
    ∷ cell 2 ([]) (0 ∷ 1 ∷ [])
    ∷ cell 1 ([]) ([])
    ∷ cell 0 (0 ∷ []) ([])
    ∷ cell 1 ([]) ([])
    ∷ cell 0 (1 ∷ []) ([])
    ∷ cell 1 ([]) ([])
    ∷ cell 2 ([]) ([]) ∷ []
cells-wide = refl

abbrev along : List Piece
along = (Edge (at (pos 0) (pos 0)) (at (pos 4) (pos 0))) ∷ (Edge (at (pos 6) (pos 0)) (at (pos 2) (pos 0))) ∷ (Edge (at (pos 3) (negsuc 0)) (at (pos 3) (pos 1))) ∷ (Dot (at (pos 3) (pos 0))) ∷ (Edge (at (pos 1) (pos 1)) (at (pos 5) (negsuc 0))) ∷ []

cells-along : cells along ≡
    cell 2 ([]) ([])
    ∷ cell 1 ([]) ([])
    ∷ cell 0 (0 ∷ []) ([])
    ∷ cell 1 ([]) (0 ∷ [])
    ∷ cell 2 ([]) ([])
    ∷ cell 1 (0 ∷ []) ([])
    ∷ cell 2 ([]) (0 ∷ [])
    ∷ cell 1 ([]) ([])
    ∷ cell 0 (4 ∷ []) ([])
    ∷ cell 1 ([]) (4 ∷ [])
    ∷ cell 0 (0 ∷ []) (4 ∷ [])
    ∷ cell 1 ([]) (0 ∷ 4 ∷ [])
    ∷ cell 2 ([]) ([])
    ∷ cell 1 (4 ∷ []) ([])
    ∷ cell 2 ([]) (4 ∷ [])
    ∷ cell 1 (0 ∷ []) (4 ∷ [])
    ∷ cell 2 ([]) (0 ∷ 4 ∷ [])
    ∷ cell 1 ([]) ([])
    ∷ cell 0 (4 ∷ []) ([])
    ∷ cell 1 ([]) (4 ∷ [])
    ∷ cell 0 (0 ∷ 1 ∷ []) (4 ∷ [])
    ∷ cell 1 ([]) (0 ∷ 1 ∷ 4 ∷ [])
    ∷ cell 2 ([]) ([])
    ∷ cell 1 (4 ∷ []) ([])
    ∷ cell 2 ([]) (4 ∷ [])
    ∷ cell 1 (0 ∷ 1 ∷ []) (4 ∷ [])
    ∷ cell 2 ([]) (0 ∷ 1 ∷ 4 ∷ [])
    ∷ cell 1 ([]) ([])
    ∷ cell 0 (2 ∷ []) ([])
    ∷ cell 1 (2 ∷ []) ([])
    ∷ cell 0 (0 ∷ 1 ∷ 2 ∷ 3 ∷ 4 ∷ []) ([])
    ∷ cell 1 (2 ∷ []) (0 ∷ 1 ∷ 4 ∷ [])
    ∷ cell 0 (2 ∷ []) (0 ∷ 1 ∷ 4 ∷ [])
    ∷ cell 1 ([]) (0 ∷ 1 ∷ 4 ∷ [])
    ∷ cell 2 ([]) ([])
    ∷ cell 1 (0 ∷ 1 ∷ []) ([])
    ∷ cell 2 ([]) (0 ∷ 1 ∷ [])
    ∷ cell 1 (4 ∷ []) (0 ∷ 1 ∷ [])
    ∷ cell 2 ([]) (0 ∷ 1 ∷ 4 ∷ [])
    ∷ cell 1 ([]) ([])
    ∷ cell 0 (0 ∷ 1 ∷ []) ([])
    ∷ cell 1 ([]) (1 ∷ [])
    ∷ cell 0 (4 ∷ []) (1 ∷ [])
    ∷ cell 1 ([]) (1 ∷ 4 ∷ [])
    ∷ cell 2 ([]) ([])
    ∷ cell 1 (1 ∷ []) ([])
    ∷ cell 2 ([]) (1 ∷ [])
    ∷ cell 1 (4 ∷ []) (1 ∷ [])
    ∷ cell 2 ([]) (1 ∷ 4 ∷ [])
    ∷ cell 1 ([]) ([])
    ∷ cell 0 (1 ∷ []) ([])
    ∷ cell 1 ([]) (1 ∷ [])
    ∷ cell 0 (4 ∷ []) (1 ∷ [])
    ∷ cell 1 ([]) (1 ∷ [])
    ∷ cell 2 ([]) ([])
    ∷ cell 1 (1 ∷ []) ([])
    ∷ cell 2 ([]) (1 ∷ [])
    ∷ cell 1 ([]) ([])
    ∷ cell 0 (1 ∷ []) ([])
    ∷ cell 1 ([]) ([])
    ∷ cell 2 ([]) ([]) ∷ []
cells-along = refl

abbrev item : ℕ → ℕ → ℕ → Item
item dim on above = record { dim = dim; on = on ∷ []; above = above ∷ [] }

items-one_group :
    map (item_of (0 ∷ 0 ∷ [])) (cells (Edge (at (pos 0) (pos 0)) (at (pos 2) (pos 2)) ∷ Dot (at (pos 1) (pos 1)) ∷ []))
    ≡ item 2 0 0
    ∷ item 1 0 0 ∷ item 0 1 0 ∷ item 1 0 1
    ∷ item 2 0 0 ∷ item 1 1 0 ∷ item 2 0 1
    ∷ item 1 0 0 ∷ item 0 2 0 ∷ item 1 0 1
    ∷ item 2 0 0 ∷ item 1 1 0 ∷ item 2 0 1
    ∷ item 1 0 0 ∷ item 0 1 0 ∷ item 1 0 0
    ∷ item 2 0 0 ∷ []
items-one_group = refl

items-none : map (item_of []) (cells []) ≡ (record { dim = 2; on = []; above = [] }) ∷ []
items-none = refl

-- the counts of the two crossing edges' cells, over whatever groups
abbrev counted : List ℕ → List Item
counted groups = map (item_of groups) (cells two_edges)

abbrev pair : ℕ → ℕ → ℕ → ℕ → ℕ → Item
pair dim on_first on_second above_first above_second =
    record { dim = dim; on = on_first ∷ on_second ∷ []; above = above_first ∷ above_second ∷ [] }

items-two_groups : counted (0 ∷ 1 ∷ []) ≡
    pair 2 0 0 0 0
    ∷ pair 1 0 0 0 0
    ∷ pair 0 0 1 0 0
    ∷ pair 1 0 0 0 1
    ∷ pair 0 1 0 0 1
    ∷ pair 1 0 0 1 1
    ∷ pair 2 0 0 0 0
    ∷ pair 1 0 1 0 0
    ∷ pair 2 0 0 0 1
    ∷ pair 1 1 0 0 1
    ∷ pair 2 0 0 1 1
    ∷ pair 1 0 0 0 0
    ∷ pair 0 1 1 0 0
    ∷ pair 1 0 0 1 1
    ∷ pair 2 0 0 0 0
    ∷ pair 1 1 0 0 0
    ∷ pair 2 0 0 1 0
    ∷ pair 1 0 1 1 0
    ∷ pair 2 0 0 1 1
    ∷ pair 1 0 0 0 0
    ∷ pair 0 1 0 0 0
    ∷ pair 1 0 0 1 0
    ∷ pair 0 0 1 1 0
    ∷ pair 1 0 0 1 0
    ∷ pair 2 0 0 0 0
    ∷ pair 1 1 0 0 0
    ∷ pair 2 0 0 1 0
    ∷ pair 1 0 0 0 0
    ∷ pair 0 1 0 0 0
    ∷ pair 1 0 0 0 0
    ∷ pair 2 0 0 0 0
    ∷ []
items-two_groups = refl

items-crossing : counted (0 ∷ 0 ∷ []) ≡
    item 2 0 0
    ∷ item 1 0 0 ∷ item 0 1 0 ∷ item 1 0 1 ∷ item 0 1 1 ∷ item 1 0 2
    ∷ item 2 0 0 ∷ item 1 1 0 ∷ item 2 0 1 ∷ item 1 1 1 ∷ item 2 0 2
    ∷ item 1 0 0 ∷ item 0 2 0 ∷ item 1 0 2
    ∷ item 2 0 0 ∷ item 1 1 0 ∷ item 2 0 1 ∷ item 1 1 1 ∷ item 2 0 2
    ∷ item 1 0 0 ∷ item 0 1 0 ∷ item 1 0 1 ∷ item 0 1 1 ∷ item 1 0 1
    ∷ item 2 0 0 ∷ item 1 1 0 ∷ item 2 0 1
    ∷ item 1 0 0 ∷ item 0 1 0 ∷ item 1 0 0
    ∷ item 2 0 0
    ∷ []
items-crossing = refl

-- the 13th cell of the two crossing edges: where they cross
thirteenth : slice_get (cells two_edges) 12 ≡ Some (cell 0 (0 ∷ 1 ∷ []) [])
thirteenth = refl
