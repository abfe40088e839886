-- Computes the samples of two geometries: to be trusted by the law MatricesAreOverThePlane of sf_relate, and not by reading.
-- Pieces in groups: the edges of lines and rings, and grid points, each with the number of its group; what a point counts.
use Rattle.std.specs.Prelude.{◌≡◌, ◌↔◌, ℕ, ◌<◌, ◌==◌, Bool, ◌&&◌, List, [], ◌∷◌, map, length, slice_index, IsTrue}
use Rattle.std.specs.List.{All, count_by, list_any}
use Rattle.sf_grid.specs.Plane.{IsPoint, Point}
use Rattle.sf_grid.specs.Edge.{Edge as Line}
use Rattle.sf_strips.specs.declared.piece.Piece.{Piece}
use Rattle.sf_strips.specs.declared.piece.Piece.TheVariants.{Edge}
use Rattle.sf_cells.specs.Cells.{cells}
use Rattle.sf_cells.specs.Groups.{Item, item_of}
use Rattle.sf_cells.specs.Pieces.{is_above, is_on}
use Rattle.sf_plane.specs.Cover.{cell_at}
use Rattle.sf_classes.specs.Classes.{IsUpward, Represent}

-- an edge as a piece
abbrev pub piece_of : Line → Piece
piece_of e = Edge e.a e.b

-- a piece, and the number of its group
abbrev pub Marked : Type 0
Marked = Piece × ℕ

abbrev pub marked : ℕ → List Piece → List Marked
marked group pieces = map (λ piece. (piece, group)) pieces

-- each piece with the group beside it
abbrev pub with_groups : List Piece → List ℕ → List Marked
with_groups [] gs = []
with_groups (p ∷ ps) [] = []
with_groups (p ∷ ps) (g ∷ gs) = (p, g) ∷ with_groups ps gs

abbrev pub pieces_of : List Marked → List Piece
pieces_of ms = map (λ m. m.0) ms

abbrev pub groups_of : List Marked → List ℕ
groups_of ms = map (λ m. m.1) ms

-- the number of each piece's group is below that of the pieces
abbrev pub HasGroups : List Marked → Type 0
HasGroups ms = All (λ g. g < length ms) (groups_of ms)

-- how many pieces of a group are on a point, and how many are above it
abbrev pub on_in : ℕ → List Marked → Point → ℕ
on_in g ms p = count_by (λ (m : Marked). (m.1 == g) && is_on p m.0) ms

abbrev pub above_in : ℕ → List Marked → Point → ℕ
above_in g ms p = count_by (λ (m : Marked). (m.1 == g) && is_above p m.0) ms

-- what a sink sees of a point's cell
abbrev pub item_at : List Marked → Point → Item
item_at ms p = item_of (groups_of ms) (cell_at (pieces_of ms) p)

-- its counts are those of the groups; a group that is not there counts 0
pub record ItemCounts (ms : List Marked) (p : Point) : Type 0 where
  pub on : (g : ℕ) → slice_index ((item_at ms p).on) g ≡ on_in g ms p
  pub above : (g : ℕ) → slice_index ((item_at ms p).above) g ≡ above_in g ms p

abbrev pub ItemsCount : Type 0
ItemsCount = (ms : List Marked) (p : Point) → ItemCounts ms p

-- the cells of the pieces, as a sink sees them
abbrev pub items_of : List Marked → List Item
items_of ms = map (item_of (groups_of ms)) (cells (pieces_of ms))

-- some item passes a test just where some point of the plane does
abbrev pub ItemsPassAsPoints : Type 0
ItemsPassAsPoints =
    (areal : List Bool) (ms : List Marked) (items : List Item) (test : Item → Bool) → Represent areal items (items_of ms)
    → IsUpward areal test
    → IsTrue (list_any test items) ↔ ((p : Point) × (IsPoint p × IsTrue (test (item_at ms p))))
