-- What the laws of the sweep speak of beside the definitions.
use Rattle.std.proofs.Common.{◌≡◌, ℕ, Bool, ◌||◌, List, [], ◌∷◌, ◌++◌, map}
use Rattle.sf_grid.specs.Fraction.{Fraction}
use Rattle.sf_strips.specs.declared.piece.Piece.{Piece}
use Rattle.sf_strips.specs.declared.active.Active.{Active}
use Rattle.sf_strips.specs.declared.level.Level.{Level}
use Rattle.sf_strips.specs.declared.vertex.Vertex.{Vertex}
use Rattle.sf_cells.specs.Cells.{numbers_from}
use Rattle.sf_strips.specs.Fronts.{SameNumbers}
use Rattle.sf_cells.specs.Groups.{counts, item_of}
use Rattle.sf_cells.specs.Hands.{Balanced, Stop, stop_items, stops}
pub use Rattle.sf_slabs.specs.Sweeps.{AreVertices, InOrder, InOrderFrom, IsColumnOf, IsComing, IsFront, StepsAt, StepsAtFrom, comes_to, step_by}
pub use Rattle.sf_slabs.proofs.Ahead.{IsAhead, right_of}
pub use Rattle.sf_strips.specs.Vertices.{in_column}
use Rattle.sf_slabs.proofs.ColumnLaws.{IsHeights, column_cells}
use Rattle.sf_slabs.proofs.LevelLaws.{Level as PieceLevel}

-- ---- what is handed out for a column
-- stops and levels one by one, below a gap with the pieces of `gap` on it and those of `above` above it
abbrev pub Fits : List Piece → (Piece → Bool) → (Piece → Bool) → List Stop → List PieceLevel → Type 0
Fits pieces gap above [] [] = numbers_from 0 gap pieces ≡ []
Fits pieces gap above [] (l ∷ ls) = ⊥
Fits pieces gap above (s ∷ ss) [] = ⊥
Fits pieces gap above (s ∷ ss) (l ∷ ls) =
    SameNumbers (s.enter ++ numbers_from 0 gap pieces) (numbers_from 0 l.on pieces)
    × (SameNumbers (s.leave ++ numbers_from 0 l.gap pieces) (numbers_from 0 l.on pieces)
    × (SameNumbers (s.onward ++ numbers_from 0 above pieces) (numbers_from 0 (λ p. above p || l.from p) pieces)
    × Fits pieces l.gap (λ p. above p || l.from p) ss ls))

-- the items are those of the column's cells
pub record IsColumn (pieces : List Piece) (z : Fraction) (es : List Active) (vs : List Vertex) (os : List Active) (ls : List Level) : Type 0 where
  pub heights : List Fraction
  pub are_heights : IsHeights pieces z heights
  pub items : (groups : List ℕ) (event : Bool) →
      stop_items groups event (counts groups []) (counts groups []) (stops es vs os ls)
      ≡ map (item_of groups) (column_cells pieces heights (record { place = z; listed = event }))
  pub balanced : (groups : List ℕ) → Balanced groups (counts groups []) (stops es vs os ls)
