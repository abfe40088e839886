-- Internal: who wants to trust the program need not read this file.
-- Cells by groups of pieces: how many pieces of each group are on a cell, and how many above it.
use Rattle.std.specs.Prelude.{ℕ, zero, suc, ◌+◌, max, List, [], ◌∷◌, map, slice_index, ◌==◌}
use Rattle.std.specs.List.{count_by}
use Rattle.sf_cells.specs.declared.cell.Cell.{Cell}

-- how many groups there are: the greatest number plus one, or 0
abbrev pub group_count : List ℕ → ℕ
group_count [] = 0
group_count (g ∷ groups) = max (g + 1) (group_count groups)

-- 0, 1 and so on: n numbers from k on
abbrev pub numbers : ℕ → ℕ → List ℕ
numbers k zero = []
numbers k (suc n) = k ∷ numbers (k + 1) n

-- of each group, how many of these pieces are in it
abbrev pub counts : List ℕ → List ℕ → List ℕ
counts groups pieces =
    map (λ g. count_by (λ i. slice_index groups i == g) pieces) (numbers 0 (group_count groups))

-- a cell as a sink sees it
pub record Item : Type 0 where
  pub dim : ℕ
  pub on : List ℕ
  pub above : List ℕ

abbrev pub item_of : List ℕ → Cell → Item
item_of groups c = record { dim = c.dim; on = counts groups c.on; above = counts groups c.above }
