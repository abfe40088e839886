-- Internal: who wants to trust the program need not read this file.
-- What is seen of a node: how many levels there are from it down, how many members it has, and the entries below it, in order.
use Rattle.std.specs.Prelude.{◌≢◌, ℕ, ◌^◌, ◌<◌, List, [], ◌∷◌}
use Rattle.std.specs.List.{AllByRecursion}
use Rattle.sf_rtree.specs.Boxed.{Boxed}
use Rattle.sf_rtree.specs.Curves.{AreInOrder}
use Rattle.sf_rtree.specs.Indexes.{Boxes, with_box}

pub record Subtree : Type 0 where
  pub levels : ℕ
  pub members : ℕ
  pub entries : List Boxed

-- the entries as a map from identifier to box
abbrev pub boxes_of : List Boxed → Boxes
boxes_of [] = []
boxes_of (e ∷ es) = with_box e.id e.extent (boxes_of es)

-- no identifier stands twice
abbrev pub IsDistinct : List Boxed → Type 0
IsDistinct [] = Unit {0}
IsDistinct (e ∷ es) = AllByRecursion (λ f. f.id ≢ e.id) es × IsDistinct es

-- the node may be a root: entries in order, each identifier of 32 bits, and once
pub record IsRoot (n : Subtree) : Type 0 where
  pub in_order : AreInOrder n.entries
  pub distinct : IsDistinct n.entries
  pub small : AllByRecursion (λ e. e.id < 2 ^ 32) n.entries
