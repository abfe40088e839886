-- Internal: who wants to trust the program need not read this file.
-- Nodes of an R-tree: what is below a node, and when a node is one.
use Rattle.std.specs.Prelude.{◌≡◌, ℕ, ◌+◌, ◌<◌, ◌≤◌, ◌^◌, Bool, ◌&&◌, List, [], ◌∷◌, ◌++◌, map, filter, length, IsTrue, IsFalse, int_le, take, drop}
use Rattle.std.specs.List.{AllByRecursion}
use Rattle.sf_geometry.specs.declared.extent.Extent.{Extent}
use Rattle.sf_geometry.specs.Envelope.{extents_meet}
use Rattle.sf_rtree.specs.declared.entry.Key.{Key}
use Rattle.sf_rtree.specs.declared.node.Branch.{Branch}
use Rattle.sf_rtree.specs.declared.node.Members.{Members}
use Rattle.sf_rtree.specs.declared.node.Members.TheVariants.{Leaf, Inner}
use Rattle.sf_rtree.specs.Boxed.{Boxed}
use Rattle.sf_rtree.specs.Curves.{AreInOrder, IsLast, comes_before}
use Rattle.sf_rtree.specs.Subtrees.{Subtree}

-- the most and the fewest members of a node that isn't the root
abbrev pub most_members : ℕ
most_members = 8

abbrev pub fewest_members : ℕ
fewest_members = 3

-- the first box has all of the second
abbrev pub covers : Extent → Extent → Bool
covers a b =
    (int_le a.min_x b.min_x && int_le b.max_x a.max_x) && (int_le a.min_y b.min_y && int_le b.max_y a.max_y)

-- the box has all boxes of the entries
abbrev pub Covers : Extent → List Boxed → Type 0
Covers extent es = AllByRecursion (λ e. IsTrue (covers extent e.extent)) es

-- the entries below the branches, one after another
abbrev pub entries_below : List Branch → List Boxed
entries_below [] = []
entries_below (b ∷ bs) = b.node.entries ++ entries_below bs

-- how many levels there are below the branches: those below the first
abbrev pub levels_below : List Branch → ℕ
levels_below [] = 0
levels_below (b ∷ bs) = b.node.levels

-- a leaf of entries, and a node over branches
abbrev pub leaf_of : List Boxed → Subtree
leaf_of es = record { levels = 1; members = length es; entries = es }

abbrev pub inner_of : List Branch → Subtree
inner_of bs = record { levels = levels_below bs + 1; members = length bs; entries = entries_below bs }

-- what is seen of a node with these members
abbrev pub subtree_of : Members → Subtree
subtree_of (Leaf es) = leaf_of es.items
subtree_of (Inner bs) = inner_of bs.items

-- a node with so many levels that may stand below another one
pub record IsFilled (levels : ℕ) (n : Subtree) : Type 0 where
  pub level : n.levels ≡ levels
  pub some : 1 ≤ levels
  pub enough : fewest_members ≤ n.members
  pub enough_below : fewest_members ^ levels ≤ length n.entries
  pub few_below : length n.entries ≤ most_members ^ levels

-- entries enough and few enough for the levels
pub record IsSized (n : Subtree) : Type 0 where
  pub some : 1 ≤ n.levels
  pub enough_below : fewest_members ≤ n.members → fewest_members ^ n.levels ≤ length n.entries
  pub few_below : length n.entries ≤ most_members ^ n.levels

-- a branch with so many levels: its box covers all entries below it, and its key is that of the last
pub record IsBranch (levels : ℕ) (b : Branch) : Type 0 where
  pub filled : IsFilled levels b.node
  pub covered : Covers b.extent b.node.entries
  pub last : IsLast b.last b.node.entries

-- the branches of a node: not too many, and of one level
pub record AreBranches (bs : List Branch) : Type 0 where
  pub enough : 2 ≤ length bs
  pub few : length bs ≤ most_members
  pub branches : AllByRecursion (IsBranch (levels_below bs)) bs
  pub in_order : AreInOrder (entries_below bs)

-- the entries of a leaf: not too many, in order
pub record AreEntries (es : List Boxed) : Type 0 where
  pub few : length es ≤ most_members
  pub in_order : AreInOrder es

abbrev pub IsNode : Members → Type 0
IsNode (Leaf es) = AreEntries es.items
IsNode (Inner bs) = AreBranches bs.items

-- the branch that a key belongs to: the first one that doesn't end before it, or the last
pub record IsPlace (key : Key) (bs : List Branch) (place : ℕ) : Type 0 where
  pub bound : place < length bs
  pub before : AllByRecursion (λ b. IsTrue (comes_before b.last key)) (take place bs)
  pub here : place + 1 < length bs → AllByRecursion (λ b. IsFalse (comes_before b.last key)) (take 1 (drop place bs))

-- the identifiers of the entries whose boxes share a point with the given one
abbrev pub ids_among : Extent → List Boxed → List ℕ
ids_among extent es = map (λ e. e.id) (filter (λ e. extents_meet e.extent extent) es)
