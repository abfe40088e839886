-- Internal: who wants to trust the program need not read this file.
-- Boxes over edges that stand one after another. What is below a node stands right before it, so each front of the list is
-- the tree of the first edges.
use Rattle.std.specs.Prelude.{◌≡◌, ℕ, ◌<◌, ◌≤◌, List, [], ◌∷◌, ◌++◌, length, take, IsTrue}
use Rattle.std.specs.List.{fold}
use Rattle.sf_grid.specs.Plane.{Coordinates}
use Rattle.sf_edge_tree.specs.declared.node.Node.{Node}
use Rattle.sf_edge_tree.specs.Boxes.{covers, extent_at_edge}

-- the number of the edge behind the last one of some nodes
abbrev pub end_of : List Node → ℕ
end_of nodes = fold (λ end node. node.end) 0 nodes

-- a node with these before it: its box has the boxes of its edges; a run has no node below it
pub record IsNode (edges : List (Coordinates × Coordinates)) (before : List Node) (node : Node) : Type 0 where
  pub begin_in : node.begin ≤ length before
  pub starts : node.start ≡ end_of (take node.begin before)
  pub in_order : node.start ≤ node.end
  pub end_in : node.end ≤ length edges
  pub inner : node.begin < length before → node.end ≡ end_of before
  pub covering : (i : ℕ) → node.start ≤ i → i < node.end → IsTrue (covers node.extent (extent_at_edge edges i))

-- nodes behind others
abbrev pub AreNodesBehind : List (Coordinates × Coordinates) → List Node → List Node → Type 0
AreNodesBehind edges before [] = Unit {0}
AreNodesBehind edges before (node ∷ nodes) = IsNode edges before node × AreNodesBehind edges (before ++ node ∷ []) nodes

-- the nodes of the first edges
abbrev pub AreNodes : List (Coordinates × Coordinates) → List Node → Type 0
AreNodes edges nodes = AreNodesBehind edges [] nodes

-- the nodes of all edges
pub record IsTree (edges : List (Coordinates × Coordinates)) (nodes : List Node) : Type 0 where
  pub are_nodes : AreNodes edges nodes
  pub all : end_of nodes ≡ length edges

-- a run of edges behind so many nodes
pub record IsRun (edges : List (Coordinates × Coordinates)) (start begin : ℕ) (run : Node) : Type 0 where
  pub begins : run.begin ≡ begin
  pub starts : run.start ≡ start
  pub in_order : start < run.end
  pub end_in : run.end ≤ length edges
  pub covering : (i : ℕ) → start ≤ i → i < run.end → IsTrue (covers run.extent (extent_at_edge edges i))

-- a node over the last ones of some nodes
pub record IsOver (edges : List (Coordinates × Coordinates)) (nodes : List Node) (node : Node) : Type 0 where
  pub is_node : IsNode edges nodes node
  pub ends : node.end ≡ end_of nodes

-- a node has the boxes of its edges
pub record HasBoxes (edges : List (Coordinates × Coordinates)) (node : Node) : Type 0 where
  pub in_order : node.start ≤ node.end
  pub end_in : node.end ≤ length edges
  pub covering : (i : ℕ) → node.start ≤ i → i < node.end → IsTrue (covers node.extent (extent_at_edge edges i))
