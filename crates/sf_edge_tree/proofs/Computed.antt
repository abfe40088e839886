-- The definitions at small values.
use Rattle.std.specs.Prelude.{◌≡◌, ℕ, List, [], ◌∷◌, pos, refl, true, false}
use Rattle.sf_grid.specs.Plane.{Coordinates}
use Rattle.sf_geometry.specs.declared.extent.Extent.{Extent}
use Rattle.sf_edge_tree.specs.declared.node.Node.{Node}
use Rattle.sf_edge_tree.specs.Boxes.{covers, extent_at_edge, joined}
use Rattle.sf_edge_tree.specs.Nodes.{end_of}

box : ℕ → ℕ → ℕ → ℕ → Extent
box a b c d = record { min_x = pos a; min_y = pos b; max_x = pos c; max_y = pos d }

at : ℕ → ℕ → Coordinates
at x y = record { x = pos x; y = pos y }

-- the second of two edges, which leads to the left
edges : List (Coordinates × Coordinates)
edges = (at 0 0, at 4 1) ∷ (at 4 1, at 2 7) ∷ []

second_box : extent_at_edge edges 1 ≡ box 2 1 4 7
unfolding box at edges
second_box = refl

both : joined (extent_at_edge edges 0) (extent_at_edge edges 1) ≡ box 0 0 4 7
unfolding box at edges
both = refl

inside : covers (box 0 0 4 7) (box 2 1 4 7) ≡ true
unfolding box
inside = refl

outside : covers (box 0 0 4 7) (box 2 1 5 7) ≡ false
unfolding box
outside = refl

node : ℕ → Node
node end = record { extent = box 0 0 1 1; begin = 0; start = 0; end = end; height = 0 }

no_end : end_of [] ≡ 0
no_end = refl

last_end : end_of (node 8 ∷ node 16 ∷ node 20 ∷ []) ≡ 20
unfolding node
last_end = refl
