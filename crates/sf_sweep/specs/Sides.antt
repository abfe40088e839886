-- Internal: who wants to trust the program need not read this file.
-- On which side of edges a point lies.
use Rattle.std.specs.Prelude.{Bool}
use Rattle.std.specs.Ordering.{is_le, is_lt}
use Rattle.sf_grid.specs.Plane.{Point}
use Rattle.sf_strips.specs.declared.active.Active.{Active}
use Rattle.sf_strips.specs.Slanted.{side_of}

-- p is below the edge
abbrev pub is_below_edge : Point → Active → Bool
is_below_edge p a = is_lt (side_of a.edge.left a.edge.right p)

-- p isn't above the edge
abbrev pub is_not_above : Point → Active → Bool
is_not_above p a = is_le (side_of a.edge.left a.edge.right p)
