-- Internal: who wants to trust the program need not read this file.
-- How a walk over the pieces of lines counts their strands.
use Rattle.std.specs.Prelude.{Bool, List, ◌++◌, map, slice_index}
use Rattle.std.specs.List.{flat_map}
use Rattle.sf_grid.specs.Plane.{Coordinates}
use Rattle.sf_strips.specs.declared.piece.Piece.TheVariants.{Dot}
use Rattle.sf_cells.specs.Groups.{Item}
use Rattle.sf_geometry.specs.Lists.{edges_of, ends_of}
use Rattle.sf_pieces.specs.Marked.{Marked, marked, piece_of}
use Rattle.sf_strands.specs.Strands.{is_tangled_by, joints_of}

-- the edges of a line in group 0, its joints in group 1, its ends in group 2
abbrev pub strands_of : List Coordinates → List Marked
strands_of ps =
    marked 0 (map piece_of (edges_of ps)) ++ marked 1 (map Dot (joints_of ps)) ++ marked 2 (map Dot (ends_of ps))

-- those of several lines, one after another
abbrev pub strands_of_lines : List (List Coordinates) → List Marked
strands_of_lines lines = flat_map strands_of lines

-- two strands are on a cell, not all of them ends
abbrev pub is_tangled : Item → Bool
is_tangled item = is_tangled_by (slice_index item.on 0) (slice_index item.on 1) (slice_index item.on 2)
