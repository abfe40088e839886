-- Internal: who wants to trust the program need not read this file.
-- Several lines together: where one of them meets itself, or two of them meet.
use Rattle.std.specs.Prelude.{Bool, ◌||◌, List}
use Rattle.std.specs.List.{list_any}
use Rattle.sf_grid.specs.Plane.{Coordinates, Point}
use Rattle.sf_valid_rules.specs.Shapes.{meets_itself, on_two_lines}

-- one of the lines meets itself at p, or two of them meet there that don't both end there
abbrev pub are_tangled : List (List Coordinates) → Point → Bool
are_tangled lines p = list_any (λ ps. meets_itself ps p) lines || on_two_lines lines p
