-- Internal: who wants to trust the program need not read this file.
-- What is known of the matrix of two lines, or of a line and an area, where an edge of each crosses one of the other at a point
-- that no other edge of the two has.
use Rattle.std.specs.Prelude.{List, [], ◌∷◌, false, replicate}
use Rattle.sf_crossing.specs.Crossing.{HaveCrossing}
use Rattle.sf_geometry.specs.declared.geometry.Geometry.{Geometry}
use Rattle.sf_geometry.specs.Parts.{edges_of}
use Rattle.sf_known.specs.declared.known.Known.{Known}
use Rattle.sf_known.specs.Known.{Holds, nothing_known}
use Rattle.sf_known.specs.Transposed.{known_transposed}
use Rattle.sf_plane.specs.declared.dim.Dim.{Dim}
use Rattle.sf_plane.specs.declared.dim.Dim.TheVariants.{Nothing, One, Two, Zero}
use Rattle.sf_relate.specs.declared.shape.Shape.{Shape}
use Rattle.sf_relate.specs.declared.shape.Shape.TheVariants.{Areas, Lines}
use Rattle.sf_relate.specs.Matrices.{matrix_of}
use Rattle.sf_relate.specs.Places.{shape_of}
use Rattle.sf_valid_rules.specs.Validity.{IsValid}

-- each entry has at least this
abbrev pub at_least : List Dim → Known
at_least entries = record { least = entries; most = replicate 9 Two; contact = false }

-- the interiors of two lines share the point, and a piece of each line is outside of the other one
abbrev pub known_of_lines : Known
known_of_lines = at_least (Zero ∷ Nothing ∷ One ∷ Nothing ∷ Nothing ∷ Nothing ∷ One ∷ Nothing ∷ Two ∷ [])

-- a piece of the line is inside of the area and one outside, the border has the point, and a piece of the border is off the line
abbrev pub known_of_line_and_area : Known
known_of_line_and_area = at_least (One ∷ Zero ∷ One ∷ Nothing ∷ Nothing ∷ Nothing ∷ Two ∷ One ∷ Two ∷ [])

-- by what the two geometries are made of
abbrev pub known_of_crossed : Shape → Shape → Known
known_of_crossed Lines Lines = known_of_lines
known_of_crossed Lines Areas = known_of_line_and_area
known_of_crossed Areas Lines = known_transposed known_of_line_and_area
known_of_crossed _ _ = nothing_known

-- that holds of valid geometries of which edges cross so
abbrev pub CrossingShows : Type 0
CrossingShows =
    (a b : Geometry) → IsValid a → IsValid b → HaveCrossing (edges_of a) (edges_of b) → Holds (known_of_crossed (shape_of a) (shape_of b)) (matrix_of a b)
