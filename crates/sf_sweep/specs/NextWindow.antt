-- Internal: who wants to trust the program need not read this file.
-- The next window of a column: a point at which edges meet, or vertices, whichever comes first from the top.
use Rattle.std.specs.Prelude.{ℕ, ◌-◌, Bool, true, false, ◌&&◌, List, [], ◌∷◌, Option, None, Some, length, take, slice_index_or, if◌then◌else◌}
use Rattle.std.specs.List.{list_any}
use Rattle.sf_grid.specs.Fraction.{Fraction, fraction_eq}
use Rattle.sf_grid.specs.Plane.{Point, grid_point, x_of}
use Rattle.sf_strips.specs.declared.vertex.Role.{Role}
use Rattle.sf_strips.specs.declared.vertex.Role.TheVariants.{Begin, Bottom, Dot, End, Top}
use Rattle.sf_strips.specs.declared.vertex.Vertex.{Vertex}
use Rattle.sf_strips.specs.Levels.{group_length}
use Rattle.sf_sweep.specs.declared.window.Window.{Window}
use Rattle.sf_sweep.specs.Tables.{point_before}

-- an upright edge begins there
abbrev pub is_top : Role → Bool
is_top (Begin e) = false
is_top End = false
is_top Top = true
is_top Bottom = false
is_top Dot = false

-- how many of the vertices left in a column the next window has: those at the first one's place; all, where an upright edge begins there
abbrev pub window_length : List Vertex → ℕ
window_length vs = if list_any (λ v. is_top v.role) (take (group_length vs) vs) then length vs else group_length vs

-- the window of the first vertices
abbrev pub vertex_window : List Vertex → Option Window
vertex_window [] = None
vertex_window (v ∷ vs) =
    Some (record {
      top = grid_point v.at;
      bottom = grid_point (slice_index_or (v ∷ vs) (window_length (v ∷ vs) - 1) v).at;
      vertices = window_length (v ∷ vs);
    })

-- a point comes before all vertices that are left
abbrev pub precedes : Point → List Vertex → Bool
precedes p [] = true
precedes p (v ∷ vs) = point_before p (grid_point v.at)

abbrev pub crossing_window : Point → Window
crossing_window p = record { top = p; bottom = p; vertices = 0 }

-- the first point at which edges meet is given
abbrev pub next_window_of : Option Point → Fraction → List Vertex → Option Window
next_window_of None x vs = vertex_window vs
next_window_of (Some p) x vs = if fraction_eq (x_of p) x && precedes p vs then Some (crossing_window p) else vertex_window vs
