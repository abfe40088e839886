-- Internal: who wants to trust the program need not read this file.
-- Edges that run from left to right: on which side of them points lie, how steep they are, and where they meet.
use Rattle.std.specs.Prelude.{◌≡◌, Bool, true, false, ◌&&◌, IsTrue, pos, ◌-ℤ◌, ◌*ℤ◌, int_le, int_lt, refl}
use Rattle.std.specs.Ordering.{int_cmp}
use Rattle.std.specs.declared.cmp.Ordering.{Ordering}
use Rattle.sf_grid.specs.declared.meet.Meet.TheVariants.{Along, At}
use Rattle.sf_grid.specs.Fraction.{Fraction, fraction_cmp, fraction_lt}
use Rattle.sf_grid.specs.Plane.{Coordinates, IsPoint, Point, x_of, y_of}
use Rattle.sf_grid.specs.Edge.{Edge, height_rightward, left_end, right_end}
use Rattle.sf_grid.specs.Sharing.{IsOnBoth, IsSharing}

-- u is in a column left of v's
abbrev pub IsRightward : Coordinates → Coordinates → Type 0
IsRightward u v = IsTrue (int_lt u.x v.x)

-- an edge that isn't vertical, from its left end to its right end
pub record RightwardEdge : Type 0 where
  pub left : Coordinates
  pub right : Coordinates
  pub rightward : IsRightward left right

-- the edge from u to v where u is left of v; else one that nothing asks for
abbrev pub rightward_by : (u v : Coordinates) (b : Bool) → int_lt u.x v.x ≡ b → RightwardEdge
rightward_by u v true h = record { left = u; right = v; rightward = h }
rightward_by u v false h = record { left = record { x = pos 0; y = pos 0 }; right = record { x = pos 1; y = pos 0 }; rightward = refl }

-- an edge that isn't vertical, from its left end to its right end
abbrev pub rightward_edge : Edge → RightwardEdge
rightward_edge e = rightward_by (left_end e) (right_end e) (int_lt (left_end e).x (right_end e).x) refl

-- the order of p's y and the height, in p's column, of the line from u to v
abbrev pub side_of : Coordinates → Coordinates → Point → Ordering
side_of u v p = fraction_cmp (y_of p) (height_rightward u v (x_of p))

-- the order of the slopes of two lines that run to the right
abbrev pub slope_order : Coordinates → Coordinates → Coordinates → Coordinates → Ordering
slope_order u v s t = int_cmp ((v.y -ℤ u.y) *ℤ (t.x -ℤ s.x)) ((t.y -ℤ s.y) *ℤ (v.x -ℤ u.x))

-- p is the only point that both edges have, and it is right of the column x
pub record IsMeetingAfter (e f : Edge) (x : Fraction) (p : Point) : Type 0 where
  pub only : IsSharing e f (At p)
  pub after : IsTrue (fraction_lt x (x_of p))

-- the edges share a piece of one line
pub record IsOneLine (e f : Edge) : Type 0 where
  pub start : Coordinates
  pub end : Coordinates
  pub shared : IsSharing e f (Along start end)

-- no point right of the column x is on both edges
abbrev pub ShareNoneAfter : Edge → Edge → Fraction → Type 0
ShareNoneAfter e f x = (p : Point) → IsPoint p → IsOnBoth e f p → ¬ (IsTrue (fraction_lt x (x_of p)))

-- the edge goes on to the right of the column x, where it has a point in x or right from it
abbrev pub goes_on : Edge → Fraction → Bool
goes_on e x = int_le ((left_end e).x *ℤ pos x.den) x.num && int_lt x.num ((right_end e).x *ℤ pos x.den)
