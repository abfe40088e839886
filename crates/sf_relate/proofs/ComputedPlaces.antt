-- The same matrices from the cells as they are handed out with their counts by group.
use Rattle.std.specs.Prelude.{◌≡◌, ℕ, ℤ, pos, negsuc, List, [], ◌∷◌, map, codes, refl, fold}
use Rattle.sf_grid.specs.Plane.{Coordinates}
use Rattle.sf_cells.specs.Groups.{Item}
use Rattle.sf_geometry.specs.declared.geometry.Geometry.{Geometry}
use Rattle.sf_geometry.specs.declared.geometry.Geometry.TheVariants.{Point, LineString, Polygon, MultiPoint, MultiLineString, MultiPolygon}
use Rattle.sf_known.specs.Entries.{character_of}
use Rattle.sf_pieces.specs.Marked.{items_of}
use Rattle.sf_relate.specs.AllPieces.{all_grouped}
use Rattle.sf_known.specs.Known.{no_entries}
use Rattle.sf_relate.specs.Places.{shape_of, with_item}

at : ℤ → ℤ → Coordinates
at x y = record { x = x; y = y }

items : Geometry → Geometry → List Item
items a b = items_of (all_grouped a b)

text : Geometry → Geometry → List ℕ
text a b = map character_of (fold (with_item (shape_of a) (shape_of b)) no_entries (items a b))

squares_that_overlap : text (Polygon ((at (pos 0) (pos 0) ∷ at (pos 10) (pos 0) ∷ at (pos 10) (pos 10) ∷ at (pos 0) (pos 10) ∷ at (pos 0) (pos 0) ∷ []) ∷ []))
    (Polygon ((at (pos 5) (pos 5) ∷ at (pos 15) (pos 5) ∷ at (pos 15) (pos 15) ∷ at (pos 5) (pos 15) ∷ at (pos 5) (pos 5) ∷ []) ∷ [])) ≡ codes "212101212"
unfolding text items at
squares_that_overlap = refl

squares_side_by_side : text (Polygon ((at (pos 0) (pos 0) ∷ at (pos 10) (pos 0) ∷ at (pos 10) (pos 10) ∷ at (pos 0) (pos 10) ∷ at (pos 0) (pos 0) ∷ []) ∷ []))
    (Polygon ((at (pos 10) (pos 0) ∷ at (pos 20) (pos 0) ∷ at (pos 20) (pos 10) ∷ at (pos 10) (pos 10) ∷ at (pos 10) (pos 0) ∷ []) ∷ [])) ≡ codes "FF2F11212"
unfolding text items at
squares_side_by_side = refl

line_across_square : text (LineString (at (negsuc 4) (pos 5) ∷ at (pos 15) (pos 5) ∷ []))
    (Polygon ((at (pos 0) (pos 0) ∷ at (pos 10) (pos 0) ∷ at (pos 10) (pos 10) ∷ at (pos 0) (pos 10) ∷ at (pos 0) (pos 0) ∷ []) ∷ [])) ≡ codes "101FF0212"
unfolding text items at
line_across_square = refl

crossing_off_the_grid : text (LineString (at (pos 0) (pos 0) ∷ at (pos 2) (pos 1) ∷ []))
    (LineString (at (pos 0) (pos 1) ∷ at (pos 1) (pos 0) ∷ [])) ≡ codes "0F1FF0102"
unfolding text items at
crossing_off_the_grid = refl

same_line_backwards : text (LineString (at (pos 0) (pos 0) ∷ at (pos 4) (pos 4) ∷ []))
    (LineString (at (pos 4) (pos 4) ∷ at (pos 2) (pos 2) ∷ at (pos 0) (pos 0) ∷ [])) ≡ codes "1FFF0FFF2"
unfolding text items at
same_line_backwards = refl

mod2_boundary : text (Point (at (pos 5) (pos 5)))
    (MultiLineString ((at (pos 0) (pos 0) ∷ at (pos 5) (pos 5) ∷ []) ∷ (at (pos 5) (pos 5) ∷ at (pos 10) (pos 0) ∷ []) ∷ [])) ≡ codes "0FFFFF102"
unfolding text items at
mod2_boundary = refl

mod2_boundary_of_three : text (Point (at (pos 5) (pos 5)))
    (MultiLineString ((at (pos 0) (pos 0) ∷ at (pos 5) (pos 5) ∷ []) ∷ (at (pos 5) (pos 5) ∷ at (pos 10) (pos 0) ∷ []) ∷ (at (pos 5) (pos 5) ∷ at (pos 5) (pos 10) ∷ []) ∷ [])) ≡ codes "F0FFFF102"
unfolding text items at
mod2_boundary_of_three = refl

closed_line_has_no_boundary : text (Point (at (pos 0) (pos 0)))
    (LineString (at (pos 0) (pos 0) ∷ at (pos 10) (pos 0) ∷ at (pos 10) (pos 10) ∷ at (pos 0) (pos 0) ∷ [])) ≡ codes "0FFFFF1F2"
unfolding text items at
closed_line_has_no_boundary = refl

hole_filled_by_polygon : text (Polygon ((at (pos 0) (pos 0) ∷ at (pos 30) (pos 0) ∷ at (pos 30) (pos 30) ∷ at (pos 0) (pos 30) ∷ at (pos 0) (pos 0) ∷ []) ∷ (at (pos 10) (pos 10) ∷ at (pos 20) (pos 10) ∷ at (pos 20) (pos 20) ∷ at (pos 10) (pos 20) ∷ at (pos 10) (pos 10) ∷ []) ∷ []))
    (Polygon ((at (pos 10) (pos 10) ∷ at (pos 20) (pos 10) ∷ at (pos 20) (pos 20) ∷ at (pos 10) (pos 20) ∷ at (pos 10) (pos 10) ∷ []) ∷ [])) ≡ codes "FF2F112F2"
unfolding text items at
hole_filled_by_polygon = refl

point_in_square : text (Point (at (pos 22) (pos 22)))
    (Polygon ((at (pos 20) (pos 20) ∷ at (pos 25) (pos 20) ∷ at (pos 25) (pos 25) ∷ at (pos 20) (pos 25) ∷ at (pos 20) (pos 20) ∷ []) ∷ [])) ≡ codes "0FFFFF212"
unfolding text items at
point_in_square = refl

far_line_misses_point : text (Point (at (pos 0) (pos 0)))
    (LineString (at (negsuc 1073741823) (negsuc 1073741823) ∷ at (pos 1073741823) (pos 1073741822) ∷ [])) ≡ codes "FF0FFF102"
unfolding text items at
far_line_misses_point = refl

squares_that_touch_at_a_corner : text (Polygon ((at (pos 0) (pos 0) ∷ at (pos 10) (pos 0) ∷ at (pos 10) (pos 10) ∷ at (pos 0) (pos 10) ∷ at (pos 0) (pos 0) ∷ []) ∷ []))
    (Polygon ((at (pos 10) (pos 10) ∷ at (pos 20) (pos 10) ∷ at (pos 20) (pos 20) ∷ at (pos 10) (pos 20) ∷ at (pos 10) (pos 10) ∷ []) ∷ [])) ≡ codes "FF2F01212"
unfolding text items at
squares_that_touch_at_a_corner = refl

square_in_square : text (Polygon ((at (pos 2) (pos 2) ∷ at (pos 4) (pos 2) ∷ at (pos 4) (pos 4) ∷ at (pos 2) (pos 4) ∷ at (pos 2) (pos 2) ∷ []) ∷ []))
    (Polygon ((at (pos 0) (pos 0) ∷ at (pos 10) (pos 0) ∷ at (pos 10) (pos 10) ∷ at (pos 0) (pos 10) ∷ at (pos 0) (pos 0) ∷ []) ∷ [])) ≡ codes "2FF1FF212"
unfolding text items at
square_in_square = refl

square_equals_itself : text (Polygon ((at (pos 0) (pos 0) ∷ at (pos 10) (pos 0) ∷ at (pos 10) (pos 10) ∷ at (pos 0) (pos 10) ∷ at (pos 0) (pos 0) ∷ []) ∷ []))
    (Polygon ((at (pos 10) (pos 10) ∷ at (pos 0) (pos 10) ∷ at (pos 0) (pos 0) ∷ at (pos 10) (pos 0) ∷ at (pos 10) (pos 5) ∷ at (pos 10) (pos 10) ∷ []) ∷ [])) ≡ codes "2FFF1FFF2"
unfolding text items at
square_equals_itself = refl

point_in_hole : text (Point (at (pos 15) (pos 15)))
    (Polygon ((at (pos 0) (pos 0) ∷ at (pos 30) (pos 0) ∷ at (pos 30) (pos 30) ∷ at (pos 0) (pos 30) ∷ at (pos 0) (pos 0) ∷ []) ∷ (at (pos 10) (pos 10) ∷ at (pos 20) (pos 10) ∷ at (pos 20) (pos 20) ∷ at (pos 10) (pos 20) ∷ at (pos 10) (pos 10) ∷ []) ∷ [])) ≡ codes "FF0FFF212"
unfolding text items at
point_in_hole = refl

point_on_hole_edge : text (Point (at (pos 10) (pos 15)))
    (Polygon ((at (pos 0) (pos 0) ∷ at (pos 30) (pos 0) ∷ at (pos 30) (pos 30) ∷ at (pos 0) (pos 30) ∷ at (pos 0) (pos 0) ∷ []) ∷ (at (pos 10) (pos 10) ∷ at (pos 20) (pos 10) ∷ at (pos 20) (pos 20) ∷ at (pos 10) (pos 20) ∷ at (pos 10) (pos 10) ∷ []) ∷ [])) ≡ codes "F0FFFF212"
unfolding text items at
point_on_hole_edge = refl

line_along_hole_edge : text (LineString (at (pos 10) (pos 12) ∷ at (pos 10) (pos 18) ∷ []))
    (Polygon ((at (pos 0) (pos 0) ∷ at (pos 30) (pos 0) ∷ at (pos 30) (pos 30) ∷ at (pos 0) (pos 30) ∷ at (pos 0) (pos 0) ∷ []) ∷ (at (pos 10) (pos 10) ∷ at (pos 20) (pos 10) ∷ at (pos 20) (pos 20) ∷ at (pos 10) (pos 20) ∷ at (pos 10) (pos 10) ∷ []) ∷ [])) ≡ codes "F1FF0F212"
unfolding text items at
line_along_hole_edge = refl

line_from_hole_to_shell : text (LineString (at (pos 15) (pos 15) ∷ at (pos 0) (pos 15) ∷ []))
    (Polygon ((at (pos 0) (pos 0) ∷ at (pos 30) (pos 0) ∷ at (pos 30) (pos 30) ∷ at (pos 0) (pos 30) ∷ at (pos 0) (pos 0) ∷ []) ∷ (at (pos 10) (pos 10) ∷ at (pos 20) (pos 10) ∷ at (pos 20) (pos 20) ∷ at (pos 10) (pos 20) ∷ at (pos 10) (pos 10) ∷ []) ∷ [])) ≡ codes "101F00212"
unfolding text items at
line_from_hole_to_shell = refl

island_in_hole : text (MultiPolygon (((at (pos 0) (pos 0) ∷ at (pos 30) (pos 0) ∷ at (pos 30) (pos 30) ∷ at (pos 0) (pos 30) ∷ at (pos 0) (pos 0) ∷ []) ∷ (at (pos 5) (pos 5) ∷ at (pos 25) (pos 5) ∷ at (pos 25) (pos 25) ∷ at (pos 5) (pos 25) ∷ at (pos 5) (pos 5) ∷ []) ∷ []) ∷ ((at (pos 10) (pos 10) ∷ at (pos 20) (pos 10) ∷ at (pos 20) (pos 20) ∷ at (pos 10) (pos 20) ∷ at (pos 10) (pos 10) ∷ []) ∷ []) ∷ []))
    (Point (at (pos 15) (pos 15))) ≡ codes "0F2FF1FF2"
unfolding text items at
island_in_hole = refl

doubled_line_has_no_boundary : text (MultiLineString ((at (pos 0) (pos 0) ∷ at (pos 4) (pos 0) ∷ []) ∷ (at (pos 4) (pos 0) ∷ at (pos 0) (pos 0) ∷ []) ∷ []))
    (Point (at (pos 4) (pos 0))) ≡ codes "0F1FFFFF2"
unfolding text items at
doubled_line_has_no_boundary = refl

points_twice : text (MultiPoint (at (pos 1) (pos 1) ∷ at (pos 1) (pos 1) ∷ []))
    (Point (at (pos 1) (pos 1))) ≡ codes "0FFFFFFF2"
unfolding text items at
points_twice = refl

points_and_point : text (MultiPoint (at (pos 1) (pos 1) ∷ at (pos 2) (pos 2) ∷ []))
    (Point (at (pos 1) (pos 1))) ≡ codes "0F0FFFFF2"
unfolding text items at
points_and_point = refl

line_touches_line_in_mid_course : text (LineString (at (pos 0) (pos 0) ∷ at (pos 4) (pos 0) ∷ []))
    (LineString (at (pos 2) (pos 0) ∷ at (pos 2) (pos 3) ∷ [])) ≡ codes "F01FF0102"
unfolding text items at
line_touches_line_in_mid_course = refl

line_through_its_own_end : text (LineString (at (pos 0) (pos 0) ∷ at (pos 4) (pos 0) ∷ at (pos 4) (pos 4) ∷ at (pos 2) (pos 4) ∷ at (pos 2) (negsuc 1) ∷ []))
    (Point (at (pos 2) (pos 0))) ≡ codes "0F1FF0FF2"
unfolding text items at
line_through_its_own_end = refl

polygons_of_two_touching_parts : text (MultiPolygon (((at (pos 0) (pos 0) ∷ at (pos 10) (pos 0) ∷ at (pos 10) (pos 10) ∷ at (pos 0) (pos 10) ∷ at (pos 0) (pos 0) ∷ []) ∷ []) ∷ ((at (pos 10) (pos 10) ∷ at (pos 20) (pos 10) ∷ at (pos 20) (pos 20) ∷ at (pos 10) (pos 20) ∷ at (pos 10) (pos 10) ∷ []) ∷ []) ∷ []))
    (Point (at (pos 10) (pos 10))) ≡ codes "FF20F1FF2"
unfolding text items at
polygons_of_two_touching_parts = refl
