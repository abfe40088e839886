-- Validity, computed at small geometries.
use Rattle.std.proofs.Common.{◌≡◌, [], ◌∷◌, refl, ℤ, pos, negsuc, Some, None}
use Rattle.sf_grid.specs.Plane.{Coordinates}
use Rattle.sf_geometry.specs.declared.geometry.Geometry.TheVariants.{LineString, Polygon, MultiPoint, MultiLineString, MultiPolygon}
use Rattle.sf_valid_rules.specs.declared.fault.Fault.TheVariants.{ShortLine, OpenRing, ShortRing, RingNotSimple, RingsMeet, HoleOutside, HolesNested, PolygonsOverlap}
use Rattle.sf_valid_rules.specs.Verdicts.{first_fault}

abbrev at : ℤ → ℤ → Coordinates
at x y = record { x = x; y = y }

bow_tie : first_fault (Polygon (((at (pos 0) (pos 0)) ∷ (at (pos 10) (pos 10)) ∷ (at (pos 10) (pos 0)) ∷ (at (pos 0) (pos 10)) ∷ (at (pos 0) (pos 0)) ∷ []) ∷ [])) ≡ Some RingNotSimple
bow_tie = refl

open_ring : first_fault (Polygon (((at (pos 0) (pos 0)) ∷ (at (pos 10) (pos 0)) ∷ (at (pos 10) (pos 10)) ∷ (at (pos 0) (pos 10)) ∷ []) ∷ [])) ≡ Some OpenRing
open_ring = refl

short_ring : first_fault (Polygon (((at (pos 0) (pos 0)) ∷ (at (pos 0) (pos 0)) ∷ (at (pos 10) (pos 0)) ∷ (at (pos 0) (pos 0)) ∷ []) ∷ [])) ≡ Some ShortRing
short_ring = refl

hole_along_shell : first_fault (Polygon (((at (pos 0) (pos 0)) ∷ (at (pos 30) (pos 0)) ∷ (at (pos 30) (pos 30)) ∷ (at (pos 0) (pos 30)) ∷ (at (pos 0) (pos 0)) ∷ []) ∷ ((at (pos 0) (pos 10)) ∷ (at (pos 10) (pos 10)) ∷ (at (pos 0) (pos 20)) ∷ (at (pos 0) (pos 10)) ∷ []) ∷ [])) ≡ Some RingsMeet
hole_along_shell = refl

hole_beside_shell : first_fault (Polygon (((at (pos 0) (pos 0)) ∷ (at (pos 10) (pos 0)) ∷ (at (pos 10) (pos 10)) ∷ (at (pos 0) (pos 10)) ∷ (at (pos 0) (pos 0)) ∷ []) ∷ ((at (pos 20) (pos 20)) ∷ (at (pos 25) (pos 20)) ∷ (at (pos 25) (pos 25)) ∷ (at (pos 20) (pos 20)) ∷ []) ∷ [])) ≡ Some HoleOutside
hole_beside_shell = refl

hole_in_hole : first_fault (Polygon (((at (pos 0) (pos 0)) ∷ (at (pos 30) (pos 0)) ∷ (at (pos 30) (pos 30)) ∷ (at (pos 0) (pos 30)) ∷ (at (pos 0) (pos 0)) ∷ []) ∷ ((at (pos 5) (pos 5)) ∷ (at (pos 25) (pos 5)) ∷ (at (pos 25) (pos 25)) ∷ (at (pos 5) (pos 25)) ∷ (at (pos 5) (pos 5)) ∷ []) ∷ ((at (pos 10) (pos 10)) ∷ (at (pos 20) (pos 10)) ∷ (at (pos 20) (pos 20)) ∷ (at (pos 10) (pos 10)) ∷ []) ∷ [])) ≡ Some HolesNested
hole_in_hole = refl

polygon_in_polygon : first_fault (MultiPolygon ((((at (pos 0) (pos 0)) ∷ (at (pos 10) (pos 0)) ∷ (at (pos 10) (pos 10)) ∷ (at (pos 0) (pos 10)) ∷ (at (pos 0) (pos 0)) ∷ []) ∷ []) ∷ (((at (pos 2) (pos 2)) ∷ (at (pos 4) (pos 2)) ∷ (at (pos 4) (pos 4)) ∷ (at (pos 2) (pos 2)) ∷ []) ∷ []) ∷ [])) ≡ Some PolygonsOverlap
polygon_in_polygon = refl

island : first_fault (MultiPolygon ((((at (pos 0) (pos 0)) ∷ (at (pos 30) (pos 0)) ∷ (at (pos 30) (pos 30)) ∷ (at (pos 0) (pos 30)) ∷ (at (pos 0) (pos 0)) ∷ []) ∷ ((at (pos 5) (pos 5)) ∷ (at (pos 25) (pos 5)) ∷ (at (pos 25) (pos 25)) ∷ (at (pos 5) (pos 25)) ∷ (at (pos 5) (pos 5)) ∷ []) ∷ []) ∷ (((at (pos 10) (pos 10)) ∷ (at (pos 20) (pos 10)) ∷ (at (pos 20) (pos 20)) ∷ (at (pos 10) (pos 20)) ∷ (at (pos 10) (pos 10)) ∷ []) ∷ []) ∷ [])) ≡ None
island = refl

line_of_one_point : first_fault (LineString ((at (pos 1) (pos 1)) ∷ (at (pos 1) (pos 1)) ∷ [])) ≡ Some ShortLine
line_of_one_point = refl

line_with_repeat : first_fault (LineString ((at (pos 0) (pos 0)) ∷ (at (pos 0) (pos 0)) ∷ (at (pos 5) (pos 5)) ∷ [])) ≡ None
line_with_repeat = refl

equal_points : first_fault (MultiPoint ((at (pos 1) (pos 1)) ∷ (at (pos 1) (pos 1)) ∷ [])) ≡ None
equal_points = refl

closed_line_through_end : first_fault (LineString ((at (pos 0) (pos 0)) ∷ (at (pos 10) (pos 0)) ∷ (at (pos 10) (pos 10)) ∷ (at (pos 0) (pos 0)) ∷ (at (negsuc 9) (pos 0)) ∷ (at (negsuc 9) (negsuc 9)) ∷ (at (pos 0) (pos 0)) ∷ [])) ≡ None
closed_line_through_end = refl

island_fills_hole : first_fault (MultiPolygon ((((at (pos 0) (pos 0)) ∷ (at (pos 30) (pos 0)) ∷ (at (pos 30) (pos 30)) ∷ (at (pos 0) (pos 30)) ∷ (at (pos 0) (pos 0)) ∷ []) ∷ ((at (pos 10) (pos 10)) ∷ (at (pos 20) (pos 10)) ∷ (at (pos 20) (pos 20)) ∷ (at (pos 10) (pos 20)) ∷ (at (pos 10) (pos 10)) ∷ []) ∷ []) ∷ (((at (pos 10) (pos 10)) ∷ (at (pos 20) (pos 10)) ∷ (at (pos 20) (pos 20)) ∷ (at (pos 10) (pos 20)) ∷ (at (pos 10) (pos 10)) ∷ []) ∷ []) ∷ [])) ≡ Some RingsMeet
island_fills_hole = refl

hole_touches_shell : first_fault (Polygon (((at (pos 0) (pos 0)) ∷ (at (pos 30) (pos 0)) ∷ (at (pos 30) (pos 30)) ∷ (at (pos 0) (pos 30)) ∷ (at (pos 0) (pos 0)) ∷ []) ∷ ((at (pos 0) (pos 10)) ∷ (at (pos 10) (pos 10)) ∷ (at (pos 10) (pos 20)) ∷ (at (pos 0) (pos 10)) ∷ []) ∷ [])) ≡ None
hole_touches_shell = refl

polygons_touch : first_fault (MultiPolygon ((((at (pos 0) (pos 0)) ∷ (at (pos 10) (pos 0)) ∷ (at (pos 10) (pos 10)) ∷ (at (pos 0) (pos 10)) ∷ (at (pos 0) (pos 0)) ∷ []) ∷ []) ∷ (((at (pos 10) (pos 10)) ∷ (at (pos 20) (pos 10)) ∷ (at (pos 20) (pos 20)) ∷ (at (pos 10) (pos 10)) ∷ []) ∷ []) ∷ [])) ≡ None
polygons_touch = refl

square : first_fault (Polygon (((at (pos 0) (pos 0)) ∷ (at (pos 10) (pos 0)) ∷ (at (pos 10) (pos 10)) ∷ (at (pos 0) (pos 10)) ∷ (at (pos 0) (pos 0)) ∷ []) ∷ [])) ≡ None
square = refl

square_crossed : first_fault (Polygon (((at (pos 0) (pos 0)) ∷ (at (pos 10) (pos 0)) ∷ (at (pos 5) (negsuc 4)) ∷ (at (pos 0) (pos 10)) ∷ (at (pos 0) (pos 0)) ∷ []) ∷ [])) ≡ Some RingNotSimple
square_crossed = refl

square_first_moved : first_fault (Polygon (((at (negsuc 0) (negsuc 0)) ∷ (at (pos 10) (pos 0)) ∷ (at (pos 10) (pos 10)) ∷ (at (pos 0) (pos 10)) ∷ (at (negsuc 0) (negsuc 0)) ∷ []) ∷ [])) ≡ None
square_first_moved = refl

square_with_fifth : first_fault (Polygon (((at (pos 0) (pos 0)) ∷ (at (pos 10) (pos 0)) ∷ (at (pos 10) (pos 10)) ∷ (at (pos 0) (pos 10)) ∷ (at (pos 0) (pos 5)) ∷ (at (pos 0) (pos 0)) ∷ []) ∷ [])) ≡ None
square_with_fifth = refl

hole_is_shell : first_fault (Polygon (((at (pos 0) (pos 0)) ∷ (at (pos 10) (pos 0)) ∷ (at (pos 10) (pos 10)) ∷ (at (pos 0) (pos 10)) ∷ (at (pos 0) (pos 0)) ∷ []) ∷ ((at (pos 0) (pos 0)) ∷ (at (pos 10) (pos 0)) ∷ (at (pos 10) (pos 10)) ∷ (at (pos 0) (pos 10)) ∷ (at (pos 0) (pos 0)) ∷ []) ∷ [])) ≡ Some RingsMeet
hole_is_shell = refl

holes_equal : first_fault (Polygon (((at (pos 0) (pos 0)) ∷ (at (pos 30) (pos 0)) ∷ (at (pos 30) (pos 30)) ∷ (at (pos 0) (pos 30)) ∷ (at (pos 0) (pos 0)) ∷ []) ∷ ((at (pos 5) (pos 5)) ∷ (at (pos 10) (pos 5)) ∷ (at (pos 5) (pos 10)) ∷ (at (pos 5) (pos 5)) ∷ []) ∷ ((at (pos 5) (pos 5)) ∷ (at (pos 10) (pos 5)) ∷ (at (pos 5) (pos 10)) ∷ (at (pos 5) (pos 5)) ∷ []) ∷ [])) ≡ Some RingsMeet
holes_equal = refl

polygons_equal : first_fault (MultiPolygon ((((at (pos 0) (pos 0)) ∷ (at (pos 10) (pos 0)) ∷ (at (pos 10) (pos 10)) ∷ (at (pos 0) (pos 10)) ∷ (at (pos 0) (pos 0)) ∷ []) ∷ []) ∷ (((at (pos 0) (pos 0)) ∷ (at (pos 10) (pos 0)) ∷ (at (pos 10) (pos 10)) ∷ (at (pos 0) (pos 10)) ∷ (at (pos 0) (pos 0)) ∷ []) ∷ []) ∷ [])) ≡ Some RingsMeet
polygons_equal = refl

polygons_equal_turned : first_fault (MultiPolygon ((((at (pos 0) (pos 0)) ∷ (at (pos 10) (pos 0)) ∷ (at (pos 10) (pos 10)) ∷ (at (pos 0) (pos 10)) ∷ (at (pos 0) (pos 0)) ∷ []) ∷ []) ∷ (((at (pos 10) (pos 10)) ∷ (at (pos 10) (pos 0)) ∷ (at (pos 0) (pos 0)) ∷ (at (pos 0) (pos 10)) ∷ (at (pos 10) (pos 10)) ∷ []) ∷ []) ∷ [])) ≡ Some RingsMeet
polygons_equal_turned = refl

polygons_share_edge : first_fault (MultiPolygon ((((at (pos 0) (pos 0)) ∷ (at (pos 10) (pos 0)) ∷ (at (pos 10) (pos 10)) ∷ (at (pos 0) (pos 10)) ∷ (at (pos 0) (pos 0)) ∷ []) ∷ []) ∷ (((at (pos 10) (pos 0)) ∷ (at (pos 20) (pos 0)) ∷ (at (pos 20) (pos 10)) ∷ (at (pos 10) (pos 10)) ∷ (at (pos 10) (pos 0)) ∷ []) ∷ []) ∷ [])) ≡ Some RingsMeet
polygons_share_edge = refl

polygons_cross : first_fault (MultiPolygon ((((at (pos 0) (pos 0)) ∷ (at (pos 10) (pos 0)) ∷ (at (pos 10) (pos 10)) ∷ (at (pos 0) (pos 10)) ∷ (at (pos 0) (pos 0)) ∷ []) ∷ []) ∷ (((at (pos 5) (pos 5)) ∷ (at (pos 15) (pos 5)) ∷ (at (pos 15) (pos 15)) ∷ (at (pos 5) (pos 15)) ∷ (at (pos 5) (pos 5)) ∷ []) ∷ []) ∷ [])) ≡ Some PolygonsOverlap
polygons_cross = refl

spike : first_fault (Polygon (((at (pos 0) (pos 0)) ∷ (at (pos 10) (pos 0)) ∷ (at (pos 10) (pos 10)) ∷ (at (pos 20) (pos 10)) ∷ (at (pos 10) (pos 10)) ∷ (at (pos 0) (pos 10)) ∷ (at (pos 0) (pos 0)) ∷ []) ∷ [])) ≡ Some RingNotSimple
spike = refl

flat_ring : first_fault (Polygon (((at (pos 0) (pos 0)) ∷ (at (pos 10) (pos 0)) ∷ (at (pos 20) (pos 0)) ∷ (at (pos 0) (pos 0)) ∷ []) ∷ [])) ≡ Some RingNotSimple
flat_ring = refl

ring_touches_itself : first_fault (Polygon (((at (pos 0) (pos 0)) ∷ (at (pos 10) (pos 0)) ∷ (at (pos 5) (pos 5)) ∷ (at (pos 10) (pos 10)) ∷ (at (pos 0) (pos 10)) ∷ (at (pos 5) (pos 5)) ∷ (at (pos 0) (pos 0)) ∷ []) ∷ [])) ≡ Some RingNotSimple
ring_touches_itself = refl

vertex_on_own_edge : first_fault (Polygon (((at (pos 0) (pos 0)) ∷ (at (pos 10) (pos 0)) ∷ (at (pos 10) (pos 10)) ∷ (at (pos 5) (pos 0)) ∷ (at (pos 0) (pos 10)) ∷ (at (pos 0) (pos 0)) ∷ []) ∷ [])) ≡ Some RingNotSimple
vertex_on_own_edge = refl

ring_with_repeats : first_fault (Polygon (((at (pos 0) (pos 0)) ∷ (at (pos 0) (pos 0)) ∷ (at (pos 10) (pos 0)) ∷ (at (pos 10) (pos 10)) ∷ (at (pos 10) (pos 10)) ∷ (at (pos 0) (pos 0)) ∷ (at (pos 0) (pos 0)) ∷ []) ∷ [])) ≡ None
ring_with_repeats = refl

ring_of_two : first_fault (Polygon (((at (pos 0) (pos 0)) ∷ (at (pos 10) (pos 0)) ∷ (at (pos 10) (pos 0)) ∷ (at (pos 0) (pos 0)) ∷ []) ∷ [])) ≡ Some ShortRing
ring_of_two = refl

ring_of_one : first_fault (Polygon (((at (pos 0) (pos 0)) ∷ (at (pos 0) (pos 0)) ∷ []) ∷ [])) ≡ Some ShortRing
ring_of_one = refl

hole_touches_twice : first_fault (Polygon (((at (pos 0) (pos 0)) ∷ (at (pos 30) (pos 0)) ∷ (at (pos 30) (pos 30)) ∷ (at (pos 0) (pos 30)) ∷ (at (pos 0) (pos 0)) ∷ []) ∷ ((at (pos 0) (pos 10)) ∷ (at (pos 10) (pos 0)) ∷ (at (pos 10) (pos 10)) ∷ (at (pos 0) (pos 10)) ∷ []) ∷ [])) ≡ None
hole_touches_twice = refl

hole_touches_one_edge_twice : first_fault (Polygon (((at (pos 0) (pos 0)) ∷ (at (pos 30) (pos 0)) ∷ (at (pos 30) (pos 30)) ∷ (at (pos 0) (pos 30)) ∷ (at (pos 0) (pos 0)) ∷ []) ∷ ((at (pos 5) (pos 0)) ∷ (at (pos 10) (pos 5)) ∷ (at (pos 15) (pos 0)) ∷ (at (pos 10) (pos 10)) ∷ (at (pos 5) (pos 0)) ∷ []) ∷ [])) ≡ None
hole_touches_one_edge_twice = refl

hole_crosses_shell : first_fault (Polygon (((at (pos 0) (pos 0)) ∷ (at (pos 10) (pos 0)) ∷ (at (pos 10) (pos 10)) ∷ (at (pos 0) (pos 10)) ∷ (at (pos 0) (pos 0)) ∷ []) ∷ ((at (pos 5) (pos 5)) ∷ (at (pos 15) (pos 5)) ∷ (at (pos 15) (pos 8)) ∷ (at (pos 5) (pos 5)) ∷ []) ∷ [])) ≡ Some HoleOutside
hole_crosses_shell = refl

hole_round_shell : first_fault (Polygon (((at (pos 5) (pos 5)) ∷ (at (pos 10) (pos 5)) ∷ (at (pos 5) (pos 10)) ∷ (at (pos 5) (pos 5)) ∷ []) ∷ ((at (pos 0) (pos 0)) ∷ (at (pos 30) (pos 0)) ∷ (at (pos 30) (pos 30)) ∷ (at (pos 0) (pos 30)) ∷ (at (pos 0) (pos 0)) ∷ []) ∷ [])) ≡ Some HoleOutside
hole_round_shell = refl

holes_cross : first_fault (Polygon (((at (pos 0) (pos 0)) ∷ (at (pos 30) (pos 0)) ∷ (at (pos 30) (pos 30)) ∷ (at (pos 0) (pos 30)) ∷ (at (pos 0) (pos 0)) ∷ []) ∷ ((at (pos 5) (pos 5)) ∷ (at (pos 15) (pos 5)) ∷ (at (pos 15) (pos 15)) ∷ (at (pos 5) (pos 15)) ∷ (at (pos 5) (pos 5)) ∷ []) ∷ ((at (pos 10) (pos 10)) ∷ (at (pos 20) (pos 10)) ∷ (at (pos 20) (pos 20)) ∷ (at (pos 10) (pos 20)) ∷ (at (pos 10) (pos 10)) ∷ []) ∷ [])) ≡ Some HolesNested
holes_cross = refl

holes_touch : first_fault (Polygon (((at (pos 0) (pos 0)) ∷ (at (pos 30) (pos 0)) ∷ (at (pos 30) (pos 30)) ∷ (at (pos 0) (pos 30)) ∷ (at (pos 0) (pos 0)) ∷ []) ∷ ((at (pos 5) (pos 5)) ∷ (at (pos 10) (pos 5)) ∷ (at (pos 10) (pos 10)) ∷ (at (pos 5) (pos 5)) ∷ []) ∷ ((at (pos 10) (pos 10)) ∷ (at (pos 20) (pos 10)) ∷ (at (pos 20) (pos 20)) ∷ (at (pos 10) (pos 10)) ∷ []) ∷ [])) ≡ None
holes_touch = refl

second_ring_open : first_fault (Polygon (((at (pos 0) (pos 0)) ∷ (at (pos 30) (pos 0)) ∷ (at (pos 30) (pos 30)) ∷ (at (pos 0) (pos 30)) ∷ (at (pos 0) (pos 0)) ∷ []) ∷ ((at (pos 5) (pos 5)) ∷ (at (pos 10) (pos 5)) ∷ (at (pos 10) (pos 10)) ∷ []) ∷ [])) ≡ Some OpenRing
second_ring_open = refl

first_ring_crosses : first_fault (MultiPolygon ((((at (pos 0) (pos 0)) ∷ (at (pos 10) (pos 10)) ∷ (at (pos 10) (pos 0)) ∷ (at (pos 0) (pos 10)) ∷ (at (pos 0) (pos 0)) ∷ []) ∷ []) ∷ (((at (pos 20) (pos 0)) ∷ (at (pos 30) (pos 0)) ∷ (at (pos 30) (pos 10)) ∷ []) ∷ []) ∷ [])) ≡ Some RingNotSimple
first_ring_crosses = refl

first_ring_open : first_fault (MultiPolygon ((((at (pos 20) (pos 0)) ∷ (at (pos 30) (pos 0)) ∷ (at (pos 30) (pos 10)) ∷ []) ∷ []) ∷ (((at (pos 0) (pos 0)) ∷ (at (pos 10) (pos 10)) ∷ (at (pos 10) (pos 0)) ∷ (at (pos 0) (pos 10)) ∷ (at (pos 0) (pos 0)) ∷ []) ∷ []) ∷ [])) ≡ Some OpenRing
first_ring_open = refl

outside_before_nested : first_fault (Polygon (((at (pos 0) (pos 0)) ∷ (at (pos 40) (pos 0)) ∷ (at (pos 0) (pos 40)) ∷ (at (pos 0) (pos 0)) ∷ []) ∷ ((at (pos 1) (pos 1)) ∷ (at (pos 20) (pos 1)) ∷ (at (pos 1) (pos 20)) ∷ (at (pos 1) (pos 1)) ∷ []) ∷ ((at (pos 2) (pos 2)) ∷ (at (pos 10) (pos 2)) ∷ (at (pos 2) (pos 10)) ∷ (at (pos 2) (pos 2)) ∷ []) ∷ ((at (pos 50) (pos 0)) ∷ (at (pos 60) (pos 0)) ∷ (at (pos 60) (pos 10)) ∷ (at (pos 50) (pos 0)) ∷ []) ∷ [])) ≡ Some HoleOutside
outside_before_nested = refl

outside_of_second_before_nested_of_first : first_fault (MultiPolygon ((((at (pos 0) (pos 0)) ∷ (at (pos 40) (pos 0)) ∷ (at (pos 0) (pos 40)) ∷ (at (pos 0) (pos 0)) ∷ []) ∷ ((at (pos 1) (pos 1)) ∷ (at (pos 20) (pos 1)) ∷ (at (pos 1) (pos 20)) ∷ (at (pos 1) (pos 1)) ∷ []) ∷ ((at (pos 2) (pos 2)) ∷ (at (pos 10) (pos 2)) ∷ (at (pos 2) (pos 10)) ∷ (at (pos 2) (pos 2)) ∷ []) ∷ []) ∷ (((at (pos 50) (pos 0)) ∷ (at (pos 60) (pos 0)) ∷ (at (pos 60) (pos 10)) ∷ (at (pos 50) (pos 0)) ∷ []) ∷ ((at (pos 70) (pos 0)) ∷ (at (pos 80) (pos 0)) ∷ (at (pos 80) (pos 10)) ∷ (at (pos 70) (pos 0)) ∷ []) ∷ []) ∷ [])) ≡ Some HoleOutside
outside_of_second_before_nested_of_first = refl

polygon_in_hole_touches : first_fault (MultiPolygon ((((at (pos 0) (pos 0)) ∷ (at (pos 30) (pos 0)) ∷ (at (pos 30) (pos 30)) ∷ (at (pos 0) (pos 30)) ∷ (at (pos 0) (pos 0)) ∷ []) ∷ ((at (pos 5) (pos 5)) ∷ (at (pos 25) (pos 5)) ∷ (at (pos 25) (pos 25)) ∷ (at (pos 5) (pos 25)) ∷ (at (pos 5) (pos 5)) ∷ []) ∷ []) ∷ (((at (pos 5) (pos 5)) ∷ (at (pos 25) (pos 25)) ∷ (at (pos 5) (pos 20)) ∷ (at (pos 5) (pos 5)) ∷ []) ∷ []) ∷ [])) ≡ Some RingsMeet
polygon_in_hole_touches = refl

polygon_in_hole_at_corners : first_fault (MultiPolygon ((((at (pos 0) (pos 0)) ∷ (at (pos 30) (pos 0)) ∷ (at (pos 30) (pos 30)) ∷ (at (pos 0) (pos 30)) ∷ (at (pos 0) (pos 0)) ∷ []) ∷ ((at (pos 5) (pos 5)) ∷ (at (pos 25) (pos 5)) ∷ (at (pos 25) (pos 25)) ∷ (at (pos 5) (pos 25)) ∷ (at (pos 5) (pos 5)) ∷ []) ∷ []) ∷ (((at (pos 5) (pos 5)) ∷ (at (pos 25) (pos 25)) ∷ (at (pos 10) (pos 20)) ∷ (at (pos 5) (pos 5)) ∷ []) ∷ []) ∷ [])) ≡ None
polygon_in_hole_at_corners = refl

square_clockwise : first_fault (Polygon (((at (pos 0) (pos 0)) ∷ (at (pos 0) (pos 10)) ∷ (at (pos 10) (pos 10)) ∷ (at (pos 10) (pos 0)) ∷ (at (pos 0) (pos 0)) ∷ []) ∷ [])) ≡ None
square_clockwise = refl

second_line_short : first_fault (MultiLineString (((at (pos 0) (pos 0)) ∷ (at (pos 1) (pos 1)) ∷ []) ∷ ((at (pos 2) (pos 2)) ∷ (at (pos 2) (pos 2)) ∷ []) ∷ [])) ≡ Some ShortLine
second_line_short = refl
