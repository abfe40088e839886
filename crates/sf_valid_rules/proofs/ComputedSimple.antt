-- Simplicity, computed at small geometries.
use Rattle.std.proofs.Common.{◌≡◌, [], ◌∷◌, refl, ℤ, pos, negsuc, true, false}
use Rattle.sf_grid.specs.Plane.{Coordinates}
use Rattle.sf_geometry.specs.declared.geometry.Geometry.TheVariants.{Point, LineString, MultiPoint, MultiLineString}
use Rattle.sf_valid_rules.specs.Verdicts.{is_simple}

abbrev at : ℤ → ℤ → Coordinates
at x y = record { x = x; y = y }

repeat : is_simple (LineString ((at (pos 0) (pos 0)) ∷ (at (pos 0) (pos 0)) ∷ (at (pos 5) (pos 5)) ∷ [])) ≡ true
repeat = refl

equal_points : is_simple (MultiPoint ((at (pos 1) (pos 1)) ∷ (at (pos 1) (pos 1)) ∷ [])) ≡ false
equal_points = refl

other_points : is_simple (MultiPoint ((at (pos 1) (pos 1)) ∷ (at (pos 1) (pos 2)) ∷ (at (pos 2) (pos 1)) ∷ [])) ≡ true
other_points = refl

point : is_simple (Point (at (pos 1) (pos 1))) ≡ true
point = refl

through_end : is_simple (LineString ((at (pos 0) (pos 0)) ∷ (at (pos 10) (pos 0)) ∷ (at (pos 10) (pos 10)) ∷ (at (pos 0) (pos 0)) ∷ (at (negsuc 9) (pos 0)) ∷ (at (negsuc 9) (negsuc 9)) ∷ (at (pos 0) (pos 0)) ∷ [])) ≡ false
through_end = refl

closed : is_simple (LineString ((at (pos 0) (pos 0)) ∷ (at (pos 10) (pos 0)) ∷ (at (pos 10) (pos 10)) ∷ (at (pos 0) (pos 0)) ∷ [])) ≡ true
closed = refl

crosses : is_simple (LineString ((at (pos 0) (pos 0)) ∷ (at (pos 10) (pos 10)) ∷ (at (pos 10) (pos 0)) ∷ (at (pos 0) (pos 10)) ∷ [])) ≡ false
crosses = refl

there_and_back : is_simple (LineString ((at (pos 0) (pos 0)) ∷ (at (pos 5) (pos 5)) ∷ (at (pos 0) (pos 0)) ∷ [])) ≡ false
there_and_back = refl

part_back : is_simple (LineString ((at (pos 0) (pos 0)) ∷ (at (pos 10) (pos 0)) ∷ (at (pos 5) (pos 0)) ∷ [])) ≡ false
part_back = refl

straight_on : is_simple (LineString ((at (pos 0) (pos 0)) ∷ (at (pos 5) (pos 0)) ∷ (at (pos 10) (pos 0)) ∷ [])) ≡ true
straight_on = refl

end_on_itself : is_simple (LineString ((at (pos 0) (pos 0)) ∷ (at (pos 10) (pos 0)) ∷ (at (pos 10) (pos 10)) ∷ (at (pos 5) (pos 0)) ∷ [])) ≡ false
end_on_itself = refl

end_at_inner_vertex : is_simple (LineString ((at (pos 0) (pos 0)) ∷ (at (pos 10) (pos 0)) ∷ (at (pos 10) (pos 10)) ∷ (at (pos 0) (pos 10)) ∷ (at (pos 10) (pos 0)) ∷ [])) ≡ false
end_at_inner_vertex = refl

begins_on_itself : is_simple (LineString ((at (pos 5) (pos 0)) ∷ (at (pos 5) (pos 10)) ∷ (at (pos 0) (pos 10)) ∷ (at (pos 0) (pos 0)) ∷ (at (pos 10) (pos 0)) ∷ [])) ≡ false
begins_on_itself = refl

ends_meet : is_simple (MultiLineString (((at (pos 0) (pos 0)) ∷ (at (pos 5) (pos 5)) ∷ []) ∷ ((at (pos 5) (pos 5)) ∷ (at (pos 10) (pos 0)) ∷ []) ∷ [])) ≡ true
ends_meet = refl

three_ends_meet : is_simple (MultiLineString (((at (pos 0) (pos 0)) ∷ (at (pos 5) (pos 5)) ∷ []) ∷ ((at (pos 5) (pos 5)) ∷ (at (pos 10) (pos 0)) ∷ []) ∷ ((at (pos 5) (pos 5)) ∷ (at (pos 5) (pos 10)) ∷ []) ∷ [])) ≡ true
three_ends_meet = refl

end_meets_inner : is_simple (MultiLineString (((at (pos 0) (pos 0)) ∷ (at (pos 10) (pos 0)) ∷ []) ∷ ((at (pos 5) (pos 0)) ∷ (at (pos 5) (pos 5)) ∷ []) ∷ [])) ≡ false
end_meets_inner = refl

end_meets_inner_vertex : is_simple (MultiLineString (((at (pos 0) (pos 0)) ∷ (at (pos 5) (pos 0)) ∷ (at (pos 10) (pos 0)) ∷ []) ∷ ((at (pos 5) (pos 0)) ∷ (at (pos 5) (pos 5)) ∷ []) ∷ [])) ≡ false
end_meets_inner_vertex = refl

lines_cross : is_simple (MultiLineString (((at (pos 0) (pos 0)) ∷ (at (pos 10) (pos 10)) ∷ []) ∷ ((at (pos 0) (pos 10)) ∷ (at (pos 10) (pos 0)) ∷ []) ∷ [])) ≡ false
lines_cross = refl

end_meets_closed : is_simple (MultiLineString (((at (pos 0) (pos 0)) ∷ (at (pos 10) (pos 0)) ∷ (at (pos 10) (pos 10)) ∷ (at (pos 0) (pos 0)) ∷ []) ∷ ((at (pos 0) (pos 0)) ∷ (at (negsuc 4) (negsuc 4)) ∷ []) ∷ [])) ≡ false
end_meets_closed = refl

closed_lines_touch : is_simple (MultiLineString (((at (pos 0) (pos 0)) ∷ (at (pos 10) (pos 0)) ∷ (at (pos 10) (pos 10)) ∷ (at (pos 0) (pos 0)) ∷ []) ∷ ((at (pos 0) (pos 0)) ∷ (at (negsuc 9) (pos 0)) ∷ (at (negsuc 9) (negsuc 9)) ∷ (at (pos 0) (pos 0)) ∷ []) ∷ [])) ≡ false
closed_lines_touch = refl

equal_lines : is_simple (MultiLineString (((at (pos 0) (pos 0)) ∷ (at (pos 5) (pos 5)) ∷ []) ∷ ((at (pos 0) (pos 0)) ∷ (at (pos 5) (pos 5)) ∷ []) ∷ [])) ≡ false
equal_lines = refl

both_ends_meet : is_simple (MultiLineString (((at (pos 0) (pos 0)) ∷ (at (pos 5) (pos 5)) ∷ (at (pos 10) (pos 0)) ∷ []) ∷ ((at (pos 0) (pos 0)) ∷ (at (pos 5) (negsuc 4)) ∷ (at (pos 10) (pos 0)) ∷ []) ∷ [])) ≡ true
both_ends_meet = refl

second_crosses_itself : is_simple (MultiLineString (((at (pos 20) (pos 0)) ∷ (at (pos 30) (pos 0)) ∷ []) ∷ ((at (pos 0) (pos 0)) ∷ (at (pos 10) (pos 10)) ∷ (at (pos 10) (pos 0)) ∷ (at (pos 0) (pos 10)) ∷ []) ∷ [])) ≡ false
second_crosses_itself = refl

apart : is_simple (MultiLineString (((at (pos 0) (pos 0)) ∷ (at (pos 5) (pos 5)) ∷ []) ∷ ((at (pos 20) (pos 0)) ∷ (at (pos 30) (pos 0)) ∷ []) ∷ [])) ≡ true
apart = refl
