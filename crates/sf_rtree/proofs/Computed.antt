-- Places on the curve, and maps of boxes, computed.
use Rattle.std.specs.Prelude.{◌≡◌, ℕ, pos, negsuc, List, [], ◌∷◌, None, refl, true, nat_lt}
use Rattle.sf_geometry.specs.declared.extent.Extent.{Extent}
use Rattle.sf_rtree.specs.Boxed.{Boxed, interleaved, place_of}
use Rattle.sf_rtree.specs.Indexes.{box_of, ids_meeting, without_box}
use Rattle.sf_rtree.specs.Subtrees.{boxes_of}

digits : interleaved 3 5 3 ≡ 27
unfolding interleaved
digits = refl

box : ℕ → ℕ → ℕ → ℕ → Extent
box a b c d = record { min_x = pos a; min_y = pos b; max_x = pos c; max_y = pos d }

at : ℕ → ℕ → Extent
at x y = box x y x y

-- the four corners of a square, in the order of the curve
corners : nat_lt (place_of (at 0 0)) (place_of (at 1 0)) ≡ true
unfolding at box place_of interleaved
corners = refl

corners_left : nat_lt (place_of (at 1 0)) (place_of (at 0 1)) ≡ true
unfolding at box place_of interleaved
corners_left = refl

corners_top : nat_lt (place_of (at 0 1)) (place_of (at 1 1)) ≡ true
unfolding at box place_of interleaved
corners_top = refl

least : place_of (record { min_x = negsuc 2147483647; min_y = negsuc 2147483647; max_x = negsuc 2147483647; max_y = negsuc 2147483647 }) ≡ 0
unfolding place_of interleaved
least = refl

greatest : place_of (at 2147483647 2147483647) ≡ 18446744073709551615
unfolding at box place_of interleaved
greatest = refl

entry : ℕ → Extent → Boxed
entry id extent = record { id = id; extent = extent }

entries : List Boxed
entries = entry 3 (at 22 22) ∷ entry 1 (box 0 0 10 10) ∷ entry 2 (box 0 0 30 30) ∷ []

found : ids_meeting (box 20 20 25 25) (boxes_of entries) ≡ 2 ∷ 3 ∷ []
unfolding entries entry at box
found = refl

touched : ids_meeting (box 10 10 12 12) (boxes_of entries) ≡ 1 ∷ 2 ∷ []
unfolding entries entry at box
touched = refl

removed : box_of (without_box 1 (boxes_of entries)) 1 ≡ None
unfolding entries entry at box
removed = refl
