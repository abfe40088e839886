-- Features within a distance, and grown boxes, computed.
use Rattle.std.specs.Prelude.{◌≡◌, ℕ, pos, negsuc, ◌-◌, ◌*◌, true, false, [], ◌∷◌, refl}
use Rattle.sf_grid.specs.Plane.{Coordinates}
use Rattle.sf_geometry.specs.declared.extent.Extent.{Extent}
use Rattle.sf_geometry.specs.declared.geometry.Geometry.{Geometry}
use Rattle.sf_geometry.specs.declared.geometry.Geometry.TheVariants.{LineString, Point, Polygon}
use Rattle.sf_geometry.specs.Envelope.{extent_at}
use Rattle.sf_distance.specs.Reaches.{reach_limit, square_of_reach, steps_of_reach}
use Rattle.sf_features.specs.Features.{plain_feature}
use Rattle.sf_layers.specs.declared.layer_kind.LayerKind.TheVariants.{Any}
use Rattle.sf_layers.specs.Content.{LayerContent}
use Rattle.sf_near.specs.Answers.{ids_within, is_within_of}
use Rattle.sf_near.specs.Grown.{grown}
use Rattle.sf_near.specs.Span.{square_of_span}

at : ℕ → ℕ → Coordinates
at x y = record { x = pos x; y = pos y }

-- 5 steps apart
at_the_distance : is_within_of (square_of_reach 5000) (Point (at 3 4)) (Point (at 0 0)) ≡ true
unfolding at
at_the_distance = refl

just_below_it : is_within_of (square_of_reach 4999) (Point (at 3 4)) (Point (at 0 0)) ≡ false
unfolding at
just_below_it = refl

-- the root of 50 is 7.07106..
above_a_root : is_within_of (square_of_reach 7072) (Point (at 5 5)) (Point (at 0 0)) ≡ true
unfolding at
above_a_root = refl

below_a_root : is_within_of (square_of_reach 7071) (Point (at 5 5)) (Point (at 0 0)) ≡ false
unfolding at
below_a_root = refl

-- the square is 1/2, from the middle of the line: the root is 0.70710..
above_half : is_within_of (square_of_reach 708) (LineString (at 0 0 ∷ at 1 1 ∷ [])) (Point (at 1 0)) ≡ true
unfolding at
above_half = refl

below_half : is_within_of (square_of_reach 707) (LineString (at 0 0 ∷ at 1 1 ∷ [])) (Point (at 1 0)) ≡ false
unfolding at
below_half = refl

square : Geometry
square = Polygon ((at 0 0 ∷ at 10 0 ∷ at 10 10 ∷ at 0 10 ∷ at 0 0 ∷ []) ∷ [])

-- inside the square, far from its edges
inside : is_within_of (square_of_reach 0) square (Point (at 5 5)) ≡ true
unfolding square at
inside = refl

-- the box of the diagonal is near, the diagonal isn't
diagonal : Geometry
diagonal = LineString (at 0 20 ∷ at 30 50 ∷ [])

layer : LayerContent
layer =
    record {
      kind = Any;
      next_id = 4;
      next_column = 1;
      columns = [];
      features = (1, plain_feature square) ∷ (2, plain_feature diagonal) ∷ (3, plain_feature (Point (at 30 13))) ∷ [];
    }

-- 21 steps from the square, 3 from the point
ids_found : ids_within layer (square_of_reach 3000) (Point (at 30 10)) ≡ 3 ∷ []
unfolding layer square diagonal at
ids_found = refl

more_found : ids_within layer (square_of_reach 20000) (Point (at 30 10)) ≡ 1 ∷ 3 ∷ []
unfolding layer square diagonal at
more_found = refl

-- ---- reaches in whole steps

no_step : steps_of_reach 0 ≡ 0
no_step = refl

a_thousandth : steps_of_reach 1 ≡ 1
a_thousandth = refl

one_step : steps_of_reach 1000 ≡ 1
one_step = refl

a_thousandth_more : steps_of_reach 1001 ≡ 2
a_thousandth_more = refl

-- ---- boxes at the least and the greatest numbers of 32 bits

-- one step from them, and at them
corner : Extent
corner = record { min_x = negsuc 2147483646; min_y = negsuc 2147483647; max_x = pos 2147483646; max_y = pos 2147483647 }

all : Extent
all = record { min_x = negsuc 2147483647; min_y = negsuc 2147483647; max_x = pos 2147483647; max_y = pos 2147483647 }

not_grown : grown 0 corner ≡ corner
unfolding corner
not_grown = refl

grown_by_one : grown 1 corner ≡ all
unfolding corner all
grown_by_one = refl

grown_by_two : grown 2 corner ≡ all
unfolding corner all
grown_by_two = refl

small : Extent
small = record { min_x = negsuc 4; min_y = pos 0; max_x = pos 7; max_y = pos 2 }

grown_by_three : grown 3 small ≡ record { min_x = negsuc 7; min_y = negsuc 2; max_x = pos 10; max_y = pos 5 }
unfolding small
grown_by_three = refl

grown_to_all : grown (steps_of_reach (reach_limit - 1)) small ≡ all
unfolding small all
grown_to_all = refl

-- ---- how far apart corners of two boxes are

corners_of_points : square_of_span (extent_at (at 0 0)) (extent_at (at 3 4)) ≡ 25
unfolding at
corners_of_points = refl

-- from -5, 0 to 8, 6: the second box begins within the first one
farthest_corners : square_of_span small (record { min_x = pos 1; min_y = pos 1; max_x = pos 8; max_y = pos 6 }) ≡ 205
unfolding small
farthest_corners = refl

-- over all numbers of 32 bits
corners_of_all : square_of_span all all ≡ 2 * (4294967295 * 4294967295)
unfolding all
corners_of_all = refl
