-- Named predicates of worked matrices, computed; and the letters.
use Rattle.std.specs.Prelude.{◌≡◌, ℕ, zero, suc, option_map, Bool, true, false, List, [], ◌∷◌, codes, Option, Some, None, refl, filter, is_some}
use Rattle.sf_plane.specs.declared.dim.Dim.{Dim}
use Rattle.sf_plane.specs.declared.dim.Dim.TheVariants.{Nothing, Zero, One, Two}
use Rattle.sf_known.specs.declared.predicate.Predicate.{Predicate}
use Rattle.sf_known.specs.declared.predicate.Predicate.TheVariants.{Equals, Disjoint, Intersects, Touches, Within, Contains, Crosses, Overlaps}
use Rattle.sf_known.specs.Patterns.{asks_contact, letter_of, pattern_of}
use Rattle.sf_known.specs.Predicates.{holds}

all : List Predicate
all = Equals ∷ Disjoint ∷ Intersects ∷ Touches ∷ Within ∷ Contains ∷ Crosses ∷ Overlaps ∷ []

-- which predicates hold
which : Dim → Dim → List Dim → List Predicate
which a b m = filter (λ p. holds p a b m) all

squares_that_overlap : which Two Two (Two ∷ One ∷ Two ∷ One ∷ Zero ∷ One ∷ Two ∷ One ∷ Two ∷ [])
    ≡ Intersects ∷ Overlaps ∷ []
unfolding which all
squares_that_overlap = refl

squares_side_by_side : which Two Two (Nothing ∷ Nothing ∷ Two ∷ Nothing ∷ One ∷ One ∷ Two ∷ One ∷ Two ∷ [])
    ≡ Intersects ∷ Touches ∷ []
unfolding which all
squares_side_by_side = refl

line_across_square : which One Two (One ∷ Zero ∷ One ∷ Nothing ∷ Nothing ∷ Zero ∷ Two ∷ One ∷ Two ∷ [])
    ≡ Intersects ∷ Crosses ∷ []
unfolding which all
line_across_square = refl

lines_that_cross : which One One (Zero ∷ Nothing ∷ One ∷ Nothing ∷ Nothing ∷ Zero ∷ One ∷ Zero ∷ Two ∷ [])
    ≡ Intersects ∷ Crosses ∷ []
unfolding which all
lines_that_cross = refl

same_line_backwards : which One One (One ∷ Nothing ∷ Nothing ∷ Nothing ∷ Zero ∷ Nothing ∷ Nothing ∷ Nothing ∷ Two ∷ [])
    ≡ Equals ∷ Intersects ∷ Within ∷ Contains ∷ []
unfolding which all
same_line_backwards = refl

inner_end : which Zero One (Zero ∷ Nothing ∷ Nothing ∷ Nothing ∷ Nothing ∷ Nothing ∷ One ∷ Zero ∷ Two ∷ [])
    ≡ Intersects ∷ Within ∷ []
unfolding which all
inner_end = refl

end_of_three : which Zero One (Nothing ∷ Zero ∷ Nothing ∷ Nothing ∷ Nothing ∷ Nothing ∷ One ∷ Zero ∷ Two ∷ [])
    ≡ Intersects ∷ Touches ∷ []
unfolding which all
end_of_three = refl

start_of_closed_line : which Zero One (Zero ∷ Nothing ∷ Nothing ∷ Nothing ∷ Nothing ∷ Nothing ∷ One ∷ Nothing ∷ Two ∷ [])
    ≡ Intersects ∷ Within ∷ []
unfolding which all
start_of_closed_line = refl

hole_filled_by_polygon : which Two Two (Nothing ∷ Nothing ∷ Two ∷ Nothing ∷ One ∷ One ∷ Two ∷ Nothing ∷ Two ∷ [])
    ≡ Intersects ∷ Touches ∷ []
unfolding which all
hole_filled_by_polygon = refl

point_in_square : which Zero Two (Zero ∷ Nothing ∷ Nothing ∷ Nothing ∷ Nothing ∷ Nothing ∷ Two ∷ One ∷ Two ∷ [])
    ≡ Intersects ∷ Within ∷ []
unfolding which all
point_in_square = refl

point_far_from_line : which Zero One (Nothing ∷ Nothing ∷ Zero ∷ Nothing ∷ Nothing ∷ Nothing ∷ One ∷ Zero ∷ Two ∷ [])
    ≡ Disjoint ∷ []
unfolding which all
point_far_from_line = refl

square_around_point : which Two Zero (Zero ∷ Nothing ∷ Two ∷ Nothing ∷ Nothing ∷ One ∷ Nothing ∷ Nothing ∷ Two ∷ [])
    ≡ Intersects ∷ Contains ∷ []
unfolding which all
square_around_point = refl

points_partly_in_square : which Zero Two (Zero ∷ Nothing ∷ Zero ∷ Nothing ∷ Nothing ∷ Nothing ∷ Two ∷ One ∷ Two ∷ [])
    ≡ Intersects ∷ Crosses ∷ []
unfolding which all
points_partly_in_square = refl

square_around_some_points : which Two Zero (Zero ∷ Nothing ∷ Two ∷ Nothing ∷ Nothing ∷ One ∷ Zero ∷ Nothing ∷ Two ∷ [])
    ≡ Intersects ∷ Crosses ∷ []
unfolding which all
square_around_some_points = refl

lines_with_a_common_piece : which One One (One ∷ Zero ∷ One ∷ Zero ∷ Nothing ∷ Zero ∷ One ∷ Zero ∷ Two ∷ [])
    ≡ Intersects ∷ Overlaps ∷ []
unfolding which all
lines_with_a_common_piece = refl

points_with_a_common_one : which Zero Zero (Zero ∷ Nothing ∷ Zero ∷ Nothing ∷ Nothing ∷ Nothing ∷ Zero ∷ Nothing ∷ Two ∷ [])
    ≡ Intersects ∷ Overlaps ∷ []
unfolding which all
points_with_a_common_one = refl

-- the letters among all bytes
bytes : ℕ → List ℕ
bytes zero = []
bytes (suc n) = n ∷ bytes n

letters : filter (λ b. is_some (letter_of b)) (bytes 256) ≡ codes "tfTF210*"
unfolding bytes
letters = refl

not_nine : pattern_of (codes "TT") ≡ None
not_nine = refl

ten : pattern_of (codes "T********F") ≡ None
ten = refl

other_letter : pattern_of (codes "T***3****") ≡ None
other_letter = refl

small_letters : pattern_of (codes "t*f**f***") ≡ pattern_of (codes "T*F**F***")
small_letters = refl

-- contact
contact : List ℕ → Option Bool
contact text = option_map asks_contact (pattern_of text)

contact_within : contact (codes "T*F**F***") ≡ Some true
unfolding contact
contact_within = refl

contact_disjoint : contact (codes "FF*FF****") ≡ Some false
unfolding contact
contact_disjoint = refl

contact_exterior : contact (codes "**T**TTTT") ≡ Some false
unfolding contact
contact_exterior = refl

contact_boundaries : contact (codes "****0****") ≡ Some true
unfolding contact
contact_boundaries = refl
