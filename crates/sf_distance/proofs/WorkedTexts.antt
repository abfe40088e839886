-- Squares of distances and what is written of them, worked by hand.
use Rattle.std.proofs.Common.{◌≡◌, refl, pos}
use Rattle.std.specs.Prelude.{codes}
use Rattle.std.specs.Fmt.{digits}
use Rattle.sf_distance.specs.Texts.{distance_text, gcd_within, reach_text, root_from, square_text}

-- the root of 50 is 7.07106.., that of 1/2 is 0.70710..
distance_of_fifty : distance_text (record { num = pos 50; den = 1 }) ≡ codes "7.071"
unfolding root_from digits
distance_of_fifty = refl

distance_of_half : distance_text (record { num = pos 9; den = 18 }) ≡ codes "0.707"
unfolding root_from digits
distance_of_half = refl

square_of_fifty : square_text (record { num = pos 150; den = 3 }) ≡ codes "50"
unfolding gcd_within digits
square_of_fifty = refl

square_of_half : square_text (record { num = pos 9; den = 18 }) ≡ codes "1/2"
unfolding gcd_within digits
square_of_half = refl

whole_reach : reach_text 2000000 ≡ codes "2000"
unfolding digits
whole_reach = refl

parted_reach : reach_text 2500 ≡ codes "2.500"
unfolding digits
parted_reach = refl

least_reach : reach_text 1 ≡ codes "0.001"
unfolding digits
least_reach = refl

no_reach : reach_text 0 ≡ codes "0"
unfolding digits
no_reach = refl
