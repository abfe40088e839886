-- Turns, and the sides of sheared edges.
use Rattle.std.proofs.Common.{◌≡◌, refl, ap, sym, ◌∙◌, ℤ, pos, ◌*ℤ◌, ◌<ℤ◌, ◌<◌, arith, subst}
use Rattle.std.specs.Ordering.{int_cmp}
use Rattle.std.specs.declared.cmp.Ordering.{Ordering}
use Rattle.std.specs.declared.cmp.Ordering.TheVariants.{Equal, Greater, Less}
use Rattle.std.proofs.lemmas.Int.{ints}
use Rattle.sf_grid.specs.Plane.{Coordinates, grid_point}
use Rattle.sf_grid.specs.Edge.{cross}
use Rattle.sf_grid.specs.Sharing.{turn_by, turn_of}
use Rattle.sf_grid.specs.declared.turn.Turn.{Turn}
use Rattle.sf_grid.specs.declared.turn.Turn.TheVariants.{Left, Right, Straight}
use Rattle.sf_grid.proofs.CallerLemmas.{mul_lt, mul_pos}
use Rattle.sf_grid.proofs.OrderLaws.{greater_is, less_is}
use Rattle.sf_first_meeting.specs.Sheared.{shear_factor, sheared}
use Rattle.sf_first_meeting.proofs.ShearLaws.{cross-sheared}

less-from_left : (o : Ordering) → turn_by o ≡ Left → o ≡ Less
less-from_left Less h = refl
less-from_left Equal h = cc
less-from_left Greater h = cc

greater-from_right : (o : Ordering) → turn_by o ≡ Right → o ≡ Greater
greater-from_right Less h = cc
greater-from_right Equal h = cc
greater-from_right Greater h = refl

positive : Unit {0} → 0 < shear_factor
positive t = omega arith

-- a point as it was read is to the left of an edge as it was read
pub left-read : (u v w a b c : Coordinates) (t : Turn) → a ≡ u → b ≡ v → c ≡ w → t ≡ turn_of a b c → t ≡ Left →
    pos 0 <ℤ cross (sheared u) (sheared v) (grid_point (sheared w))
left-read u v w a b c t e f g h k =
    let less : pos 0 <ℤ cross a b (grid_point c) = less_is (pos 0) (cross a b (grid_point c)) (less-from_left _ (sym h ∙ k)) in
    let here : pos 0 <ℤ cross (sheared a) (sheared b) (grid_point (sheared c)) =
    let P : ℤ → Type 0 = λ z. pos 0 <ℤ z in subst P (sym (cross-sheared a b c)) (mul_pos (cross a b (grid_point c)) shear_factor (positive tt) less) in
    let P : Coordinates → Type 0 = λ z. pos 0 <ℤ cross (sheared z) (sheared v) (grid_point (sheared w)) in
    let Q : Coordinates → Type 0 = λ z. pos 0 <ℤ cross (sheared a) (sheared z) (grid_point (sheared w)) in
    let R : Coordinates → Type 0 = λ z. pos 0 <ℤ cross (sheared a) (sheared b) (grid_point (sheared z)) in
    subst P e (subst Q f (subst R g here))

-- or to the right of it
pub right-read : (u v w a b c : Coordinates) (t : Turn) → a ≡ u → b ≡ v → c ≡ w → t ≡ turn_of a b c → t ≡ Right →
    cross (sheared u) (sheared v) (grid_point (sheared w)) <ℤ pos 0
right-read u v w a b c t e f g h k =
    let less : cross a b (grid_point c) <ℤ pos 0 = greater_is (pos 0) (cross a b (grid_point c)) (greater-from_right _ (sym h ∙ k)) in
    let here : cross (sheared a) (sheared b) (grid_point (sheared c)) <ℤ pos 0 =
    let P : ℤ → Type 0 = λ z. z <ℤ pos 0 in
    subst P (sym (cross-sheared a b c)) (negative (cross a b (grid_point c)) (mul_lt (cross a b (grid_point c)) (pos 0) shear_factor (positive tt) less)) in
    let P : Coordinates → Type 0 = λ z. cross (sheared z) (sheared v) (grid_point (sheared w)) <ℤ pos 0 in
    let Q : Coordinates → Type 0 = λ z. cross (sheared a) (sheared z) (grid_point (sheared w)) <ℤ pos 0 in
    let R : Coordinates → Type 0 = λ z. cross (sheared a) (sheared b) (grid_point (sheared z)) <ℤ pos 0 in
    subst P e (subst Q f (subst R g here))
  where
    negative : (z : ℤ) → (z *ℤ pos shear_factor) <ℤ (pos 0 *ℤ pos shear_factor) → (z *ℤ pos shear_factor) <ℤ pos 0
    negative z l = omega (arith, ints)
