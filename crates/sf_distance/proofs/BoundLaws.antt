-- The square of the distance from a line is below 2^64: with the way along the edge it makes up the square of the way from its start.
use Rattle.std.proofs.Common.{◌≡◌, ℕ, refl, ap, sym, ◌∙◌, ℤ, pos, ◌+ℤ◌, ◌-ℤ◌, ◌*ℤ◌, ◌≤ℤ◌, ◌<◌, ◌≤◌, ◌*◌, ◌^◌, arith, [], ◌∷◌, unsigned_abs}
use Rattle.std.proofs.lemmas.Int.{ints, unsigned_abs-mul}
use Rattle.std.proofs.Math.Nat.{mul-le-mul_left}
use Rattle.sf_grid.specs.Bounds.{cross_bound}
use Rattle.sf_grid.specs.Plane.{Coordinates}
use Rattle.sf_grid.specs.Edge.{Edge}
use Rattle.sf_grid.proofs.Products.{square_nonneg, sum_nonneg}
use Rattle.sf_grid.proofs.Ring.{ring, var, sum, dif, mul}
use Rattle.sf_distance.specs.Nearest.{along, cross_at, square_of}

pub size_of_nonneg : (z : ℤ) → pos 0 ≤ℤ z → pos (unsigned_abs z) ≡ z
size_of_nonneg z h = omega (arith, ints)

pub square_of-is_nonneg : (a b : Coordinates) → pos 0 ≤ℤ square_of a b
square_of-is_nonneg a b = sum_nonneg ((b.x -ℤ a.x) *ℤ (b.x -ℤ a.x)) ((b.y -ℤ a.y) *ℤ (b.y -ℤ a.y)) (square_nonneg (b.x -ℤ a.x)) (square_nonneg (b.y -ℤ a.y))

-- Lagrange's identity
pub two_squares : (e : Edge) (p : Coordinates) → cross_at e p *ℤ cross_at e p +ℤ along e p *ℤ along e p ≡ square_of e.a e.b *ℤ square_of e.a p
two_squares e p =
    ring ((e.b.x -ℤ e.a.x) ∷ (e.b.y -ℤ e.a.y) ∷ (p.x -ℤ e.a.x) ∷ (p.y -ℤ e.a.y) ∷ []) (sum (mul (dif (mul (var 0) (var 3)) (mul (var 1) (var 2))) (dif (mul (var 0) (var 3)) (mul (var 1) (var 2)))) (mul (sum (mul (var 0) (var 2)) (mul (var 1) (var 3))) (sum (mul (var 0) (var 2)) (mul (var 1) (var 3))))) (mul (sum (mul (var 0) (var 0)) (mul (var 1) (var 1))) (sum (mul (var 2) (var 2)) (mul (var 3) (var 3)))) refl

pub size_square : (z : ℤ) → pos (unsigned_abs z * unsigned_abs z) ≡ z *ℤ z
size_square z = ap pos (sym (unsigned_abs-mul z z)) ∙ size_of_nonneg (z *ℤ z) (square_nonneg z)

part_is_less : (x u w : ℤ) → x +ℤ u ≡ w → pos 0 ≤ℤ u → x ≤ℤ w
part_is_less x u w e h = omega (arith, ints)

in_nat : (n m : ℕ) → pos n ≤ℤ pos m → n ≤ m
in_nat n m h = omega (arith, ints)

pub line_small : (e : Edge) (p : Coordinates) (start length : ℕ) → 1 ≤ length → pos length ≡ square_of e.a e.b → pos start ≡ square_of e.a p → start ≤ cross_bound →
    unsigned_abs (cross_at e p) * unsigned_abs (cross_at e p) < length * 2 ^ 64
line_small e p start length some is start_is small =
    let product : square_of e.a e.b *ℤ square_of e.a p ≡ pos (length * start) = ap (λ z. z *ℤ square_of e.a p) (sym is) ∙ ap (λ z. pos length *ℤ z) (sym start_is) in
    let h : (cross_at e p *ℤ cross_at e p) ≤ℤ pos (length * start) =
    part_is_less (cross_at e p *ℤ cross_at e p) (along e p *ℤ along e p) (pos (length * start)) (two_squares e p ∙ product) (square_nonneg (along e p)) in
    let k : unsigned_abs (cross_at e p) * unsigned_abs (cross_at e p) ≤ length * start =
    in_nat _ _ (moved (cross_at e p *ℤ cross_at e p) (pos (unsigned_abs (cross_at e p) * unsigned_abs (cross_at e p))) (pos (length * start)) (size_square (cross_at e p)) h) in
    let j : length * start ≤ length * cross_bound = mul-le-mul_left length small in
    below (unsigned_abs (cross_at e p) * unsigned_abs (cross_at e p)) (length * start) length k j some
  where
    moved : (a b c : ℤ) → b ≡ a → a ≤ℤ c → b ≤ℤ c
    moved a b c e h = omega (arith, ints)

    below : (n m l : ℕ) → n ≤ m → m ≤ l * cross_bound → 1 ≤ l → n < l * 2 ^ 64
    below n m l h k s = omega arith
