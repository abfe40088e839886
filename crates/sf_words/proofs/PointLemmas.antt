-- Two coordinates that words spell make a point.
use Rattle.std.proofs.Common.{◌≡◌, ℕ, ℤ, Bool, true, false, not, List, take, drop, Option, Some, None, Result, Ok, Err, ok_or, if◌then◌else◌, refl, sym, ap, ◌∙◌, subst, arith, w32}
use Rattle.std.proofs.lemmas.Int.{ints, to_z-of_z}
use Rattle.std.specs.Prelude.{SomeIff}
use Rattle.sf_refusals.specs.declared.refusal.Refusal.TheVariants as refusals
use Rattle.sf_grid.specs.Bounds.{IsCoordinate, is_coordinate}
use Rattle.sf_grid.specs.Plane.{Coordinates, IsOnGrid}
use Rattle.sf_wkt.specs.declared.fault.WktFault.{WktFault}
use Rattle.sf_wkt.specs.declared.fault.WktFault.TheVariants.{OutOfRange}
use Rattle.sf_wkt.specs.Tokens.{coordinate, coordinate_of, signed, digits_value, digits_len, is_number, is_whole, is_negative, sign_len, unsigned_coordinate}
use Rattle.sf_words.specs.Points.{point_by, point_of}
use mir.Val.{SFits, to_z, of_z}

by_test : (n m : ℤ) (b : Bool) → is_coordinate n ≡ b → (if not b then Err OutOfRange else Ok n) ≡ Ok m → IsCoordinate m
by_test n m false e h = cc
by_test n m true e h = let same : n ≡ m = cc in subst IsCoordinate same (grind (arith, ints))

on_grid : (n m : ℤ) (whole : Bool) → coordinate n whole ≡ Ok m → IsCoordinate m
on_grid n m false h = cc
on_grid n m true h = by_test n m (is_coordinate n) refl h

if_some : (b : Bool) (r s : Result ℤ WktFault) → (if b then Some r else None) ≡ Some s → r ≡ s
if_some false r s h = cc
if_some true r s h = cc

unsigned_on_grid : (negative : Bool) (unsigned : List ℕ) (m : ℤ)
    → (if is_number unsigned then Some (unsigned_coordinate negative unsigned) else None) ≡ Some (Ok m) → IsCoordinate m
unsigned_on_grid negative unsigned m h =
    let n = signed negative (digits_value (take (digits_len unsigned) unsigned)) in
    let whole = is_whole (drop (digits_len unsigned) unsigned) in
    on_grid n m whole (if_some (is_number unsigned) (coordinate n whole) (Ok m) h)

-- a coordinate that a word spells is on the grid
pub spelled_on_grid : (word : List ℕ) (m : ℤ) → coordinate_of word ≡ Some (Ok m) → IsCoordinate m
spelled_on_grid word m h = unsigned_on_grid (is_negative word) (drop (sign_len word) word) m h

point_is : (a b : List ℕ) (x y : ℤ) → coordinate_of a ≡ Some (Ok x) → coordinate_of b ≡ Some (Ok y) → point_of a b ≡ Ok (record { x = x; y = y })
point_is a b x y first second = ap (λ p. point_by p (coordinate_of b)) first ∙ ap (point_by (Some (Ok x))) second

-- the point that two coordinates make is there, and is what the words spell
pub point_gives : (a b : List ℕ) (x y : ℤ) (made : Option Coordinates) → SFits w32 x → SFits w32 y
    → coordinate_of a ≡ Some (Ok x) → coordinate_of b ≡ Some (Ok y)
    → SomeIff made (IsOnGrid (record { x = to_z w32 (of_z w32 x); y = to_z w32 (of_z w32 y) })) (record { x = to_z w32 (of_z w32 x); y = to_z w32 (of_z w32 y) })
    → ok_or made refusals.OutOfRange ≡ point_of a b
point_gives a b x y None fits_x fits_y first second made_is =
    absurd ((simp to_z-of_z at made_is) (spelled_on_grid a x first, spelled_on_grid b y second))
point_gives a b x y (Some p) fits_x fits_y first second made_is =
    let p_is = simp to_z-of_z at made_is.1 in
    ap (λ (q : Coordinates). Ok q) p_is ∙ sym (point_is a b x y first second)
