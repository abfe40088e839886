-- The next one of some numbers, and the last one.
use Rattle.std.proofs.Common.{◌≡◌, true, List}
use Rattle.std.specs.List.{AllByRecursion}
use Rattle.sf_grid.specs.Fraction.{Fraction, IsFraction, fraction_le, fraction_lt}
use Rattle.sf_slabs.proofs.NumberLaws.{Among}

-- y is the least of the numbers above x
pub record IsNext (numbers : List Fraction) (x y : Fraction) : Type 0 where
  pub number : IsFraction y
  pub among : Among numbers y
  pub above : fraction_lt x y ≡ true
  pub least : AllByRecursion (λ q. fraction_lt x q ≡ true → fraction_le y q ≡ true) numbers

-- no number is above x
abbrev pub IsLast : List Fraction → Fraction → Type 0
IsLast numbers x = AllByRecursion (λ q. fraction_lt x q ≡ true → ⊥) numbers
