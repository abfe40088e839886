-- The height of an edge of the order is a number, and what a test of two numbers says of their order.
use Rattle.std.proofs.Common.{◌≡◌, arith, true}
use Rattle.std.specs.declared.cmp.Ordering.TheVariants.{Less}
use Rattle.std.proofs.lemmas.Int.{ints}
use Rattle.sf_grid.specs.Fraction.{Fraction, IsFraction, fraction_cmp, fraction_lt}
use Rattle.sf_grid.proofs.CallerLemmas.{lt_from_test, product_pos, run_pos}
use Rattle.sf_strips.specs.declared.slanted.Slanted.{Slanted}
use Rattle.sf_strips.proofs.CallerLemmas.{height_in}

-- the height of an edge that runs to the right is a number
pub height_in-number : (x : Fraction) (e : Slanted) → IsFraction x → IsFraction (height_in x e)
height_in-number x e i = record { positive = product_pos _ x.den (run_pos e.left.x e.right.x (lt_from_test _ _ e.rightward)) i.positive }

-- ---- what the tests say of the side
pub less_from_lt : (q r : Fraction) → fraction_lt q r ≡ true → fraction_cmp q r ≡ Less
less_from_lt q r h = grind (arith, ints)
