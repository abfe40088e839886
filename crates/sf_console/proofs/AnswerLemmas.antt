-- How long the answers of one line are.
use Rattle.std.proofs.Common.{◌≡◌, ℕ, ◌+◌, ◌/◌, ◌%◌, ◌^◌, ◌<◌, ◌≤◌, [], ◌∷◌, ◌++◌, length, decimal, lit≤, lit<, ap, ◌∙◌, arith, length-append}
use Rattle.std.proofs.lemmas.Fmt.{decimal_step, length-decimal-le}
use Rattle.sf_refusals.specs.declared.refusal.Refusal.{Refusal}
use Rattle.sf_refusals.specs.declared.refusal.Refusal.TheVariants.{Memory}
use Rattle.sf_refusals.specs.Refusals.{name_of}

-- the digits of a number of several digits
pub decimal-more : (n : ℕ) → 10 ≤ n → n < 2 ^ 64 → decimal n ≡ decimal (n / 10) ++ (48 + n % 10) ∷ []
decimal-more n several small = decimal_step n several (omega arith)

pub length-decimal-more : (n : ℕ) → 10 ≤ n → n < 2 ^ 64 → length (decimal n) ≡ length (decimal (n / 10)) + 1
length-decimal-more n several small = ap length (decimal-more n several small) ∙ length-append (decimal (n / 10)) ((48 + n % 10) ∷ [])

-- a number of 32 bits has at most ten digits
pub length-decimal-id : (n : ℕ) → n < 2 ^ 32 → length (decimal n) ≤ 10
length-decimal-id n small = length-decimal-le 10 n (lit< tt) (omega arith) (omega arith)

-- one of 64 bits has at most twenty
pub length-decimal-count : (n : ℕ) → n < 2 ^ 64 → length (decimal n) ≤ 20
length-decimal-count n small = length-decimal-le 20 n (lit< tt) (omega arith) (omega arith)

-- the number of a refusal has at most three digits
pub length-decimal-byte : (n : ℕ) → n < 2 ^ 8 → length (decimal n) ≤ 3
length-decimal-byte n small = length-decimal-le 3 n (lit< tt) (omega arith) (omega arith)

-- the name of a refusal is short
pub length-name_of : (refusal : Refusal) → length (name_of refusal) ≤ 16
length-name_of Memory = lit≤ tt
length-name_of refusal = lit≤ tt
