-- The table: the register behind a byte is what stands above its lowest eight bits, and the row of these on it.
use Rattle.std.proofs.Common.{◌≡◌, ℕ, zero, suc, ◌+◌, ◌*◌, ◌<◌, ◌/◌, ◌%◌, ◌^◌, ◌==◌, Bool, true, if◌then◌else◌, List, slice_index_or, bit_and, refl, sym, ap, ◌∙◌, arith, mul_assoc, ◌-◌, [], ◌∷◌, ◌++◌}
use Rattle.std.specs.Int.Bits.{bit_xor, xor_assoc, xor_zero_l, xor_zero_r}
use Rattle.std.proofs.lemmas.Nat.{xor_comm, xor_mod, xor_shr, xor_block, and_mask}
use Rattle.std.proofs.lemmas.Bool.{agree_below, agree_below_at, eqb-true}
use Rattle.std.proofs.Math.Nat.{pow-suc}
use Rattle.std.specs.List.{fold}
use Rattle.std.proofs.lemmas.List.Sums.{fold-append}
use Rattle.sf_journal.specs.declared.crc.TheConstants.{ROWS}
use Rattle.sf_journal.specs.Crc.{polynomial, behind_bit, behind_bits, behind_byte, crc, crc_on}

-- the rows of the table are what they are to be
is_row : ℕ → Bool
is_row n = slice_index_or ROWS n 0 == behind_bits 8 n

all_rows : agree_below is_row (λ n. true) 256 ≡ true
unfolding behind_bit behind_bits is_row
all_rows = refl

pub row-at : (n : ℕ) → n < 256 → slice_index_or ROWS n 0 ≡ behind_bits 8 n
unfolding is_row
row-at n small = eqb-true (slice_index_or ROWS n 0) (behind_bits 8 n) (agree_below_at is_row (λ n. true) 256 n all_rows small)

-- a bit is 0 or 1
bit_cases : (P : ℕ → Type 0) → P 0 → P 1 → (x : ℕ) → x < 2 → P x
bit_cases P p q zero h = p
bit_cases P p q (suc zero) h = q
bit_cases P p q (suc (suc r)) h = absurd (omega arith)

-- one bit further goes over a sum without carries
behind_bit-xor : (a b : ℕ) → behind_bit (bit_xor a b) ≡ bit_xor (behind_bit a) (behind_bit b)
unfolding behind_bit
behind_bit-xor a b =
    ap (λ r. if r == 1 then bit_xor (bit_xor a b / 2) polynomial else (bit_xor a b / 2)) (xor_mod a b 1)
    ∙ ap (λ h. if bit_xor (a % 2) (b % 2) == 1 then bit_xor h polynomial else h) (xor_shr a b 1)
    ∙ bit_cases (λ x. Adds x (b % 2)) (bit_cases (Adds 0) refl (xor_assoc h k p) (b % 2) (omega arith))
    (bit_cases (Adds 1) (xor_assoc h k p ∙ ap (bit_xor h) (xor_comm k p) ∙ sym (xor_assoc h p k)) both (b % 2) (omega arith)) (a % 2) (omega arith)
  where
    h : ℕ
    h = a / 2

    k : ℕ
    k = b / 2

    p : ℕ
    p = polynomial

    Adds : ℕ → ℕ → Type 0
    Adds x y =
        (if bit_xor x y == 1 then bit_xor (bit_xor h k) p else bit_xor h k)
        ≡ bit_xor (if x == 1 then bit_xor h p else h) (if y == 1 then bit_xor k p else k)

    both : bit_xor h k ≡ bit_xor (bit_xor h p) (bit_xor k p)
    both =
        ap (bit_xor h) (sym (xor_zero_l k) ∙ xor_assoc p p k ∙ ap (bit_xor p) (xor_comm p k)) ∙ sym (xor_assoc h p (bit_xor k p))

behind_bits-xor : (bits a b : ℕ) → behind_bits bits (bit_xor a b) ≡ bit_xor (behind_bits bits a) (behind_bits bits b)
unfolding behind_bits
behind_bits-xor zero a b = refl
behind_bits-xor (suc bits) a b = ap (behind_bits bits) (behind_bit-xor a b) ∙ behind_bits-xor bits (behind_bit a) (behind_bit b)

-- what stands above so many zeros comes down
behind_bit-even : (high : ℕ) → behind_bit (high * 2) ≡ high
unfolding behind_bit
behind_bit-even high =
    let even : high * 2 % 2 ≡ 0 = omega arith in
    let half : high * 2 / 2 ≡ high = omega arith in
    ap (λ r. if r == 1 then bit_xor (high * 2 / 2) polynomial else (high * 2 / 2)) even ∙ half

behind_bits-high : (bits high : ℕ) → behind_bits bits (high * 2 ^ bits) ≡ high
unfolding behind_bits
behind_bits-high zero high = omega arith
behind_bits-high (suc bits) high =
    let double : high * 2 ^ suc bits ≡ high * 2 ^ bits * 2 = ap (λ n. high * n) (pow-suc 2 bits) ∙ sym (mul_assoc high (2 ^ bits) 2) in
    ap (λ n. behind_bits bits (behind_bit n)) double ∙ ap (behind_bits bits) (behind_bit-even (high * 2 ^ bits)) ∙ behind_bits-high bits high

-- a number is its high part and its low byte
parted : (x : ℕ) → x ≡ bit_xor (x / 256 * 256) (x % 256)
parted x =
    let within : x % 256 < 2 ^ 8 = omega arith in
    let high : x / 256 * 256 + 0 ≡ x / 256 * 256 = omega arith in
    let low : 0 * 256 + x % 256 ≡ x % 256 = omega arith in
    let sum : x ≡ x / 256 * 256 + x % 256 = omega arith in
    sum ∙ ap (λ n. n * 256 + x % 256) (sym (xor_zero_r (x / 256))) ∙ ap (λ n. bit_xor (x / 256) 0 * 256 + n) (sym (xor_zero_l (x % 256)))
    ∙ sym (xor_block 8 (x / 256) 0 0 (x % 256) (omega arith) within) ∙ ap (λ n. bit_xor n (0 * 256 + x % 256)) high ∙ ap (bit_xor (x / 256 * 256)) low

-- the register behind a byte, by the row of the byte that falls out
pub behind-by_row : (register byte row : ℕ) → byte < 256 → row ≡ behind_bits 8 (bit_and (bit_xor register byte) 255)
    → bit_xor (register / 256) row ≡ behind_byte register byte
behind-by_row register byte row small is =
    let x = bit_xor register byte in
    let low : bit_and x 255 ≡ x % 256 = and_mask x 8 in
    let none : byte / 256 ≡ 0 = omega arith in
    let high : x / 256 ≡ register / 256 = xor_shr register byte 8 ∙ ap (bit_xor (register / 256)) none ∙ xor_zero_r (register / 256) in
    let split : x ≡ bit_xor (x / 256 * 256) (x % 256) = parted x in
    ap (bit_xor (register / 256)) (is ∙ ap (behind_bits 8) low)
    ∙ ap (λ n. bit_xor n (behind_bits 8 (x % 256))) (sym high ∙ sym (behind_bits-high 8 (x / 256)))
    ∙ sym (behind_bits-xor 8 (x / 256 * 256) (x % 256)) ∙ ap (behind_bits 8) (sym split)

-- the CRC of bytes, by the register behind them
pub crc-by_register : (bytes : List ℕ) (register : ℕ) → register ≡ fold behind_byte (2 ^ 64 - 1) bytes → 2 ^ 64 - 1 - register ≡ crc bytes
unfolding crc_on
crc-by_register bytes register is = ap (λ n. 2 ^ 64 - 1 - n) is

-- the CRC behind a line, by the register behind its bytes and its line feed
pub crc-by_line : (known : ℕ) (line : List ℕ) (register last : ℕ) → register ≡ fold behind_byte (2 ^ 64 - 1 - known) line → last ≡ behind_byte register 10
    → 2 ^ 64 - 1 - last ≡ crc_on known (line ++ 10 ∷ [])
unfolding crc_on
crc-by_line known line register last is goes =
    ap (λ n. 2 ^ 64 - 1 - n) (goes ∙ ap (λ n. behind_byte n 10) is ∙ sym (fold-append behind_byte (2 ^ 64 - 1 - known) line (10 ∷ [])))
