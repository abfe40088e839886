-- The bytes that are written of a number are its lowest ones.
use Rattle.std.proofs.Common.{◌≡◌, ◌%◌, ℕ, [], ◌∷◌, ap, arith, ◌∙◌}
use Rattle.byteorder.specs.Endian.{big_bytes}
use Rattle.std.specs.Int.{byte_at}

pub low-byte : (n : ℕ) → big_bytes 1 (n % 256) ≡ big_bytes 1 n
low-byte n = let same : byte_at 0 (n % 256) ≡ byte_at 0 n = omega arith in ap (λ (b : ℕ). b ∷ []) same

pub low-two : (n : ℕ) → big_bytes 2 (n % 65536) ≡ big_bytes 2 n
low-two n =
    let first : byte_at 1 (n % 65536) ≡ byte_at 1 n = omega arith in
    let second : byte_at 0 (n % 65536) ≡ byte_at 0 n = omega arith in
    ap (λ (b : ℕ). b ∷ (byte_at 0 (n % 65536) ∷ [])) first ∙ ap (λ (b : ℕ). byte_at 1 n ∷ (b ∷ [])) second
