-- CRC-64 of ECMA-182, as CRC-64/XZ: the lowest bit of a byte comes first, and the register is inverted before the first byte
-- and behind the last.
use Rattle.std.specs.Prelude.{ℕ, zero, suc, ◌-◌, ◌/◌, ◌%◌, ◌^◌, ◌==◌, List, bit_xor, if◌then◌else◌}
use Rattle.std.specs.List.{fold}

-- the polynomial, its coefficients from that of the 63rd power in the lowest bit to that of the 0th in the highest
abbrev pub polynomial : ℕ
polynomial = 0xC96C5795D7870F42

-- the register one bit further: the polynomial is taken off where a bit falls out
unfoldable pub behind_bit : ℕ → ℕ
behind_bit register = if register % 2 == 1 then bit_xor (register / 2) polynomial else register / 2

-- the register so many bits further
unfoldable pub behind_bits : ℕ → ℕ → ℕ
behind_bits zero register = register
behind_bits (suc bits) register = behind_bits bits (behind_bit register)

-- the register behind a byte
abbrev pub behind_byte : ℕ → ℕ → ℕ
behind_byte register byte = behind_bits 8 (bit_xor register byte)

-- all bits of a register the other way round
abbrev pub inverted : ℕ → ℕ
inverted register = 2 ^ 64 - 1 - register

-- the CRC-64 of bytes that follow others, whose CRC-64 is known
unfoldable pub crc_on : ℕ → List ℕ → ℕ
crc_on known bytes = inverted (fold behind_byte (inverted known) bytes)

-- the CRC-64 of bytes
abbrev pub crc : List ℕ → ℕ
crc bytes = crc_on 0 bytes
