-- Names are texts.
use Rattle.std.proofs.Common.{◌≡◌, ℕ, zero, suc, Bool, true, false, not, List, [], ◌∷◌, ◌<◌, ◌&&◌, refl, ap, arith}
use Rattle.std.proofs.lemmas.Bool.Decides.{nat_tests}
use Rattle.std.specs.Char.{is_ascii_alphabetic}
use Rattle.std.specs.List.{list_all}
use Rattle.std.specs.Prelude.{nat_le, length}
use Rattle.std.specs.Str.{IsAscii, IsUtf8, is_utf8}
use Rattle.std.proofs.lemmas.Str.{IsUtf8-from_ascii, IsUtf8-from_is_utf8, is_utf8-from_IsUtf8}
use Rattle.sf_features.specs.Names.{is_name, is_name_byte}

pub not-utf8 : (found : List ℕ) → (IsUtf8 found → ⊥) → is_utf8 found ≡ false
not-utf8 found wrong = by (is_utf8 found) refl
  where
    by : (t : Bool) → is_utf8 found ≡ t → t ≡ false
    by false h = refl
    by true h = absurd (wrong (IsUtf8-from_is_utf8 found h))

-- a name is free where it is not taken
pub free-test : (free taken : Bool) → taken ≡ not free → not taken ≡ free
free-test true taken h = ap not h
free-test false taken h = ap not h

small : (b : ℕ) → is_name_byte b ≡ true → b < 128
small b h = grind (arith, nat_tests, h)

both : (a b : Bool) → (a && b) ≡ true → (a ≡ true) × (b ≡ true)
both true true h = (refl, refl)
both true false h = absurd cc
both false b h = absurd cc

all-small : (bytes : List ℕ) → list_all is_name_byte bytes ≡ true → IsAscii bytes
all-small [] h i = omega arith
all-small (b ∷ bytes) h zero = small b (both (is_name_byte b) (list_all is_name_byte bytes) h).0
all-small (b ∷ bytes) h (suc i) = all-small bytes (both (is_name_byte b) (list_all is_name_byte bytes) h).1 i

small-letter : (b : ℕ) → is_ascii_alphabetic b ≡ true → b < 128
small-letter b h = grind (arith, nat_tests, h)

name-ascii : (found : List ℕ) → is_name found ≡ true → IsAscii found
name-ascii [] h i = absurd cc
name-ascii (b ∷ bytes) h zero = small-letter b (both (is_ascii_alphabetic b) (nat_le (length bytes) 31) (both (is_ascii_alphabetic b && nat_le (length bytes) 31) (list_all is_name_byte bytes) h).0).0
name-ascii (b ∷ bytes) h (suc i) = all-small bytes (both (is_ascii_alphabetic b && nat_le (length bytes) 31) (list_all is_name_byte bytes) h).1 i

-- what isn't UTF-8 is no name
pub no-name : (found : List ℕ) → is_utf8 found ≡ false → is_name found ≡ false
no-name found wrong = by (is_name found) refl
  where
    by : (t : Bool) → is_name found ≡ t → t ≡ false
    by false h = refl
    by true h = let right = is_utf8-from_IsUtf8 found (IsUtf8-from_ascii found (name-ascii found h)) in absurd cc
