-- What has no line feed: digits, marks, and records but for their ends.
use Rattle.std.proofs.Common.{◌≡◌, ℕ, zero, suc, ◌/◌, ◌%◌, Bool, true, false, ◌==◌, ◌||◌, List, [], ◌∷◌, slice_index, refl}
use Rattle.std.specs.List.{list_any}
use Rattle.std.specs.Int.{w64, to_be_bytes}
use Rattle.hex.specs.Hex.{encode_with, lower_digits}
use Rattle.sf_text_lines.specs.Lines.{HasNoFeed}
use Rattle.sf_text_lines.proofs.LineLemmas.{HasNoFeed-append}
use Rattle.sf_journal.specs.Records.{sum_with, mark_of, line_of}

-- two bytes in front of others
both : (a b c : Bool) → a ≡ false → b ≡ false → c ≡ false → (a || (b || c)) ≡ false
both true b c p q r = cc
both false true c p q r = cc
both false false c p q r = r

-- a digit at any place of a table without a line feed
digit : (table : List ℕ) (place : ℕ) → HasNoFeed table → (slice_index table place == 10) ≡ false
digit [] place unfed = refl
digit (x ∷ xs) zero unfed = first (x == 10) (list_any (λ b. b == 10) xs) unfed
  where
    first : (a b : Bool) → (a || b) ≡ false → a ≡ false
    first true b h = h
    first false b h = refl
digit (x ∷ xs) (suc place) unfed = digit xs place (rest (x == 10) (list_any (λ b. b == 10) xs) unfed)
  where
    rest : (a b : Bool) → (a || b) ≡ false → b ≡ false
    rest true b h = cc
    rest false b h = h

-- bytes in hexadecimal
HasNoFeed-encode_with : (table bytes : List ℕ) → HasNoFeed table → HasNoFeed (encode_with table bytes)
unfolding encode_with
HasNoFeed-encode_with table [] unfed = refl
HasNoFeed-encode_with table (b ∷ bytes) unfed =
    both (slice_index table (b / 16) == 10) (slice_index table (b % 16) == 10) (list_any (λ c. c == 10) (encode_with table bytes))
    (digit table (b / 16) unfed) (digit table (b % 16) unfed) (HasNoFeed-encode_with table bytes unfed)

-- the record of a text has none but at its end
pub HasNoFeed-line : (sum : ℕ) (text : List ℕ) → HasNoFeed text → HasNoFeed (line_of sum text)
HasNoFeed-line sum text unfed =
    HasNoFeed-append (mark_of (sum_with sum text)) text
    (HasNoFeed-append (encode_with lower_digits (to_be_bytes w64 (sum_with sum text))) (32 ∷ [])
    (HasNoFeed-encode_with lower_digits (to_be_bytes w64 (sum_with sum text)) refl) refl) unfed
