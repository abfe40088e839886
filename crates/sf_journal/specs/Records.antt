-- The journal of a store: a head that names the file which it goes on from, and a record for each edit since.
use Rattle.std.specs.Prelude.{ℕ, ◌+◌, ◌==◌, Bool, false, ◌&&◌, List, [], ◌∷◌, ◌++◌, length, codes, decimal, nat_eq}
use Rattle.std.specs.List.{position, starts_with}
use Rattle.std.specs.Option.{option_map_or}
use Rattle.std.specs.Int.{w64, to_be_bytes}
use Rattle.sha2.specs.Sha256.{sha256}
use Rattle.hex.specs.Hex.{encode_lower}
use Rattle.sf_journal.specs.Crc.{crc, crc_on}

-- what each head begins with
abbrev pub head_front : List ℕ
head_front = codes "sfstore-journal 3 "

-- the head that names a file by its length in bytes and its SHA-256
abbrev pub head_with : ℕ → List ℕ → List ℕ
head_with size digest = head_front ++ (decimal size ++ (codes " " ++ (encode_lower digest ++ codes "\n")))

-- the head of the journal that goes on from a file of these bytes; a file that isn't there has none
abbrev pub head_of : List ℕ → List ℕ
head_of file = head_with (length file) (sha256 file)

-- the first line feed of bytes is the last of them
abbrev pub is_one_line : List ℕ → Bool
is_one_line bytes = option_map_or (λ place. place + 1 == length bytes) (position (λ byte. byte == 10) bytes) false

-- bytes are one line that begins as a head does, of whatever file: no record stands behind it
abbrev pub is_head_alone : List ℕ → Bool
is_head_alone bytes = starts_with nat_eq bytes head_front && is_one_line bytes

-- the sum behind a text: the CRC-64 of the head and of all texts up to this one, each with its line feed
abbrev pub sum_with : ℕ → List ℕ → ℕ
sum_with sum text = crc_on sum (text ++ 10 ∷ [])

-- what stands before the text of a record: the sum behind it as sixteen hexadecimal digits, and a blank
abbrev pub mark_of : ℕ → List ℕ
mark_of sum = encode_lower (to_be_bytes w64 sum) ++ 32 ∷ []

-- the record of a text, without its line feed
abbrev pub line_of : ℕ → List ℕ → List ℕ
line_of sum text = mark_of (sum_with sum text) ++ text

-- the record of a text behind a sum
abbrev pub record_of : ℕ → List ℕ → List ℕ
record_of sum text = line_of sum text ++ 10 ∷ []

-- the records of texts, one after another
abbrev pub records : ℕ → List (List ℕ) → List ℕ
records sum [] = []
records sum (text ∷ texts) = record_of sum text ++ records (sum_with sum text) texts

-- the sum behind several texts
abbrev pub sum_behind : ℕ → List (List ℕ) → ℕ
sum_behind sum [] = sum
sum_behind sum (text ∷ texts) = sum_behind (sum_with sum text) texts

-- the sum behind the head of the journal that goes on from a file
abbrev pub first_sum : List ℕ → ℕ
first_sum file = crc (head_of file)

-- the journal of these texts, which goes on from a file
abbrev pub journal_of : List ℕ → List (List ℕ) → List ℕ
journal_of file texts = head_of file ++ records (first_sum file) texts
