-- Worked rows: the check value that is published for CRC-64/XZ, and the journal of docs/use/FORMAT.md, computed.
use Rattle.std.specs.Prelude.{◌≡◌, ℕ, List, [], ◌∷◌, ◌++◌, codes, refl}
use Rattle.hex.specs.Hex.{encode_with}
use Rattle.sf_journal.specs.Crc.{behind_bit, behind_bits, crc, crc_on}
use Rattle.sf_journal.specs.Records.{records}

-- of the digits from 1 to 9
check-row : crc (codes "123456789") ≡ 0x995DC9BBDF1939FA
unfolding crc_on behind_bit behind_bits
check-row = refl

-- a new store's head, its line feed included
abbrev head : List ℕ
head = codes "sfstore-journal 3 0 e3b0c44298fc1c149afbf4c8996fb92427ae41e4649b934ca495991b7852b855" ++ 10 ∷ []

abbrev texts : List (List ℕ)
texts = codes "layer add wells point" ∷ codes "add wells POINT (3 4)" ∷ codes "@2 add wells POINT (5 6)" ∷ codes "@2 undo" ∷ []

journal-row : records (crc head) texts
    ≡ codes "fbfce018e8cb179b layer add wells point" ++ (10 ∷ codes "20382dd122b2c7bd add wells POINT (3 4)"
    ++ (10 ∷ codes "57619f782d18b637 @2 add wells POINT (5 6)" ++ (10 ∷ codes "fece2536221ccd3b @2 undo" ++ 10 ∷ [])))
unfolding crc_on behind_bit behind_bits encode_with
journal-row = refl
