-- Reading the fields of a file from left to right. The first field that is refused decides.
use Rattle.std.specs.Prelude.{ℕ, zero, suc, ◌+◌, List, [], ◌∷◌, ◌++◌, length, take, drop, nat_lt, Result, Ok, Err, if◌then◌else◌}
use Rattle.byteorder.specs.Endian.{big_number}
use Rattle.sf_streams.specs.Streams.{Left}
use Rattle.sf_format.specs.declared.defect.Defect.{Defect}
use Rattle.sf_format.specs.declared.defect.Defect.TheVariants.{Truncated, Trailing}

-- what is wrong with a file, and the place of the field that is refused
pub record Fault : Type 0 where
  pub place : ℕ
  pub defect : Defect

-- a value and what is left after it, or the first fault
abbrev pub Reads : Type 0 → Type 0
Reads T = Result (T × Left) Fault

-- what is read from the front of the bytes that are left
abbrev pub Reading : Type 0 → Type 0
Reading T = Left → Reads T

-- a reading after what was read before it
abbrev pub and_then : {A B : Type 0} → Reads A → (A → Reading B) → Reads B
and_then (Ok x) next = next x.0 x.1
and_then (Err fault) next = Err fault

infixl 10 ◌>>=◌
-- one reading after another
abbrev pub ◌>>=◌ : {A B : Type 0} → Reading A → (A → Reading B) → Reading B
(read >>= next) left = and_then (read left) next

-- a value, of no bytes
abbrev pub done : {T : Type 0} → T → Reading T
done value left = Ok (value, left)

-- so many bytes; where the file ends before them, the fault is at its end
abbrev pub bytes : ℕ → Reading (List ℕ)
bytes count left =
    if nat_lt (length left.bytes) count
    then Err (record { place = left.place + length left.bytes; defect = Truncated })
    else Ok (take count left.bytes, record { place = left.place + count; bytes = drop count left.bytes })

-- what a rule made of a field at a place, and what is left after the field
abbrev pub judged : {T : Type 0} → ℕ → Left → Result T Defect → Reads T
judged place rest (Ok value) = Ok (value, rest)
judged place rest (Err defect) = Err (record { place = place; defect = defect })

-- a field that a rule turns into a value or refuses; the fault is at the place of the field's first byte
abbrev pub field : {A B : Type 0} → Reading A → (A → Result B Defect) → Reading B
field read rule left = and_then (read left) (λ value rest. judged left.place rest (rule value))

-- a number of so many bytes, the most significant first
abbrev pub number : ℕ → Reading ℕ
number count = do
  digits ← bytes count
  done (big_number count digits)

-- a length of so many bytes that a rule passes, and as many bytes as it says
abbrev pub sized : ℕ → (ℕ → Result ℕ Defect) → Reading (List ℕ)
sized count rule = do
  size ← field (number count) rule
  bytes size

-- as many items, one after another, each read in the light of those before it
abbrev pub items : {X : Type 0} → (List X → Reading X) → ℕ → List X → Reading (List X)
items item zero earlier = done earlier
items item (suc count) earlier = do
  x ← item earlier
  items item count (earlier ++ x ∷ [])

-- nothing is left
abbrev pub end : Reading (Unit {0})
end left = ended left.bytes
  where
    ended : List ℕ → Reads (Unit {0})
    ended [] = Ok (tt, left)
    ended (b ∷ more) = Err (record { place = left.place; defect = Trailing })
