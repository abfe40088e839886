-- What a reading promises of its value.
use Rattle.std.proofs.Common.{◌≡◌, ℕ, zero, suc, ◌+◌, ◌^◌, ◌<◌, Bool, true, false, cond, ltb, List, [], ◌∷◌, ◌++◌, length, take, drop, slice_index, Result, Ok, Err, refl, ap, subst, arith}
use Rattle.byteorder.specs.Endian.{big_number}
use Rattle.byteorder.specs.Numbers.{big_from-lt}
use Rattle.sf_streams.specs.Streams.{Left}
use Rattle.sf_format.specs.declared.defect.Defect.{Defect}
use Rattle.sf_format.specs.declared.defect.Defect.TheVariants.{Truncated}
use Rattle.sf_format.specs.Readings.{Reads, Reading, and_then, ◌>>=◌, done, bytes, judged, field, number, sized, items}
use Rattle.sf_format.specs.Laws.{AreBytes}

AreBytes-drop : (n : ℕ) (text : List ℕ) → AreBytes text → AreBytes (drop n text)
AreBytes-drop zero text h = h
AreBytes-drop (suc n) [] h = h
AreBytes-drop (suc n) (b ∷ text) h = AreBytes-drop n text h.1

AreBytes-take : (n : ℕ) (text : List ℕ) → AreBytes text → AreBytes (take n text)
AreBytes-take zero text h = tt
AreBytes-take (suc n) [] h = h
AreBytes-take (suc n) (b ∷ text) h = (h.0, AreBytes-take n text h.1)

byte-at : (text : List ℕ) → AreBytes text → (k : ℕ) → slice_index text k < 256
byte-at [] h k = omega arith
byte-at (b ∷ text) h zero = h.0
byte-at (b ∷ text) h (suc k) = byte-at text h.1 k

-- what a reading gives of bytes has the property, and bytes are left
abbrev pub Promises : {T : Type 0} → Reading T → (T → Type 0) → Type 0
Promises {T} read P = (left : Left) (x : T) (rest : Left) → AreBytes left.bytes → read left ≡ Ok (x, rest) → P x × AreBytes rest.bytes

pub and_then_ok : {A B : Type 0} (r : Reads A) (next : A → Reading B) (y : B) (rest : Left) → and_then r next ≡ Ok (y, rest) → (x : A) × (mid : Left) × (r ≡ Ok (x, mid)) × (next x mid ≡ Ok (y, rest))
and_then_ok (Ok x) next y rest e = (x.0, x.1, refl, e)
and_then_ok (Err fault) next y rest e = absurd cc

pub judged_ok : {B : Type 0} (place : ℕ) (mid : Left) (r : Result B Defect) (y : B) (rest : Left) → judged place mid r ≡ Ok (y, rest) → (r ≡ Ok y) × (mid ≡ rest)
judged_ok place mid (Ok v) y rest e =
    let pair : ◌≡◌ {A = _ × Left} (v, mid) (y, rest) = cc in (ap Ok (ap (λ p. p.0) pair), ap (λ p. p.1) pair)
judged_ok place mid (Err defect) y rest e = absurd cc

pub Promises-then : {A B : Type 0} (read : Reading A) (next : A → Reading B) (P : A → Type 0) (Q : B → Type 0) → Promises read P → ((x : A) → P x → Promises (next x) Q) → Promises (read >>= next) Q
Promises-then read next P Q first second left y rest fits e =
    let s = and_then_ok (read left) next y rest e in
    let p = first left s.0 s.1 fits s.2 in
    second s.0 p.0 s.1 y rest p.1 s.3

pub Promises-field : {A B : Type 0} (read : Reading A) (rule : A → Result B Defect) (P : A → Type 0) (Q : B → Type 0) → Promises read P → ((x : A) (y : B) → P x → rule x ≡ Ok y → Q y) → Promises (field read rule) Q
Promises-field read rule P Q first passes left y rest fits e =
    let s = and_then_ok (read left) (λ value after. judged left.place after (rule value)) y rest e in
    let p = first left s.0 s.1 fits s.2 in
    let j = judged_ok left.place s.1 (rule s.0) y rest s.3 in
    (passes s.0 y p.0 j.0, subst (λ (l : Left). AreBytes l.bytes) j.1 p.1)

pub Promises-done : {T : Type 0} (P : T → Type 0) (x : T) → P x → Promises (done x) P
Promises-done P x holds left y rest fits e =
    let pair : ◌≡◌ {A = _ × Left} (x, left) (y, rest) = cc in
    (subst P (ap (λ p. p.0) pair) holds, subst (λ (l : Left). AreBytes l.bytes) (ap (λ p. p.1) pair) fits)

pub Promises-bytes : (count : ℕ) → Promises (bytes count) AreBytes
Promises-bytes count left x rest fits e = by_test (ltb (length left.bytes) count) e
  where
    cut : Reads (List ℕ)
    cut = Err (record { place = left.place + length left.bytes; defect = Truncated })

    taken : Reads (List ℕ)
    taken = Ok (take count left.bytes, record { place = left.place + count; bytes = drop count left.bytes })

    by_test : (b : Bool) → cond b cut taken ≡ Ok (x, rest) → AreBytes x × AreBytes rest.bytes
    by_test true e = absurd cc
    by_test false e =
        let pair : ◌≡◌ {A = List ℕ × Left} (take count left.bytes, record { place = left.place + count; bytes = drop count left.bytes }) (x, rest) = cc in
        (subst AreBytes (ap (λ p. p.0) pair) (AreBytes-take count left.bytes fits), subst (λ (l : Left). AreBytes l.bytes) (ap (λ p. p.1) pair) (AreBytes-drop count left.bytes fits))

pub Promises-number : (count : ℕ) → Promises (number count) (λ n. n < 256 ^ count)
Promises-number count = Promises-then (bytes count) (λ digits. done (big_number count digits)) AreBytes (λ n. n < 256 ^ count) (Promises-bytes count)
    (λ digits fits. Promises-done (λ n. n < 256 ^ count) (big_number count digits) (big_from-lt 0 count digits (byte-at digits fits)))

pub Promises-rule : {B : Type 0} (count : ℕ) (rule : ℕ → Result B Defect) (Q : B → Type 0) → ((n : ℕ) (y : B) → n < 256 ^ count → rule n ≡ Ok y → Q y) → Promises (field (number count) rule) Q
Promises-rule count rule Q passes = Promises-field (number count) rule (λ n. n < 256 ^ count) Q (Promises-number count) passes

pub Promises-sized : (count : ℕ) (rule : ℕ → Result ℕ Defect) → Promises (sized count rule) AreBytes
Promises-sized count rule = Promises-then (field (number count) rule) bytes (λ n. Unit {0}) AreBytes (Promises-rule count rule (λ n. Unit {0}) (λ n y fits e. tt)) (λ size any. Promises-bytes size)

pub Promises-items : {X : Type 0} (item : List X → Reading X) (P : List X → Type 0) → ((earlier : List X) → P earlier → Promises (item earlier) (λ x. P (earlier ++ x ∷ []))) → (count : ℕ) (earlier : List X) → P earlier
    → Promises (items item count earlier) P
Promises-items item P each zero earlier holds = Promises-done P earlier holds
Promises-items item P each (suc count) earlier holds =
    Promises-then (item earlier) (λ x. items item count (earlier ++ x ∷ [])) (λ x. P (earlier ++ x ∷ [])) P (each earlier holds) (λ x p. Promises-items item P each count (earlier ++ x ∷ []) p)

-- ---- what holds whatever was read

-- what a reading gives has the property
abbrev pub Tells : {T : Type 0} → Reading T → (T → Type 0) → Type 0
Tells {T} read P = (left : Left) (x : T) (rest : Left) → read left ≡ Ok (x, rest) → P x

pub Tells-then : {A B : Type 0} (read : Reading A) (next : A → Reading B) (P : A → Type 0) (Q : B → Type 0) → Tells read P → ((x : A) → P x → Tells (next x) Q) → Tells (read >>= next) Q
Tells-then read next P Q first second left y rest e =
    let s = and_then_ok (read left) next y rest e in
    second s.0 (first left s.0 s.1 s.2) s.1 y rest s.3

pub Tells-field : {A B : Type 0} (read : Reading A) (rule : A → Result B Defect) (P : A → Type 0) (Q : B → Type 0) → Tells read P → ((x : A) (y : B) → P x → rule x ≡ Ok y → Q y) → Tells (field read rule) Q
Tells-field read rule P Q first passes left y rest e =
    let s = and_then_ok (read left) (λ value after. judged left.place after (rule value)) y rest e in
    passes s.0 y (first left s.0 s.1 s.2) (judged_ok left.place s.1 (rule s.0) y rest s.3).0

-- a rule tells of its field
pub Tells-rule : {A B : Type 0} (read : Reading A) (rule : A → Result B Defect) (Q : B → Type 0) → ((x : A) (y : B) → rule x ≡ Ok y → Q y) → Tells (field read rule) Q
Tells-rule read rule Q passes = Tells-field read rule (λ x. Unit {0}) Q (λ left x rest e. tt) (λ x y any e. passes x y e)

pub Tells-done : {T : Type 0} (P : T → Type 0) (x : T) → P x → Tells (done x) P
Tells-done P x holds left y rest e = let pair : ◌≡◌ {A = _ × Left} (x, left) (y, rest) = cc in subst P (ap (λ p. p.0) pair) holds

pub Tells-items : {X : Type 0} (item : List X → Reading X) (P : List X → Type 0) → ((earlier : List X) → P earlier → Tells (item earlier) (λ x. P (earlier ++ x ∷ []))) → (count : ℕ) (earlier : List X) → P earlier
    → Tells (items item count earlier) P
Tells-items item P each zero earlier holds = Tells-done P earlier holds
Tells-items item P each (suc count) earlier holds =
    Tells-then (item earlier) (λ x. items item count (earlier ++ x ∷ [])) (λ x. P (earlier ++ x ∷ [])) P (each earlier holds) (λ x p. Tells-items item P each count (earlier ++ x ∷ []) p)

-- ---- what leaves bytes

abbrev pub Leaves : {T : Type 0} → Reading T → Type 0
Leaves read = Promises read (λ x. Unit {0})

pub Leaves-of : {T : Type 0} (read : Reading T) (P : T → Type 0) → Promises read P → Leaves read
Leaves-of read P promises left x rest fits e = (tt, (promises left x rest fits e).1)

pub Leaves-then : {A B : Type 0} (read : Reading A) (next : A → Reading B) → Leaves read → ((x : A) → Leaves (next x)) → Leaves (read >>= next)
Leaves-then read next first second = Promises-then read next (λ x. Unit {0}) (λ y. Unit {0}) first (λ x any. second x)

pub Leaves-field : {A B : Type 0} (read : Reading A) (rule : A → Result B Defect) → Leaves read → Leaves (field read rule)
Leaves-field read rule first = Promises-field read rule (λ x. Unit {0}) (λ y. Unit {0}) first (λ x y any e. tt)

pub Leaves-rule : {B : Type 0} (count : ℕ) (rule : ℕ → Result B Defect) → Leaves (field (number count) rule)
Leaves-rule count rule = Promises-rule count rule (λ y. Unit {0}) (λ n y fits e. tt)

pub Leaves-done : {T : Type 0} (x : T) → Leaves (done x)
Leaves-done x = Promises-done (λ y. Unit {0}) x tt

pub Leaves-items : {X : Type 0} (item : List X → Reading X) → ((earlier : List X) → Leaves (item earlier)) → (count : ℕ) (earlier : List X) → Leaves (items item count earlier)
Leaves-items item each count earlier = Promises-items item (λ xs. Unit {0}) (λ earlier any. each earlier) count earlier tt

-- a reading that leaves bytes promises what it tells
pub Promises-told : {T : Type 0} (read : Reading T) (P : T → Type 0) → Leaves read → Tells read P → Promises read P
Promises-told read P leaves tells left x rest fits e = (tells left x rest e, (leaves left x rest fits e).1)
