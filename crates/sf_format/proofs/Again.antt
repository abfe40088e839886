-- What was written is read again, field by field.
use Rattle.std.proofs.Common.{◌≡◌, ℕ, suc, ◌+◌, ◌^◌, ◌<◌, false, ltb, List, [], ◌∷◌, ◌++◌, length, Result, Ok, refl, sym, ap, subst, ◌∙◌, append_assoc, append-nil, arith, length-append}
use Rattle.std.specs.List.{flat_map}
use Rattle.std.proofs.lemmas.Bool.{le-ltb}
use Rattle.std.proofs.lemmas.List.{take_at, drop_at}
use Rattle.std.proofs.lemmas.List.Concat.{flat_map-cons}
use Rattle.byteorder.specs.Endian.{big_number, big_bytes}
use Rattle.byteorder.specs.Numbers.{big_number-reads_back, length-bytes_high_first}
use Rattle.sf_format.specs.declared.defect.Defect.{Defect}
use Rattle.sf_streams.specs.Streams.{Left}
use Rattle.sf_format.specs.Readings.{Reads, Reading, and_then, ◌>>=◌, done, bytes, judged, field, number, sized, items}

abbrev pub at : ℕ → List ℕ → Left
at place text = record { place = place; bytes = text }

-- the text is read as the value, wherever it stands and whatever follows it
abbrev pub Again : {T : Type 0} → Reading T → List ℕ → T → Type 0
Again read text value = (place : ℕ) (rest : List ℕ) → read (at place (text ++ rest)) ≡ Ok (value, at (place + length text) rest)

abbrev read_as : {T : Type 0} → T → ℕ → List ℕ → Reads T
read_as value place rest = Ok (value, at place rest)

pub Again-then : {A B : Type 0} (read : Reading A) (next : A → Reading B) (front back : List ℕ) (x : A) (y : B)
    → Again read front x → Again (next x) back y → Again (read >>= next) (front ++ back) y
Again-then read next front back x y first second place rest =
    ap (λ (text : List ℕ). and_then (read (at place text)) next) (append_assoc front back rest)
    ∙ ap (λ r. and_then r next) (first place (back ++ rest))
    ∙ second (place + length front) rest
    ∙ ap (λ p. read_as y p rest) (omega (arith, length-append front back))

pub Again-done : {T : Type 0} (value : T) → Again (done value) [] value
Again-done value place rest = ap (λ p. read_as value p rest) (omega arith)

-- the last reading, and what is made of its value
pub Again-made : {A B : Type 0} (read : Reading A) (make : A → B) (text : List ℕ) (x : A) → Again read text x → Again (read >>= λ v. done (make v)) text (make x)
Again-made read make text x first place rest = ap (λ r. and_then r (λ v. done (make v))) (first place rest)

pub Again-value : {T : Type 0} (read : Reading T) (text : List ℕ) (x y : T) → x ≡ y → Again read text x → Again read text y
Again-value read text x y same first = subst (λ v. Again read text v) same first

pub Again-bytes : (count : ℕ) (text : List ℕ) → length text ≡ count → Again (bytes count) text text
Again-bytes count text len place rest =
    let long : ltb (length (text ++ rest)) count ≡ false = le-ltb _ _ (omega (arith, length-append text rest, len)) in
    rw (long, take_at text rest count len, drop_at text rest count len, len) refl

pub Again-field : {A B : Type 0} (read : Reading A) (rule : A → Result B Defect) (text : List ℕ) (x : A) (y : B)
    → Again read text x → rule x ≡ Ok y → Again (field read rule) text y
Again-field read rule text x y first passes place rest =
    ap (λ r. and_then r (λ value left. judged place left (rule value))) (first place rest)
    ∙ ap (judged place (at (place + length text) rest)) passes

pub Again-number : (count n : ℕ) → n < 256 ^ count → Again (number count) (big_bytes count n) n
Again-number count n fits =
    let back : big_number count (big_bytes count n) ≡ n = ap (big_number count) (sym (append-nil (big_bytes count n))) ∙ big_number-reads_back count n [] fits in
    Again-value (number count) (big_bytes count n) _ n back
    (Again-made (bytes count) (big_number count) (big_bytes count n) (big_bytes count n) (Again-bytes count (big_bytes count n) (length-bytes_high_first count n)))

pub Again-number_field : {B : Type 0} (count n : ℕ) (rule : ℕ → Result B Defect) (y : B) → n < 256 ^ count → rule n ≡ Ok y → Again (field (number count) rule) (big_bytes count n) y
Again-number_field count n rule y fits passes = Again-field (number count) rule (big_bytes count n) n y (Again-number count n fits) passes

pub Again-sized : (count : ℕ) (rule : ℕ → Result ℕ Defect) (text : List ℕ) → length text < 256 ^ count → rule (length text) ≡ Ok (length text)
    → Again (sized count rule) (big_bytes count (length text) ++ text) text
Again-sized count rule text fits passes =
    Again-then (field (number count) rule) bytes (big_bytes count (length text)) text (length text) text
    (Again-number_field count (length text) rule (length text) fits passes) (Again-bytes (length text) text refl)

-- each item is read again behind those before it
abbrev pub EachAgain : {X : Type 0} → (List X → Reading X) → (X → List ℕ) → List X → List X → Type 0
EachAgain item text earlier [] = Unit {0}
EachAgain item text earlier (x ∷ xs) = Again (item earlier) (text x) x × EachAgain item text (earlier ++ x ∷ []) xs

pub Again-items : {X : Type 0} (item : List X → Reading X) (text : X → List ℕ) (earlier xs : List X) → EachAgain item text earlier xs
    → Again (items item (length xs) earlier) (flat_map text xs) (earlier ++ xs)
Again-items item text earlier [] each = Again-value (done earlier) [] earlier (earlier ++ []) (sym (append-nil earlier)) (Again-done earlier)
Again-items item text earlier (x ∷ xs) each =
    let later = Again-items item text (earlier ++ x ∷ []) xs each.1 in
    let both = Again-then (item earlier) (λ x. items item (length xs) (earlier ++ x ∷ [])) (text x) (flat_map text xs) x _ each.0 later in
    let value : (earlier ++ x ∷ []) ++ xs ≡ earlier ++ x ∷ xs = append_assoc earlier (x ∷ []) xs in
    subst (λ (t : List ℕ). Again (items item (suc (length xs)) earlier) t (earlier ++ x ∷ xs)) (sym (flat_map-cons text x xs))
    (Again-value (items item (suc (length xs)) earlier) (text x ++ flat_map text xs) _ _ value both)
