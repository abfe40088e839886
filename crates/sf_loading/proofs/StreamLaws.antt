-- How the reading of a stream goes on from field to field.
use Rattle.std.proofs.Common.{◌≡◌, ℕ, suc, ◌+◌, false, ltb, ◌-◌, ◌<◌, ◌≤◌, List, [], ◌∷◌, ◌++◌, length, take, slice_index, Option, Some, None, Result, Ok, Err, refl, sym, ap, subst, ◌∙◌, append_assoc, arith, take-append-drop, length-append}
use Rattle.std.proofs.KnownBytes.{Consumes-trans}
use Rattle.std.proofs.lemmas.Bool.{le-ltb}
use Rattle.std.proofs.lemmas.List.{length-take, take_at, drop_at}
use Rattle.byteorder.specs.Endian.{big_number}
use Rattle.sf_format.specs.declared.defect.Defect.{Defect}
use Rattle.sf_loading.specs.declared.halt.Halt.{Halt}
use Rattle.sf_loading.specs.declared.halt.Halt.TheVariants as halts
use Rattle.sf_format.specs.Readings.{Fault, Reading, and_then, ◌>>=◌, done, bytes, judged, field, number, items}
use Rattle.sf_streams.specs.Streams.{Left, AreLeft, ReadsAhead, Goes, without_front}
use Rattle.sf_format.proofs.Promises.{Tells}
use Rattle.sf_loading.specs.Streaming.{Takes, Finds, Ends, Reaches, Gives, Judges}
use Rattle.sf_streams.proofs.ReadingLaws.{at, Goes-on}

-- what a reader has left, as far as it tells
abbrev pub told : Option (List ℕ) → List ℕ
told None = []
told (Some bytes) = bytes

pub AreLeft-told : (left : Option (List ℕ)) → AreLeft left (told left)
AreLeft-told None = tt
AreLeft-told (Some bytes) = refl

-- ---- one text after another

-- a reading gave its value, and the next one follows
pub Goes-then : {A B : Type 0} (read : Reading A) (next : A → Reading B) (x : A) (unread left : Option (List ℕ)) (old new : Left)
    → Takes read x unread left old new → Goes (read >>= next) (next x) unread left old new
Goes-then read next x unread left old new a = record {
  text = a.text;
  got = a.got;
  consumed = a.consumed;
  parts = a.parts;
  reads = λ rest. ap (λ r. and_then r next) (a.reads rest);
}

-- ---- faults

pub Finds-after : {T : Type 0} (before after : Reading T) (fault : Fault) (unread mid left : Option (List ℕ)) (first second : Left)
    → Goes before after unread mid first second → Finds after fault mid left second → Finds before fault unread left first
Finds-after before after fault unread mid left first second a b = record {
  got = a.got ++ b.got;
  rest = b.rest;
  consumed = Consumes-trans _ _ _ _ _ a.consumed b.consumed;
  is_left = b.is_left;
  faulty = ap (λ (t : List ℕ). before (at first.place t)) regrouped ∙ a.reads ((second.bytes ++ b.got) ++ b.rest) ∙ b.faulty;
}
  where
    regrouped : (first.bytes ++ (a.got ++ b.got)) ++ b.rest ≡ a.text ++ ((second.bytes ++ b.got) ++ b.rest)
    regrouped = ap (λ (t : List ℕ). t ++ b.rest) (sym (append_assoc first.bytes a.got b.got) ∙ ap (λ (t : List ℕ). t ++ b.got) a.parts ∙ append_assoc a.text second.bytes b.got)
        ∙ append_assoc a.text (second.bytes ++ b.got) b.rest

pub Ends-after : {T : Type 0} (before after : Reading T) (halt : Halt) (unread mid left : Option (List ℕ)) (first second : Left)
    → Goes before after unread mid first second → Ends after mid left second halt → Ends before unread left first halt
Ends-after before after halts.Memory unread mid left first second a b = (a.got ++ b.0, Consumes-trans _ _ _ _ _ a.consumed b.1)
Ends-after before after halts.Read unread mid left first second a b = (a.got ++ b.0, Consumes-trans _ _ _ _ _ a.consumed b.1)
Ends-after before after (halts.Found place defect) unread mid left first second a b = Finds-after before after _ unread mid left first second a b

-- reading went on, and then further or it ended
pub Reaches-after : {X T : Type 0} (before middle : Reading T) (after : X → Reading T) (result : Result X Halt) (u1 u2 u3 : Option (List ℕ)) (first second third : Left)
    → Goes before middle u1 u2 first second → Reaches middle after u2 u3 second third result → Reaches before after u1 u3 first third result
Reaches-after before middle after (Ok x) u1 u2 u3 first second third a b = Goes-on before middle (after x) u1 u2 u3 first second third a b
Reaches-after before middle after (Err halt) u1 u2 u3 first second third a b = Ends-after before middle halt u1 u2 u3 first second a b

-- the first of two readings ended
pub Ends-first : {A B : Type 0} (read : Reading A) (next : A → Reading B) (halt : Halt) (unread left : Option (List ℕ)) (old : Left)
    → Ends read unread left old halt → Ends (read >>= next) unread left old halt
Ends-first read next halts.Memory unread left old a = a
Ends-first read next halts.Read unread left old a = a
Ends-first read next (halts.Found place defect) unread left old a =
    record { got = a.got; rest = a.rest; consumed = a.consumed; is_left = a.is_left; faulty = ap (λ r. and_then r next) a.faulty }

-- ---- a field and its rule

pub Takes-field : {A B : Type 0} (read : Reading A) (rule : A → Result B Defect) (x : A) (y : B) (unread left : Option (List ℕ)) (old new : Left)
    → rule x ≡ Ok y → Takes read x unread left old new → Takes (field read rule) y unread left old new
Takes-field read rule x y unread left old new passes a = record {
  text = a.text;
  got = a.got;
  consumed = a.consumed;
  parts = a.parts;
  reads = λ rest. ap (λ r. and_then r (λ value after. judged old.place after (rule value))) (a.reads rest) ∙ ap (judged old.place (at new.place rest)) passes;
}

pub Finds-field : {A B : Type 0} (read : Reading A) (rule : A → Result B Defect) (x : A) (place : ℕ) (defect : Defect) (unread left : Option (List ℕ)) (old new : Left)
    → place ≡ old.place → rule x ≡ Err defect → Takes read x unread left old new → Finds (field read rule) (record { place = place; defect = defect }) unread left old
Finds-field read rule x place defect unread left old new here refused a = record {
  got = a.got;
  rest = told left;
  consumed = a.consumed;
  is_left = AreLeft-told left;
  faulty = ap (λ (t : List ℕ). field read rule (at old.place t)) (ap (λ (t : List ℕ). t ++ told left) a.parts ∙ append_assoc a.text new.bytes (told left))
      ∙ ap (λ r. and_then r (λ value after. judged old.place after (rule value))) (a.reads (new.bytes ++ told left))
      ∙ ap (judged old.place (at new.place (new.bytes ++ told left))) refused
      ∙ ap (λ p. Err (record { place = p; defect = defect })) (sym here);
}

pub Ends-field : {A B : Type 0} (read : Reading A) (rule : A → Result B Defect) (halt : Halt) (unread left : Option (List ℕ)) (old : Left)
    → Ends read unread left old halt → Ends (field read rule) unread left old halt
Ends-field read rule halts.Memory unread left old a = a
Ends-field read rule halts.Read unread left old a = a
Ends-field read rule (halts.Found place defect) unread left old a = record {
  got = a.got;
  rest = a.rest;
  consumed = a.consumed;
  is_left = a.is_left;
  faulty = ap (λ r. and_then r (λ value after. judged old.place after (rule value))) a.faulty;
}

-- what a rule made of the field at a place
pub Gives-judged : {X A B : Type 0} (view : X → B) (read : Reading A) (rule : A → Result B Defect) (x : A) (place : ℕ) (result : Result X Halt) (unread left : Option (List ℕ)) (old new : Left)
    → place ≡ old.place → Takes read x unread left old new → Judges view place (rule x) result → Gives view (field read rule) unread left old new result
Gives-judged view read rule x place (Ok y) unread left old new here a judges = Takes-field read rule x (view y) unread left old new judges a
Gives-judged view read rule x place (Err (halts.Found there defect)) unread left old new here a judges = Finds-field read rule x there defect unread left old new (judges.0 ∙ here) judges.1 a
Gives-judged view read rule x place (Err halts.Memory) unread left old new here a judges = (a.got, a.consumed)
Gives-judged view read rule x place (Err halts.Read) unread left old new here a judges = (a.got, a.consumed)

-- what a verdict on the field at a place made of it, where the verdict is that of the rule
pub Gives-ruled : {X A B : Type 0} (view : X → B) (read : Reading A) (rule : A → Result B Defect) (x : A) (verdict : Result B Defect) (place : ℕ) (result : Result X Halt) (unread left : Option (List ℕ)) (old new : Left)
    → place ≡ old.place → Takes read x unread left old new → rule x ≡ verdict → Judges view place verdict result → Gives view (field read rule) unread left old new result
Gives-ruled view read rule x verdict place result unread left old new here a same judges =
    Gives-judged view read rule x place result unread left old new here a (subst (λ v. Judges view place v result) (sym same) judges)

-- ---- bytes that stand ahead, or do not

bytes-front : (count place : ℕ) (front rest : List ℕ) → length front ≡ count → bytes count (at place (front ++ rest)) ≡ Ok (front, at (place + count) rest)
bytes-front count place front rest len =
    let long : ltb (length (front ++ rest)) count ≡ false = le-ltb _ _ (omega (arith, length-append front rest, len)) in
    rw (long, take_at front rest count len, drop_at front rest count len) refl

pub Takes-bytes : (count : ℕ) (unread left : Option (List ℕ)) (old mid : Left) → ReadsAhead unread left old mid → count ≤ length mid.bytes
    → Takes (bytes count) (take count mid.bytes) unread left old (without_front count mid)
Takes-bytes count unread left old mid a enough = record {
  text = take count mid.bytes;
  got = a.got;
  consumed = a.consumed;
  parts = ap (λ (s : Left). s.bytes) (sym a.ahead) ∙ sym (take-append-drop count mid.bytes);
  reads = λ rest. reads rest;
}
  where
    same_place : mid.place ≡ old.place
    same_place = ap (λ (s : Left). s.place) a.ahead

    len : length (take count mid.bytes) ≡ count
    len = omega (arith, length-take count mid.bytes, enough)

    reads : (rest : List ℕ) → bytes count (at old.place (take count mid.bytes ++ rest)) ≡ Ok (take count mid.bytes, at (mid.place + count) rest)
    reads rest =
        bytes-front count old.place (take count mid.bytes) rest len
        ∙ ap (λ p. Ok (take count mid.bytes, at p rest)) (omega (arith, same_place))

-- bytes that stand ahead were gone past
pub Takes-skipped : (count : ℕ) (unread left : Option (List ℕ)) (old mid new : Left) → ReadsAhead unread left old mid → count ≤ length mid.bytes → new ≡ without_front count mid
    → Takes (bytes count) (take count mid.bytes) unread left old new
Takes-skipped count unread left old mid new a enough skipped = subst (λ (s : Left). Takes (bytes count) (take count mid.bytes) unread left old s) (sym skipped) (Takes-bytes count unread left old mid a enough)

-- a number of bytes that stand ahead
pub Takes-number : (count n : ℕ) (front : List ℕ) (unread left : Option (List ℕ)) (old mid new : Left) → ReadsAhead unread left old mid → count ≤ length mid.bytes
    → front ≡ take count mid.bytes → n ≡ big_number count front → new ≡ without_front count mid → Takes (number count) n unread left old new
Takes-number count n front unread left old mid new a enough is_front is_n is_new =
    let taken = Takes-bytes count unread left old mid a enough in
    let moved = Goes-then (bytes count) (λ digits. done (big_number count digits)) (take count mid.bytes) unread left old (without_front count mid) taken in
    subst (λ (m : ℕ). Takes (number count) m unread left old new) (sym (is_n ∙ ap (big_number count) is_front))
    (subst (λ (s : Left). Takes (number count) (big_number count (take count mid.bytes)) unread left old s) (sym is_new) moved)

-- ---- a loop over items

-- one more item was read
pub Goes-item : {X : Type 0} (item : List X → Reading X) (count i : ℕ) (earlier : List X) (x : X) (unread left : Option (List ℕ)) (old new : Left) → i < count
    → Takes (item earlier) x unread left old new → Goes (items item (count - i) earlier) (items item (count - (i + 1)) (earlier ++ x ∷ [])) unread left old new
Goes-item item count i earlier x unread left old new below a =
    let k : count - i ≡ suc (count - (i + 1)) = omega arith in
    subst (λ (n : ℕ). Goes (items item n earlier) (items item (count - (i + 1)) (earlier ++ x ∷ [])) unread left old new) (sym k)
    (Goes-then (item earlier) (λ x. items item (count - (i + 1)) (earlier ++ x ∷ [])) x unread left old new a)

-- an item was not read
pub Ends-item : {X : Type 0} (item : List X → Reading X) (count i : ℕ) (earlier : List X) (halt : Halt) (unread left : Option (List ℕ)) (old : Left) → i < count
    → Ends (item earlier) unread left old halt → Ends (items item (count - i) earlier) unread left old halt
Ends-item item count i earlier halt unread left old below a =
    let k : count - i ≡ suc (count - (i + 1)) = omega arith in
    subst (λ (n : ℕ). Ends (items item n earlier) unread left old halt) (sym k)
    (Ends-first (item earlier) (λ x. items item (count - (i + 1)) (earlier ++ x ∷ [])) halt unread left old a)

-- the number that one byte is
pub byte-number : (bytes : List ℕ) → slice_index bytes 0 ≡ big_number 1 bytes
byte-number bytes = omega arith

-- ---- one field after another

-- reading went on by one more field
pub Goes-step : {A B : Type 0} (before : Reading B) (read : Reading A) (next : A → Reading B) (x : A) (u1 u2 u3 : Option (List ℕ)) (first second third : Left)
    → Goes before (read >>= next) u1 u2 first second → Takes read x u2 u3 second third → Goes before (next x) u1 u3 first third
Goes-step before read next x u1 u2 u3 first second third a b = Goes-on before (read >>= next) (next x) u1 u2 u3 first second third a (Goes-then read next x u2 u3 second third b)

-- or it ended there
pub Ends-step : {A B : Type 0} (before : Reading B) (read : Reading A) (next : A → Reading B) (halt : Halt) (u1 u2 u3 : Option (List ℕ)) (first second : Left)
    → Goes before (read >>= next) u1 u2 first second → Ends read u2 u3 second halt → Ends before u1 u3 first halt
Ends-step before read next halt u1 u2 u3 first second a b = Ends-after before (read >>= next) halt u1 u2 u3 first second a (Ends-first read next halt u2 u3 second b)

-- ---- what a value that was read is like

-- what a reading tells of its values holds of one that was taken
pub Takes-tells : {T : Type 0} (read : Reading T) (P : T → Type 0) (x : T) (unread left : Option (List ℕ)) (old new : Left) → Tells read P → Takes read x unread left old new → P x
Takes-tells read P x unread left old new tells a = tells (at old.place (a.text ++ [])) x (at new.place []) (a.reads [])
