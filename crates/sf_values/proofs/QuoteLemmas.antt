-- Texts in quotes, read from quote to quote.
use Rattle.std.proofs.Common.{◌≡◌, ◌≢◌, ℕ, suc, ◌+◌, ◌-◌, ◌<◌, ◌≤◌, Bool, true, false, not, cond, ◌&&◌, List, [], ◌∷◌, ◌++◌, length, take, drop, flat_map, bytes_eq, Option, Some, None, get_or, MatchOption, IsTrue, refl, sym, ap, ◌∙◌, arith, append_assoc}
use Rattle.std.specs.Prelude.{◌==◌, if◌then◌else◌}
use denote.Ref.{Bor}
use lib.Utf8
use Rattle.std.specs.Char.{encode_utf8}
use Rattle.std.specs.Str.Pattern.{FindsCharPrefix, FindsCharSuffix, StripsPrefix, StripsSuffix}
use Rattle.std.specs.List.{list_all, prefix_len, position_or_len, before_first, after_first}
use Rattle.std.proofs.lemmas.List.Sums.{passes_at_first, split_at_first}
use Rattle.std.proofs.lemmas.Grind.{common_steps, flat_map-append}
use Rattle.std.proofs.lemmas.List.{take-append-drop, drop_all, append-nil, append_cancel_left, append_cancel_right, length-append}
use Rattle.std.proofs.Math.Seq.{take-append_seam}
use Rattle.std.proofs.lemmas.Slice.Eq.{bytes_eq-Decides}
use Rattle.sf_features.specs.declared.attr_value.AttrValue.{AttrValue}
use Rattle.sf_features.specs.declared.attr_value.AttrValue.TheVariants.{Text}
use Rattle.sf_values.specs.Values.{is_plain, quoted_byte, quoted, undoubled, text_of}

-- bytes without a quote are the same between quotes
pub plain-quoted : (plain : List ℕ) → list_all is_plain plain ≡ true → flat_map quoted_byte plain ≡ plain
plain-quoted [] h = refl
plain-quoted (b ∷ plain) h = by (plain-quoted plain) (b == 39) refl h
  where
    by : (list_all is_plain plain ≡ true → flat_map quoted_byte plain ≡ plain) → (x : Bool) → (b == 39) ≡ x
        → (not x && list_all is_plain plain) ≡ true → flat_map quoted_byte (b ∷ plain) ≡ b ∷ plain
    by later true is h = cc
    by later false is h =
        ap (λ x. (if x then 39 ∷ 39 ∷ [] else b ∷ []) ++ flat_map quoted_byte plain) is ∙ ap (λ rest. b ∷ rest) (later h)

pub undoubled-letter : (b : ℕ) (bytes : List ℕ) → (b == 39) ≡ false → undoubled false (b ∷ bytes) ≡ b ∷ undoubled false bytes
undoubled-letter b bytes is = ap (λ x. b ∷ undoubled x bytes) is

-- and are read as they stand
undoubled-plain : (plain bytes : List ℕ) → list_all is_plain plain ≡ true → undoubled false (plain ++ bytes) ≡ plain ++ undoubled false bytes
undoubled-plain [] bytes h = refl
undoubled-plain (b ∷ plain) bytes h = by (undoubled-plain plain bytes) (b == 39) refl h
  where
    by : (list_all is_plain plain ≡ true → undoubled false (plain ++ bytes) ≡ plain ++ undoubled false bytes) → (x : Bool) → (b == 39) ≡ x
        → (not x && list_all is_plain plain) ≡ true → undoubled false (b ∷ plain ++ bytes) ≡ b ∷ plain ++ undoubled false bytes
    by later true is h = cc
    by later false is h = undoubled-letter b (plain ++ bytes) is ∙ ap (λ rest. b ∷ rest) (later h)

-- a quote with none behind it is in no text that is written in quotes
single-quote : (bytes : List ℕ) → ((rest : List ℕ) → bytes ≢ 39 ∷ rest) → flat_map quoted_byte (undoubled false (39 ∷ bytes)) ≢ 39 ∷ bytes
single-quote [] single h = cc
single-quote (b ∷ bytes) single h = by (b == 39) refl
  where
    quote-is : (b == 39) ≡ true → b ≡ 39
    quote-is is = grind (arith, common_steps)

    by : (x : Bool) → (b == 39) ≡ x → ⊥
    by true is = single bytes (ap (λ c. c ∷ bytes) (quote-is is))
    by false is =
        let read : undoubled true (b ∷ bytes) ≡ b ∷ undoubled false bytes = ap (λ x. if x then undoubled (not x && b == 39) bytes else b ∷ undoubled (not x && b == 39) bytes) is ∙ ap (λ x. b ∷ undoubled x bytes) is in
        let second : 39 ∷ 39 ∷ flat_map quoted_byte (undoubled true (b ∷ bytes)) ≡ 39 ∷ b ∷ bytes = h in
        let wrong : b ≡ 39 = cc in
        single bytes (ap (λ c. c ∷ bytes) wrong)

abbrev written : List ℕ → List ℕ
written text = flat_map quoted_byte text

-- a turn of the loop: what is written between quotes so far, and what is read of it
pub quote-further-written : (before plain after rest next whole : List ℕ) → list_all is_plain plain ≡ true → rest ≡ plain ++ 39 ∷ after → after ≡ 39 ∷ next
    → written before ++ rest ≡ whole → written ((before ++ plain) ++ 39 ∷ []) ++ next ≡ whole
quote-further-written before plain after rest next whole h at quote so_far =
    let all : rest ≡ plain ++ 39 ∷ 39 ∷ next = at ∙ ap (λ a. plain ++ 39 ∷ a) quote in
    ap (λ w. w ++ next) (flat_map-append quoted_byte (before ++ plain) (39 ∷ []) ∙ ap (λ w. w ++ 39 ∷ 39 ∷ []) (flat_map-append quoted_byte before plain ∙ ap (λ w. written before ++ w) (plain-quoted plain h)))
    ∙ append_assoc (written before ++ plain) (39 ∷ 39 ∷ []) next
    ∙ append_assoc (written before) plain (39 ∷ 39 ∷ next)
    ∙ ap (λ r. written before ++ r) (sym all)
    ∙ so_far

pub quote-further-read : (before plain after rest next whole : List ℕ) → list_all is_plain plain ≡ true → rest ≡ plain ++ 39 ∷ after → after ≡ 39 ∷ next
    → before ++ undoubled false rest ≡ whole → ((before ++ plain) ++ 39 ∷ []) ++ undoubled false next ≡ whole
quote-further-read before plain after rest next whole h at quote so_far =
    let all : rest ≡ plain ++ 39 ∷ 39 ∷ next = at ∙ ap (λ a. plain ++ 39 ∷ a) quote in
    append_assoc (before ++ plain) (39 ∷ []) (undoubled false next)
    ∙ append_assoc before plain (39 ∷ undoubled false next)
    ∙ ap (λ r. before ++ r) (sym (undoubled-plain plain (39 ∷ 39 ∷ next) h) ∙ ap (undoubled false) (sym all))
    ∙ so_far

inner-is : (inner : List ℕ) → take (length (39 ∷ inner ++ 39 ∷ []) - 2) (inner ++ 39 ∷ []) ≡ inner
inner-is inner =
    let n : length (39 ∷ inner ++ 39 ∷ []) - 2 ≡ length inner = ap (λ k. suc k - 2) (length-append inner (39 ∷ [])) ∙ omega arith in
    ap (λ k. take k (inner ++ 39 ∷ [])) n ∙ take-append_seam inner (39 ∷ [])

abbrev read_of : List ℕ → List ℕ → Option AttrValue
read_of inner bytes = if bytes_eq (quoted (undoubled false inner)) bytes then Some (Text (undoubled false inner)) else None

between : (bytes inner : List ℕ) → bytes ≡ 39 ∷ inner ++ 39 ∷ [] → text_of bytes ≡ read_of inner (39 ∷ inner ++ 39 ∷ [])
between bytes inner is = ap text_of is ∙ ap (λ i. read_of i (39 ∷ inner ++ 39 ∷ [])) (inner-is inner)

-- the text between quotes, where it is written so
pub text_of-written : (bytes inner : List ℕ) → bytes ≡ 39 ∷ inner ++ 39 ∷ [] → written (undoubled false inner) ≡ inner → text_of bytes ≡ Some (Text (undoubled false inner))
text_of-written bytes inner is same =
    let text = undoubled false inner in
    between bytes inner is
    ∙ ap (λ x. if x then Some (Text text) else None)
    ((bytes_eq-Decides (quoted text) (39 ∷ inner ++ 39 ∷ [])).1 (ap (λ w. 39 ∷ w ++ 39 ∷ []) same))

-- and none where it isn't
pub text_of-miswritten : (bytes inner : List ℕ) → bytes ≡ 39 ∷ inner ++ 39 ∷ [] → written (undoubled false inner) ≢ inner → None ≡ text_of bytes
text_of-miswritten bytes inner is other = sym (between bytes inner is ∙ by (bytes_eq (quoted text) whole) refl)
  where
    text : List ℕ
    text = undoubled false inner

    whole : List ℕ
    whole = 39 ∷ inner ++ 39 ∷ []

    by : (x : Bool) → bytes_eq (quoted text) whole ≡ x → (if bytes_eq (quoted text) whole then Some (Text text) else None) ≡ None
    by true h = absurd (other (append_cancel_right (written text) inner (39 ∷ []) (ap (drop 1) ((bytes_eq-Decides (quoted text) whole).0 h))))
    by false h = ap (λ x. if x then Some (Text text) else None) h

-- nor in bytes that are not between quotes
pub text_of-bare : (bytes : List ℕ) → ((inner : List ℕ) → bytes ≢ 39 ∷ inner ++ 39 ∷ []) → None ≡ text_of bytes
text_of-bare bytes bare = sym (by (bytes_eq (quoted text) bytes) refl)
  where
    text : List ℕ
    text = undoubled false (take (length bytes - 2) (drop 1 bytes))

    by : (x : Bool) → bytes_eq (quoted text) bytes ≡ x → (if bytes_eq (quoted text) bytes then Some (Text text) else None) ≡ None
    by true h = absurd (bare (written text) (sym ((bytes_eq-Decides (quoted text) bytes).0 h)))
    by false h = ap (λ x. if x then Some (Text text) else None) h

-- the end of the loop
pub quote-last : (bytes inner before rest : List ℕ) → bytes ≡ 39 ∷ inner ++ 39 ∷ [] → list_all is_plain rest ≡ true
    → written before ++ rest ≡ inner → before ++ undoubled false rest ≡ undoubled false inner → text_of bytes ≡ Some (Text (before ++ rest))
quote-last bytes inner before rest is plain so_far read =
    let all : before ++ rest ≡ undoubled false inner = ap (λ r. before ++ r) (sym (end_of rest) ∙ sym (undoubled-plain rest [] plain) ∙ ap (undoubled false) (end_of rest)) ∙ read in
    text_of-written bytes inner is (ap written (sym all) ∙ flat_map-append quoted_byte before rest ∙ ap (λ r. written before ++ r) (plain-quoted rest plain) ∙ so_far) ∙ ap (λ (t : List ℕ). Some (Text t)) (sym all)
  where
    end_of : (xs : List ℕ) → xs ++ [] ≡ xs
    end_of xs = append-nil xs

-- a quote alone, and what comes of it
pub quote-single : (bytes inner before plain after rest : List ℕ) → bytes ≡ 39 ∷ inner ++ 39 ∷ [] → list_all is_plain plain ≡ true → rest ≡ plain ++ 39 ∷ after
    → ((next : List ℕ) → after ≢ 39 ∷ next)
    → written before ++ rest ≡ inner → before ++ undoubled false rest ≡ undoubled false inner → None ≡ text_of bytes
quote-single bytes inner before plain after rest is h at single so_far read = text_of-miswritten bytes inner is λ same.
    single-quote after single
    (append_cancel_left plain (written (undoubled false (39 ∷ after))) (39 ∷ after)
    (ap (λ p. p ++ written (undoubled false (39 ∷ after))) (sym (plain-quoted plain h))
    ∙ sym (flat_map-append quoted_byte plain (undoubled false (39 ∷ after)))
    ∙ ap written (sym (undoubled-plain plain (39 ∷ after) h) ∙ ap (undoubled false) (sym at))
    ∙ append_cancel_left (written before) (written (undoubled false rest)) rest
    (sym (flat_map-append quoted_byte before (undoubled false rest)) ∙ ap written read ∙ same ∙ sym so_far)
    ∙ at))

-- what is left of a text gets shorter
pub quote-shorter : (plain after rest next : List ℕ) → rest ≡ plain ++ 39 ∷ after → after ≡ 39 ∷ next → length next < length rest
quote-shorter plain after rest next at quote =
    let all : length rest ≡ length plain + length (39 ∷ after) = ap length at ∙ length-append plain (39 ∷ after) in
    let more : length after ≡ suc (length next) = ap length quote in
    omega (arith, all, more)

encoded : encode_utf8 39 ≡ 39 ∷ []
unfolding lib.Utf8.encode
encoded = refl

-- a text without its first quote
pub quote-stripped : (text : List ℕ) (r : Option (Bor (List ℕ)))
    → MatchOption r ((rest : List ℕ) → text ≢ encode_utf8 39 ++ rest) (λ x. StripsPrefix (FindsCharPrefix 39) text x.now)
    → MatchOption r ((rest : List ℕ) → text ≢ 39 ∷ rest) (λ rest. text ≡ 39 ∷ rest.now)
quote-stripped text None h = λ rest is. h rest (is ∙ ap (λ e. e ++ rest) (sym encoded))
quote-stripped text (Some x) (n, at, is, long) = at.split ∙ ap (λ e. e ++ drop n text) encoded ∙ ap (λ rest. 39 ∷ rest) (sym is)

-- and without its last one
pub quote-cut : (text : List ℕ) (r : Option (Bor (List ℕ)))
    → MatchOption r ((front : List ℕ) → text ≢ front ++ encode_utf8 39) (λ x. StripsSuffix (FindsCharSuffix 39) text x.now)
    → MatchOption r ((front : List ℕ) → text ≢ front ++ 39 ∷ []) (λ front. text ≡ front.now ++ 39 ∷ [])
quote-cut text None h = λ front is. h front (is ∙ ap (λ e. front ++ e) (sym encoded))
quote-cut text (Some x) (n, at, is, long) =
    sym (take-append-drop (length text - n) text) ∙ ap (λ front. front ++ drop (length text - n) text) (sym is)
    ∙ ap (λ back. x.now ++ back) (at.1.split ∙ ap (λ e. e ++ drop (length text) text) encoded ∙ ap (λ rest. 39 ∷ rest) (drop_all (length text) text (omega arith)))

all-first : (p : ℕ → Bool) (bs : List ℕ) → length bs ≤ prefix_len p bs → list_all p bs ≡ true
all-first p [] h = refl
all-first p (b ∷ bs) h = by (all-first p bs) (p b) refl h
  where
    by : (length bs ≤ prefix_len p bs → list_all p bs ≡ true) → (x : Bool) → p b ≡ x → length (b ∷ bs) ≤ cond x (1 + prefix_len p bs) 0
        → (p b && list_all p bs) ≡ true
    by later false is h = absurd (omega (arith, h))
    by later true is h = ap (λ x. x && list_all p bs) is ∙ later (omega (arith, h))

one-more : (n : ℕ) → 1 + n ≡ suc n
one-more n = omega arith

first-all : (p : ℕ → Bool) (bs : List ℕ) → list_all p (take (prefix_len p bs) bs) ≡ true
first-all p [] = refl
first-all p (b ∷ bs) = by (first-all p bs) (p b) refl
  where
    by : list_all p (take (prefix_len p bs) bs) ≡ true → (x : Bool) → p b ≡ x → list_all p (take (cond (p b) (1 + prefix_len p bs) 0) (b ∷ bs)) ≡ true
    by later false is = ap (λ x. list_all p (take (cond x (1 + prefix_len p bs) 0) (b ∷ bs))) is
    by later true is =
        ap (λ x. list_all p (take (cond x (1 + prefix_len p bs) 0) (b ∷ bs))) is ∙ ap (λ n. list_all p (take n (b ∷ bs))) (one-more (prefix_len p bs))
        ∙ ap (λ x. x && list_all p (take (prefix_len p bs) bs)) is ∙ later

abbrev is_quote : ℕ → Bool
is_quote b = b == 39

-- a text cut at its first quote
pub quote-split : (text : List ℕ) (r : Option (Bor (List ℕ) × Bor (List ℕ)))
    → MatchOption r (position_or_len is_quote text ≡ length text)
    (λ x. (x.0.now ≡ before_first is_quote text) × (x.1.now ≡ after_first is_quote text) × (position_or_len is_quote text < length text))
    → MatchOption r (IsTrue (list_all is_plain text)) (λ parts. IsTrue (list_all is_plain parts.0.now) × (text ≡ parts.0.now ++ 39 ∷ parts.1.now))
quote-split text None h = all-first is_plain text (omega (arith, h))
quote-split text (Some x) h =
    let at : get_or text (position_or_len is_quote text) 0 ≡ 39 = quote-here (passes_at_first is_quote text 0 h.2) in (
      ap (list_all is_plain) h.0 ∙ first-all is_plain text,
      split_at_first is_quote text 0 h.2 ∙ ap (λ b. before_first is_quote text ++ b ∷ after_first is_quote text) at
          ∙ ap (λ front. front ++ 39 ∷ after_first is_quote text) (sym h.0) ∙ ap (λ back. x.0.now ++ 39 ∷ back) (sym h.1),
    )
  where
    quote-here : {b : ℕ} → (b == 39) ≡ true → b ≡ 39
    quote-here is = grind (arith, common_steps)
