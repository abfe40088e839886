-- The parts of a text, between carriage returns.
use Rattle.std.proofs.Common.{◌≡◌, ◌≢◌, ℕ, suc, ◌+◌, ◌-◌, ◌<◌, Bool, true, false, ◌||◌, cond, List, [], ◌∷◌, ◌++◌, length, take, drop, get_or, not, if◌then◌else◌, refl, sym, ap, ◌∙◌, subst, arith}
use Rattle.std.specs.List.{count_by, list_any, prefix_len}
use Rattle.std.specs.Str.{IsCharBoundary, IsUtf8}
use Rattle.std.proofs.lemmas.Grind.{common_steps}
use Rattle.std.proofs.lemmas.List.Recursion.{is_count_by}
use Rattle.std.proofs.lemmas.List.Sums.{prefix_len-le-length, prefix_len_stops}
use Rattle.std.proofs.lemmas.Str.{IsCharBoundary-after_ascii, IsCharBoundary-before_ascii}
use Rattle.sf_words.specs.Parts.{is_return, onto_first, parts_of}

-- the parts of a byte and a text
abbrev pub parts_with : ℕ → List (List ℕ) → Bool → List (List ℕ)
parts_with b parts is = if is then [] ∷ parts else onto_first b parts

-- a text without a return is one part
pub one_part : (text : List ℕ) → list_any is_return text ≡ false → parts_of text ≡ text ∷ []
one_part [] none = refl
one_part (b ∷ text) none = by (one_part text) (is_return b) refl none
  where
    by : (list_any is_return text ≡ false → parts_of text ≡ text ∷ []) → (x : Bool) → is_return b ≡ x → (x || list_any is_return text) ≡ false
        → parts_of (b ∷ text) ≡ (b ∷ text) ∷ []
    by later true is none = cc
    by later false is none = ap (parts_with b (parts_of text)) is ∙ ap (onto_first b) (later none)

-- the first part of a text, and those behind it
pub first_part : (front rest : List ℕ) → list_any is_return front ≡ false → parts_of (front ++ 13 ∷ rest) ≡ front ∷ parts_of rest
first_part [] rest none = refl
first_part (b ∷ front) rest none = by (first_part front rest) (is_return b) refl none
  where
    by : (list_any is_return front ≡ false → parts_of (front ++ 13 ∷ rest) ≡ front ∷ parts_of rest) → (x : Bool) → is_return b ≡ x
        → (x || list_any is_return front) ≡ false → parts_of (b ∷ front ++ 13 ∷ rest) ≡ (b ∷ front) ∷ parts_of rest
    by later true is none = cc
    by later false is none = ap (parts_with b (parts_of (front ++ 13 ∷ rest))) is ∙ ap (onto_first b) (later none)

-- each text has a part
pub some_part : (text : List ℕ) → parts_of text ≢ []
some_part [] none = cc
some_part (b ∷ text) none = by (is_return b) (parts_of text) none
  where
    by : (x : Bool) (parts : List (List ℕ)) → parts_with b parts x ≢ []
    by true parts none = cc
    by false [] none = cc
    by false (part ∷ parts) none = cc

-- a byte in front of a text, in front of another part
with_last : (b : ℕ) (parts : List (List ℕ)) (part : List ℕ) (is : Bool) → parts ≢ [] → parts_with b (parts ++ part ∷ []) is ≡ parts_with b parts is ++ part ∷ []
with_last b parts part true some = refl
with_last b [] part false some = absurd (some refl)
with_last b (first ∷ parts) part false some = refl

-- the last part of a text, and those before it
pub last_part : (text part : List ℕ) → list_any is_return part ≡ false → parts_of (text ++ 13 ∷ part) ≡ parts_of text ++ part ∷ []
last_part [] part none = ap (λ parts. [] ∷ parts) (one_part part none)
last_part (b ∷ text) part none =
    ap (λ parts. parts_with b parts (is_return b)) (last_part text part none) ∙ with_last b (parts_of text) part (is_return b) (some_part text)

-- how many parts a text has
pub parts_counted : (text : List ℕ) → length (parts_of text) ≡ count_by is_return text + 1
parts_counted text =
    let returns : length (parts_of text) - 1 ≡ count_by is_return text = is_count_by (λ t. length (parts_of t) - 1) is_return refl (λ b t. more b (is_return b) (parts_of t) (some_part t)) text in
    let some : length (parts_of text) ≢ 0 = some_length (parts_of text) (some_part text) in
    omega (arith, returns, some)
  where
    more : (b : ℕ) (is : Bool) (parts : List (List ℕ)) → parts ≢ [] → length (parts_with b parts is) - 1 ≡ cond is (1 + (length parts - 1)) (length parts - 1)
    more b is [] some = absurd (some refl)
    more b true (part ∷ parts) some = omega arith
    more b false (part ∷ parts) some = refl

    some_length : (parts : List (List ℕ)) → parts ≢ [] → length parts ≢ 0
    some_length [] some is = some refl
    some_length (part ∷ parts) some is = cc

-- a text none of whose bytes is a return
pub no_return : (text : List ℕ) → ((i : ℕ) → i < length text → get_or text i 0 ≢ 13) → list_any is_return text ≡ false
no_return [] apart = refl
no_return (b ∷ text) apart = by (no_return text (λ i inside. apart (suc i) (omega arith))) (is_return b) refl
  where
    is-return : is_return b ≡ true → b ≡ 13
    is-return is = grind (arith, common_steps)

    by : list_any is_return text ≡ false → (x : Bool) → is_return b ≡ x → (is_return b || list_any is_return text) ≡ false
    by later true is = absurd (apart 0 (omega arith) (is-return is))
    by later false is = ap (λ x. x || list_any is_return text) is ∙ later

-- no return
abbrev pub is_kept : ℕ → Bool
is_kept b = not (is_return b)

-- a text cut at this place, before a return
abbrev pub CutAt : List ℕ → ℕ → Type 0
CutAt text n = (list_any is_return (take n text) ≡ false) × (text ≡ take n text ++ 13 ∷ drop (n + 1) text)

one_more : (n : ℕ) → 1 + n ≡ suc n
one_more n = omega arith

return_is : (b : ℕ) → is_return b ≡ true → b ≡ 13
return_is b is = grind (arith, common_steps)

cut-later : (b : ℕ) (text : List ℕ) (n : ℕ) → is_return b ≡ false → CutAt text n → CutAt (b ∷ text) (1 + n)
cut-later b text n is rest =
    subst (λ m. (list_any is_return (take m (b ∷ text)) ≡ false) × (b ∷ text ≡ take m (b ∷ text) ++ 13 ∷ drop (1 + n + 1) (b ∷ text))) (sym (one_more n)) (
      ap (λ x. x || list_any is_return (take n text)) is ∙ rest.0,
      ap (λ t. b ∷ t) rest.1 ∙ ap (λ (t : List ℕ). b ∷ (take n text ++ 13 ∷ t)) (sym (ap (λ m. drop m (b ∷ text)) (two_more n))),
    )
  where
    two_more : (n : ℕ) → 1 + n + 1 ≡ suc (n + 1)
    two_more n = omega arith

-- what stands before the first return, and behind it
pub cut-at : (text : List ℕ) → prefix_len is_kept text ≢ length text → CutAt text (prefix_len is_kept text)
cut-at [] other = absurd (other refl)
cut-at (b ∷ text) other = by (cut-at text) (is_return b) refl other
  where
    by : (prefix_len is_kept text ≢ length text → CutAt text (prefix_len is_kept text)) → (x : Bool) → is_return b ≡ x
        → cond (not x) (1 + prefix_len is_kept text) 0 ≢ length (b ∷ text) → CutAt (b ∷ text) (cond (not x) (1 + prefix_len is_kept text) 0)
    by later true is some = (refl, ap (λ c. c ∷ text) (return_is b is))
    by later false is some =
        let rest = later (λ same. some (ap (λ n. 1 + n) same ∙ one_more (length text))) in
        cut-later b text (prefix_len is_kept text) is rest

-- none where all is before it
pub kept-whole : (text : List ℕ) → prefix_len is_kept text ≡ length text → list_any is_return text ≡ false
kept-whole [] all = refl
kept-whole (b ∷ text) all = by (kept-whole text) (is_return b) refl all
  where
    by : (prefix_len is_kept text ≡ length text → list_any is_return text ≡ false) → (x : Bool) → is_return b ≡ x
        → cond (not x) (1 + prefix_len is_kept text) 0 ≡ length (b ∷ text) → list_any is_return (b ∷ text) ≡ false
    by later true is same = absurd (omega (arith, same))
    by later false is same = ap (λ x. x || list_any is_return text) is ∙ later (omega (arith, same))

-- the byte behind what is kept is a return
kept-return : (text : List ℕ) → prefix_len is_kept text < length text → get_or text (prefix_len is_kept text) 0 ≡ 13
kept-return text inside = return_is _ (turned (is_return (get_or text (prefix_len is_kept text) 0)) (prefix_len_stops is_kept text 0 inside))
  where
    turned : (x : Bool) → not x ≡ false → x ≡ true
    turned true is = refl
    turned false is = cc

return_ascii : (b : ℕ) → b ≡ 13 → b < 128
return_ascii b is = omega (arith, is)

-- a text may be cut before its first return, and behind it
pub boundary-before : (text : List ℕ) → IsCharBoundary text (prefix_len is_kept text)
boundary-before text = (
  prefix_len-le-length is_kept text,
  λ inside. (IsCharBoundary-before_ascii text (prefix_len is_kept text) inside (return_ascii _ (kept-return text inside))).1 inside,
)

pub boundary-behind : (text : List ℕ) → IsUtf8 text → prefix_len is_kept text ≢ length text → IsCharBoundary text (prefix_len is_kept text + 1)
boundary-behind text is_text other =
    let within = prefix_len-le-length is_kept text in
    let inside : prefix_len is_kept text < length text = omega (arith, within, other) in
    IsCharBoundary-after_ascii text (prefix_len is_kept text) is_text inside (return_ascii _ (kept-return text inside))
