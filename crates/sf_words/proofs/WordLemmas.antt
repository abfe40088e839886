-- Words of a line, and where a text may be cut between them.
use Rattle.std.proofs.Common.{◌≡◌, ◌≢◌, ℕ, zero, suc, ◌+◌, ◌-◌, ◌<◌, Bool, true, false, not, cond, List, [], ◌∷◌, length, take, drop, get_or, reverse, refl, sym, ap, ◌∙◌, subst, arith}
use Rattle.std.specs.List.{prefix_len, suffix_len}
use Rattle.std.specs.Str.{IsCharBoundary, IsUtf8}
use Rattle.std.proofs.lemmas.Str.{IsCharBoundary-after_ascii, IsCharBoundary-before_ascii, IsCharBoundary-end}
use Rattle.std.proofs.lemmas.List.Sums.{prefix_len-le-length, prefix_len_passes, prefix_len_stops, suffix_len-le-length}
use Rattle.std.proofs.lemmas.List.{get_or-reverse}
use Rattle.std.proofs.lemmas.Grind.{common_steps}
use Rattle.sf_wkt.specs.Tokens.{is_blank}
use Rattle.sf_words.specs.Words.{words, at_blank, onto_first, skip_blanks}

-- no blank
abbrev pub is_letter : ℕ → Bool
is_letter b = not (is_blank b)

pub blank_is_ascii : (b : ℕ) → is_blank b ≡ true → b < 128
blank_is_ascii b h = grind (arith, common_steps)

pub not_letter : (b : Bool) → not b ≡ false → b ≡ true
not_letter true h = refl
not_letter false h = cc

-- a text may be cut after its blanks
pub after_blanks : (bs : List ℕ) → IsUtf8 bs → 0 < prefix_len is_blank bs → IsCharBoundary bs (prefix_len is_blank bs)
after_blanks bs text some =
    let n = prefix_len is_blank bs in
    let last : n - 1 < n = omega arith in
    let ascii : get_or bs (n - 1) 0 < 128 = blank_is_ascii (get_or bs (n - 1) 0) (prefix_len_passes is_blank bs (n - 1) 0 last) in
    let inside : n - 1 < length bs = omega (arith, prefix_len-le-length is_blank bs) in
    let same : (n - 1) + 1 ≡ n = omega arith in
    subst (IsCharBoundary bs) same (IsCharBoundary-after_ascii bs (n - 1) text inside ascii)

-- a text may be cut before its first blank
pub before_blank : (bs : List ℕ) → IsCharBoundary bs (prefix_len is_letter bs)
before_blank bs = (
  prefix_len-le-length is_letter bs,
  λ inside. (IsCharBoundary-before_ascii bs (prefix_len is_letter bs) inside
      (blank_is_ascii _ (not_letter _ (prefix_len_stops is_letter bs 0 inside)))).1 inside,
)

one_more : (n : ℕ) → 1 + n ≡ suc n
one_more n = omega arith

-- the blanks at the front are in no word
pub words-skip_blanks : (line : List ℕ) → words (skip_blanks line) ≡ words line
words-skip_blanks [] = refl
words-skip_blanks (b ∷ line) = at_byte (words-skip_blanks line) (is_blank b) refl
  where
    at_byte : words (skip_blanks line) ≡ words line → (x : Bool) → is_blank b ≡ x → words (drop (cond x (1 + prefix_len is_blank line) 0) (b ∷ line)) ≡ words (b ∷ line)
    at_byte later true is =
        ap (λ n. words (drop n (b ∷ line))) (one_more (prefix_len is_blank line)) ∙ later
        ∙ ap (λ x. cond x (words line) (cond (at_blank line) ((b ∷ []) ∷ words line) (onto_first b (words line)))) (sym is)
    at_byte later false is = refl

-- after the blanks no blank comes
pub skip_blanks-front : (line : List ℕ) (b : ℕ) (rest : List ℕ) → skip_blanks line ≡ b ∷ rest → is_blank b ≡ false
skip_blanks-front [] b rest h = cc
skip_blanks-front (c ∷ line) b rest h = at_byte (skip_blanks-front line b rest) (is_blank c) refl h
  where
    at_byte : (skip_blanks line ≡ b ∷ rest → is_blank b ≡ false) → (x : Bool) → is_blank c ≡ x
        → drop (cond x (1 + prefix_len is_blank line) 0) (c ∷ line) ≡ b ∷ rest → is_blank b ≡ false
    at_byte later true is h = later (sym (ap (λ n. drop n (c ∷ line)) (one_more (prefix_len is_blank line))) ∙ h)
    at_byte later false is h = ap is_blank (sym (ap (λ l. get_or l 0 0) h)) ∙ is

words-letter : (b : ℕ) (bytes : List ℕ) → is_blank b ≡ false
    → words (b ∷ bytes) ≡ cond (at_blank bytes) ((b ∷ []) ∷ words bytes) (onto_first b (words bytes))
words-letter b bytes letter =
    ap (λ x. cond x (words bytes) (cond (at_blank bytes) ((b ∷ []) ∷ words bytes) (onto_first b (words bytes)))) letter

prefix_len-letter : (b : ℕ) (bytes : List ℕ) → is_blank b ≡ false → prefix_len is_letter (b ∷ bytes) ≡ suc (prefix_len is_letter bytes)
prefix_len-letter b bytes letter = ap (λ x. cond (not x) (1 + prefix_len is_letter bytes) 0) letter ∙ one_more (prefix_len is_letter bytes)

-- the first word of a text, and the text after it
abbrev first_and_rest : List ℕ → ℕ → List (List ℕ)
first_and_rest text n = take n text ∷ words (drop n text)

-- the first word of a text that begins with one
pub words-first : (b : ℕ) (bytes : List ℕ) → is_blank b ≡ false
    → words (b ∷ bytes) ≡ take (prefix_len is_letter (b ∷ bytes)) (b ∷ bytes) ∷ words (drop (prefix_len is_letter (b ∷ bytes)) (b ∷ bytes))
words-first b [] letter = words-letter b [] letter ∙ sym (ap (first_and_rest (b ∷ [])) (prefix_len-letter b [] letter))
words-first b (c ∷ bytes) letter =
    words-letter b (c ∷ bytes) letter ∙ at_byte (words-first c bytes) (is_blank c) refl
    ∙ sym (ap (first_and_rest (b ∷ c ∷ bytes)) (prefix_len-letter b (c ∷ bytes) letter))
  where
    at_byte : (is_blank c ≡ false → words (c ∷ bytes) ≡ first_and_rest (c ∷ bytes) (prefix_len is_letter (c ∷ bytes)))
        → (x : Bool) → is_blank c ≡ x
        → cond x ((b ∷ []) ∷ words (c ∷ bytes)) (onto_first b (words (c ∷ bytes)))
        ≡ (b ∷ take (prefix_len is_letter (c ∷ bytes)) (c ∷ bytes)) ∷ words (drop (prefix_len is_letter (c ∷ bytes)) (c ∷ bytes))
    at_byte later true is =
        sym (ap (λ n. (b ∷ take n (c ∷ bytes)) ∷ words (drop n (c ∷ bytes))) (ap (λ x. cond (not x) (1 + prefix_len is_letter bytes) 0) is))
    at_byte later false is = ap (onto_first b) (later is)

pub words-none : (line : List ℕ) → length (skip_blanks line) ≡ 0 → words line ≡ []
words-none line none = sym (words-skip_blanks line) ∙ of_none (skip_blanks line) none
  where
    of_none : (l : List ℕ) → length l ≡ 0 → words l ≡ []
    of_none [] h = refl
    of_none (b ∷ l) h = absurd (omega arith)

-- the first word, after the blanks
pub words-next : (line text : List ℕ) → text ≡ skip_blanks line → length text ≢ 0
    → words line ≡ take (prefix_len is_letter text) text ∷ words (drop (prefix_len is_letter text) text)
words-next line [] is some = absurd (some refl)
words-next line (b ∷ text) is some =
    sym (words-skip_blanks line) ∙ sym (ap words is) ∙ words-first b text (skip_blanks-front line b text (sym is))

pub words-some : (line : List ℕ) → length (skip_blanks line) ≢ 0 → words line ≢ []
words-some line some none = cc (words-next line (skip_blanks line) refl some)

-- a line that has a word has a text behind its blanks
pub some_text : (line : List ℕ) → words line ≢ [] → length (skip_blanks line) ≢ 0
some_text line some none = some (words-none line none)

-- a text may be cut before the blanks at its end
pub before-last-blanks : (text : List ℕ) → IsCharBoundary text (length text - suffix_len is_blank text)
before-last-blanks text = by (suffix_len is_blank text) refl
  where
    by : (n : ℕ) → suffix_len is_blank text ≡ n → IsCharBoundary text (length text - suffix_len is_blank text)
    by zero is = subst (IsCharBoundary text) (omega (arith, is)) (IsCharBoundary-end text)
    by (suc n) is =
        let within = suffix_len-le-length is_blank text in
        let passed : is_blank (get_or (reverse text) n 0) ≡ true = prefix_len_passes is_blank (reverse text) n 0 (omega (arith, is)) in
        let at : get_or (reverse text) n 0 ≡ get_or text (length text - 1 - n) 0 = get_or-reverse text n 0 (omega (arith, is, within)) in
        let here : length text - 1 - n ≡ length text - suffix_len is_blank text = omega (arith, is, within) in
        IsCharBoundary-before_ascii text (length text - suffix_len is_blank text) (omega (arith, is, within))
        (blank_is_ascii _ (ap (λ k. is_blank (get_or text k 0)) (sym here) ∙ ap is_blank (sym at) ∙ passed))
