-- Heads of journals: one line each, so that two that begin one text are one.
use Rattle.std.proofs.Common.{◌≡◌, ℕ, zero, suc, ◌+◌, ◌/◌, ◌%◌, Bool, true, false, ◌==◌, ◌||◌, cond, nat_lt, List, [], ◌∷◌, ◌++◌, length, slice_index, codes, refl, sym, ap, ◌∙◌, append_assoc, arith}
use Rattle.std.proofs.lemmas.Grind.{common_steps}
use Rattle.std.specs.Fmt.{decimal, digits, digits_onto, digit_glyph}
use Rattle.sha2.specs.Sha256.{sha256}
use Rattle.hex.specs.Hex.{encode_with, encode_lower, lower_digits}
use Rattle.sf_text_lines.specs.Lines.{HasNoFeed}
use Rattle.sf_text_lines.proofs.LineLemmas.{HasNoFeed-append}
use Rattle.sf_journal.specs.Records.{head_of}

-- a byte in front of others
one : (a b : Bool) → a ≡ false → b ≡ false → (a || b) ≡ false
one true b p q = cc
one false b p q = q

-- a byte that is in front, and the others
parts : (a b : Bool) → (a || b) ≡ false → (a ≡ false) × (b ≡ false)
parts true b h = absurd (cc)
parts false b h = (refl, h)

glyph : (d : ℕ) → (digit_glyph false d == 10) ≡ false
glyph d = at (nat_lt d 10) refl
  where
    at : (b : Bool) → nat_lt d 10 ≡ b → (cond b (48 + d) (87 + d) == 10) ≡ false
    at true is = grind (arith, common_steps)
    at false is = grind (arith, common_steps)

HasNoFeed-digits_onto : (k n : ℕ) (acc : List ℕ) → HasNoFeed acc → HasNoFeed (digits_onto k 10 false n acc)
HasNoFeed-digits_onto zero n acc unfed = unfed
HasNoFeed-digits_onto (suc k) n acc unfed =
    let more : HasNoFeed (digit_glyph false (n % 10) ∷ acc) = one _ _ (glyph (n % 10)) unfed in
    at more (HasNoFeed-digits_onto k (n / 10) (digit_glyph false (n % 10) ∷ acc) more) (n / 10 == 0)
  where
    at : HasNoFeed (digit_glyph false (n % 10) ∷ acc) → HasNoFeed (digits_onto k 10 false (n / 10) (digit_glyph false (n % 10) ∷ acc))
        → (b : Bool) → HasNoFeed (cond b (digit_glyph false (n % 10) ∷ acc) (digits_onto k 10 false (n / 10) (digit_glyph false (n % 10) ∷ acc)))
    at last others true = last
    at last others false = others

HasNoFeed-decimal : (n : ℕ) → HasNoFeed (decimal n)
unfolding digits
HasNoFeed-decimal n = HasNoFeed-digits_onto 64 n [] refl

digit : (table : List ℕ) (place : ℕ) → HasNoFeed table → (slice_index table place == 10) ≡ false
digit [] place unfed = refl
digit (x ∷ xs) zero unfed = (parts _ _ unfed).0
digit (x ∷ xs) (suc place) unfed = digit xs place (parts _ _ unfed).1

HasNoFeed-encode_with : (table bytes : List ℕ) → HasNoFeed table → HasNoFeed (encode_with table bytes)
unfolding encode_with
HasNoFeed-encode_with table [] unfed = refl
HasNoFeed-encode_with table (b ∷ bytes) unfed =
    one _ _ (digit table (b / 16) unfed) (one _ _ (digit table (b % 16) unfed) (HasNoFeed-encode_with table bytes unfed))

-- a head without its line feed
abbrev title_of : List ℕ → List ℕ
title_of file = codes "sfstore-journal 3 " ++ (decimal (length file) ++ (codes " " ++ encode_lower (sha256 file)))

HasNoFeed-title : (file : List ℕ) → HasNoFeed (title_of file)
HasNoFeed-title file =
    HasNoFeed-append (codes "sfstore-journal 3 ") (decimal (length file) ++ (codes " " ++ encode_lower (sha256 file))) refl
    (HasNoFeed-append (decimal (length file)) (codes " " ++ encode_lower (sha256 file)) (HasNoFeed-decimal (length file))
    (HasNoFeed-append (codes " ") (encode_lower (sha256 file)) refl (HasNoFeed-encode_with lower_digits (sha256 file) refl)))

head-title : (file : List ℕ) → head_of file ≡ title_of file ++ 10 ∷ []
head-title file =
    sym (append_assoc (codes "sfstore-journal 3 ") (decimal (length file) ++ (codes " " ++ encode_lower (sha256 file))) (10 ∷ [])
    ∙ ap (λ l. codes "sfstore-journal 3 " ++ l) (append_assoc (decimal (length file)) (codes " " ++ encode_lower (sha256 file)) (10 ∷ [])
    ∙ ap (λ l. decimal (length file) ++ l) (append_assoc (codes " ") (encode_lower (sha256 file)) (10 ∷ []))))

-- what stands before the first line feed
cut : (p q xs ys : List ℕ) → HasNoFeed p → HasNoFeed q → p ++ 10 ∷ xs ≡ q ++ 10 ∷ ys → p ≡ q
cut [] [] xs ys u v is = refl
cut [] (y ∷ q) xs ys u v is = absurd (wrong is (parts _ _ v).0)
  where
    wrong : 10 ∷ xs ≡ y ∷ q ++ 10 ∷ ys → (y == 10) ≡ false → ⊥
    wrong h other = let e : 10 ≡ y = cc in grind (arith, common_steps)
cut (x ∷ p) [] xs ys u v is = absurd (wrong is (parts _ _ u).0)
  where
    wrong : x ∷ p ++ 10 ∷ xs ≡ 10 ∷ ys → (x == 10) ≡ false → ⊥
    wrong h other = let e : x ≡ 10 = cc in grind (arith, common_steps)
cut (x ∷ p) (y ∷ q) xs ys u v is =
    let first : x ≡ y = head_eq is in
    ap (λ z. z ∷ p) first ∙ ap (λ l. y ∷ l) (cut p q xs ys (parts _ _ u).1 (parts _ _ v).1 (tail_eq is))
  where
    head_eq : x ∷ p ++ 10 ∷ xs ≡ y ∷ q ++ 10 ∷ ys → x ≡ y
    head_eq h = cc

    tail_eq : x ∷ p ++ 10 ∷ xs ≡ y ∷ q ++ 10 ∷ ys → p ++ 10 ∷ xs ≡ q ++ 10 ∷ ys
    tail_eq h = cc

-- heads that begin one text are one
pub same-head : (a b xs ys : List ℕ) → head_of a ++ xs ≡ head_of b ++ ys → head_of a ≡ head_of b
same-head a b xs ys is =
    let left : head_of a ++ xs ≡ title_of a ++ 10 ∷ xs = ap (λ l. l ++ xs) (head-title a) ∙ append_assoc (title_of a) (10 ∷ []) xs in
    let right : head_of b ++ ys ≡ title_of b ++ 10 ∷ ys = ap (λ l. l ++ ys) (head-title b) ∙ append_assoc (title_of b) (10 ∷ []) ys in
    head-title a ∙ ap (λ l. l ++ 10 ∷ []) (cut (title_of a) (title_of b) xs ys (HasNoFeed-title a) (HasNoFeed-title b) (sym left ∙ is ∙ right)) ∙ sym (head-title b)
