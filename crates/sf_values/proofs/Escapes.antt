-- A text with escapes is read as that text.
use Rattle.std.proofs.Common.{◌≡◌, ℕ, ◌+◌, ◌*◌, ◌/◌, ◌%◌, ◌<◌, Bool as Truth, true, false, ◌&&◌, List, [], ◌∷◌, ◌++◌, take, flat_map, bytes_eq, Option, None, Some, refl, ap, ◌∙◌, arith, length-append, sym}
use Rattle.std.specs.Prelude.{◌==◌, ◌||◌, if◌then◌else◌}
use Rattle.std.specs.Char.{digit_char}
use Rattle.std.specs.Option.{option_to_list}
use Rattle.std.specs.Str.{IsUtf8, is_utf8}
use Rattle.std.proofs.Math.Seq.{take-append_seam}
use Rattle.std.proofs.lemmas.Bool.Decides.{nat_tests}
use Rattle.std.proofs.lemmas.Grind.{common_steps}
use Rattle.std.proofs.lemmas.Slice.Eq.{bytes_eq-Decides}
use Rattle.std.proofs.lemmas.Str.{IsUtf8-from_is_utf8, is_utf8-from_IsUtf8}
use Rattle.sf_features.specs.declared.attr_value.AttrValue.{AttrValue}
use Rattle.sf_features.specs.declared.attr_value.AttrValue.TheVariants.{Text}
use Rattle.sf_values.specs.declared.state.State.TheVariants.{Plain, Backslash, Quote}
use Rattle.sf_values.specs.Escapes.{digit_value, escape_of, escaped, escaped_byte, is_unescaped, unescaped, within_escape}
use Rattle.sf_values.specs.Values.{escaped_text_of}

-- what holds of both holds of the one that a test chooses
pub chosen : (P : List ℕ → Type 0) (x : Truth) (one other : List ℕ) → (x ≡ true → P one) → (x ≡ false → P other) → P (if x then one else other)
chosen P true one other is not = is refl
chosen P false one other is not = not refl

digit-back : (d : ℕ) → d < 16 → digit_value (digit_char d) ≡ d
digit-back d small = grind (arith, nat_tests, common_steps)

pub special-small : (b : ℕ) → is_unescaped b ≡ false → b < 128
special-small b h = grind (arith, nat_tests, common_steps)

two-digits : (b : ℕ) → b < 128 → (16 * digit_value (digit_char (b / 16)) + digit_value (digit_char (b % 16))) % 256 ≡ b
two-digits b small =
    ap (λ x. (16 * x + digit_value (digit_char (b % 16))) % 256) (digit-back (b / 16) (omega (arith, small)))
    ∙ ap (λ y. (16 * (b / 16) + y) % 256) (digit-back (b % 16) (omega arith))
    ∙ omega (arith, small)

same-byte : (b n : ℕ) → (b == n) ≡ true → n ≡ b
same-byte b n is = grind (arith, common_steps)

-- what stands for a byte is read as that byte
abbrev IsRead : ℕ → List ℕ → List ℕ → Type 0
IsRead b rest spelled = unescaped Plain (spelled ++ rest) ≡ b ∷ unescaped Plain rest

escape-read : (b : ℕ) (rest : List ℕ) → b < 128 → IsRead b rest (escape_of b)
escape-read b rest small =
    chosen read (b == 10) _ _ (told 10) λ _. chosen read (b == 9) _ _ (told 9) λ _. chosen read (b == 13) _ _ (told 13)
    λ _. chosen read (b == 92) _ _ (told 92) λ _. chosen read (b == 39) _ _ (told 39)
    λ _. ap (λ c. c ∷ unescaped Plain rest) (two-digits b small)
  where
    read : List ℕ → Type 0
    read = IsRead b rest

    told : (c : ℕ) → (b == c) ≡ true → c ∷ unescaped Plain rest ≡ b ∷ unescaped Plain rest
    told c is = ap (λ first. first ∷ unescaped Plain rest) (same-byte b c is)

no-escape : (b : ℕ) → is_unescaped b ≡ true → ((b == 92) ≡ false) × ((b == 39) ≡ false)
no-escape b is = (grind (arith, nat_tests, common_steps), grind (arith, nat_tests, common_steps))

plain-read : (b : ℕ) (rest : List ℕ) → is_unescaped b ≡ true → IsRead b rest (b ∷ [])
plain-read b rest is =
    ap (λ x. option_to_list (if x || b == 39 then None else Some b) ++ unescaped (if x then Backslash else if b == 39 then Quote else Plain) rest) (no-escape b is).0
    ∙ ap (λ x. option_to_list (if x then None else Some b) ++ unescaped (if x then Quote else Plain) rest) (no-escape b is).1

byte-read : (b : ℕ) (rest : List ℕ) → IsRead b rest (escaped_byte b)
byte-read b rest = chosen (IsRead b rest) (is_unescaped b) _ _ (plain-read b rest) λ is. escape-read b rest (special-small b is)

pub unescaped-escaped : (text : List ℕ) → unescaped Plain (flat_map escaped_byte text) ≡ text
unescaped-escaped [] = refl
unescaped-escaped (b ∷ text) = byte-read b (flat_map escaped_byte text) ∙ ap (λ rest. b ∷ rest) (unescaped-escaped text)

-- a text is read from what is written of it
pub escaped-read : (text : List ℕ) → is_utf8 text ≡ true → escaped_text_of (escaped text) ≡ Some (Text text)
escaped-read text utf8 =
    let inside = flat_map escaped_byte text in
    let inner : within_escape (escaped text) ≡ inside =
    ap (λ k. take k (inside ++ 39 ∷ [])) (omega (arith, length-append inside (39 ∷ []))) ∙ take-append_seam inside (39 ∷ []) in
    let whole : unescaped Plain (within_escape (escaped text)) ≡ text = ap (unescaped Plain) inner ∙ unescaped-escaped text in
    ap (λ (t : List ℕ). if is_utf8 t && bytes_eq (escaped t) (escaped text) then Some (Text t) else None) whole
    ∙ ap (λ b. if b && bytes_eq (escaped text) (escaped text) then Some (Text text) else None) utf8
    ∙ ap (λ b. if b then Some (Text text) else None) ((bytes_eq-Decides (escaped text) (escaped text)).1 refl)

-- what is read of bytes that are written so
abbrev answered : List ℕ → List ℕ → Option AttrValue
answered text written = if is_utf8 text && bytes_eq (escaped text) written then Some (Text text) else None

pub read-written : (written text : List ℕ) → text ≡ unescaped Plain (within_escape written) → IsUtf8 text → escaped text ≡ written → Some (Text text) ≡ escaped_text_of written
read-written written text told utf8 same = sym (
    ap (λ t. answered t written) (sym told)
    ∙ ap (λ b. if b && bytes_eq (escaped text) written then Some (Text text) else None) (is_utf8-from_IsUtf8 text utf8)
    ∙ ap (λ b. if b then Some (Text text) else None) ((bytes_eq-Decides (escaped text) written).1 same))

-- and none where they tell no text
pub read-none : (written text : List ℕ) → text ≡ unescaped Plain (within_escape written) → (IsUtf8 text → ⊥) → None ≡ escaped_text_of written
read-none written text told none = sym (ap (λ t. answered t written) (sym told) ∙ by (is_utf8 text) refl)
  where
    by : (x : Truth) → is_utf8 text ≡ x → answered text written ≡ None
    by true is = absurd (none (IsUtf8-from_is_utf8 text is))
    by false is = ap (λ b. if b && bytes_eq (escaped text) written then Some (Text text) else None) is
