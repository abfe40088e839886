-- A text between quotes, put together from the pieces of bytes that stand as they are, and what stands for each other byte.
use Rattle.std.proofs.Common.{◌≡◌, ℕ, zero, suc, ◌+◌, ◌<◌, ◌≤◌, Bool, true, false, cond, List, [], ◌∷◌, ◌++◌, length, take, drop, flat_map, get_or, refl, sym, ap, ◌∙◌, subst, arith, append_assoc}
use Rattle.std.specs.Prelude.{if◌then◌else◌}
use Rattle.std.specs.List.{prefix_len}
use Rattle.std.specs.Str.{IsCharBoundary, IsUtf8}
use Rattle.std.proofs.lemmas.Bool.Decides.{nat_tests}
use Rattle.std.proofs.lemmas.Str.{IsCharBoundary-after_ascii, IsCharBoundary-before_ascii}
use Rattle.std.proofs.lemmas.List.Sums.{prefix_len-le-length, prefix_len_stops}
use Rattle.std.proofs.lemmas.Grind.{common_steps}
use Rattle.sf_values.specs.declared.form.Form.{Form}
use Rattle.sf_values.specs.declared.form.Form.TheVariants.{Quoted, Escaped}
use Rattle.sf_values.specs.Escapes.{escape_of, is_unescaped}
use Rattle.sf_values.specs.Values.{is_plain, is_plain_in, special_byte, written_byte}

-- what the test of a plain byte and the writing of a byte have to do with one another
pub record IsWritten (plain : ℕ → Bool) (written : ℕ → List ℕ) : Type 0 where
  pub stands : (b : ℕ) → plain b ≡ true → written b ≡ b ∷ []
  pub ascii : (b : ℕ) → plain b ≡ false → b < 128

quoted-ascii : (b : ℕ) → is_plain b ≡ false → b < 128
quoted-ascii b h = grind (arith, common_steps)

escaped-ascii : (b : ℕ) → is_unescaped b ≡ false → b < 128
escaped-ascii b h = grind (arith, nat_tests, common_steps)

pub form-written : (form : Form) → IsWritten (is_plain_in form) (written_byte form)
form-written Quoted = record {
  stands = λ b is. grind (arith, common_steps);
  ascii = quoted-ascii;
}
form-written Escaped = record {
  stands = λ b is. ap (λ x. if x then b ∷ [] else escape_of b) is;
  ascii = escaped-ascii;
}

-- what stands for a byte that is not plain
pub special-written : (form : Form) (b : ℕ) → is_plain_in form b ≡ false → special_byte form b ≡ written_byte form b
special-written Quoted b is = grind (arith, common_steps)
special-written Escaped b is = sym (ap (λ x. if x then b ∷ [] else escape_of b) is)

one-more : (n : ℕ) → 1 + n ≡ suc n
one-more n = omega arith

-- a text of plain bytes is written as it stands
pub plain-written : {plain : ℕ → Bool} {written : ℕ → List ℕ} → IsWritten plain written
    → (bs : List ℕ) → length bs ≤ prefix_len plain bs → flat_map written bs ≡ bs
plain-written w [] h = refl
plain-written {plain} {written} w (b ∷ bs) h = by (plain-written w bs) (plain b) refl h
  where
    by : (length bs ≤ prefix_len plain bs → flat_map written bs ≡ bs) → (x : Bool) → plain b ≡ x → length (b ∷ bs) ≤ cond x (1 + prefix_len plain bs) 0
        → flat_map written (b ∷ bs) ≡ b ∷ bs
    by later false is h = absurd (omega (arith, h))
    by later true is h = ap (λ first. first ++ flat_map written bs) (w.stands b is) ∙ ap (λ rest. b ∷ rest) (later (omega (arith, h)))

-- what stands behind the first byte that is not plain
abbrev pub behind : ℕ → List ℕ → List ℕ
behind n bs = drop 1 (drop n bs)

abbrev parted : (ℕ → List ℕ) → List ℕ → ℕ → List ℕ
parted written bs n = take n bs ++ (written (get_or bs n 0) ++ flat_map written (behind n bs))

-- up to that byte as it stands, then what is written for it
next-written : {plain : ℕ → Bool} {written : ℕ → List ℕ} → IsWritten plain written
    → (bs : List ℕ) → prefix_len plain bs < length bs → flat_map written bs ≡ parted written bs (prefix_len plain bs)
next-written w [] h = absurd (omega (arith, h))
next-written {plain} {written} w (b ∷ bs) h = by (next-written w bs) (plain b) refl h
  where
    by : (prefix_len plain bs < length bs → flat_map written bs ≡ parted written bs (prefix_len plain bs))
        → (x : Bool) → plain b ≡ x → cond x (1 + prefix_len plain bs) 0 < length (b ∷ bs)
        → flat_map written (b ∷ bs) ≡ parted written (b ∷ bs) (cond (plain b) (1 + prefix_len plain bs) 0)
    by later false is h = sym (ap (λ x. parted written (b ∷ bs) (cond x (1 + prefix_len plain bs) 0)) is)
    by later true is h =
        let m = prefix_len plain bs in
        ap (λ first. first ++ flat_map written bs) (w.stands b is)
        ∙ ap (λ rest. b ∷ rest) (later (omega (arith, h)))
        ∙ sym (ap (parted written (b ∷ bs)) (one-more m))
        ∙ sym (ap (λ x. parted written (b ∷ bs) (cond x (1 + m) 0)) is)

-- a turn of the loop: what is pushed and what is left are the whole still
pub written-further : {plain : ℕ → Bool} {written : ℕ → List ℕ} → IsWritten plain written → (before after whole bs : List ℕ) (n : ℕ) → n ≡ prefix_len plain bs → n < length bs
    → after ≡ (before ++ take n bs) ++ written (get_or bs n 0) → before ++ flat_map written bs ≡ whole
    → after ++ flat_map written (behind n bs) ≡ whole
written-further {plain} {written} w before after whole bs n at inside pushed h =
    ap (λ t. t ++ flat_map written (behind n bs)) pushed
    ∙ append_assoc (before ++ take n bs) (written (get_or bs n 0)) (flat_map written (behind n bs))
    ∙ append_assoc before (take n bs) (written (get_or bs n 0) ++ flat_map written (behind n bs))
    ∙ ap (λ rest. before ++ rest) (sym (next-written w bs (subst (λ k. k < length bs) at inside) ∙ sym (ap (parted written bs) at)))
    ∙ h

-- the end of the loop
pub written-whole : {plain : ℕ → Bool} {written : ℕ → List ℕ} → IsWritten plain written
    → (before after whole bs : List ℕ) → length bs ≤ prefix_len plain bs → after ≡ before ++ bs → before ++ flat_map written bs ≡ whole → after ≡ whole
written-whole w before after whole bs none pushed h = pushed ∙ ap (λ t. before ++ t) (sym (plain-written w bs none)) ∙ h

at-front : (n d : ℕ) (bs : List ℕ) → get_or (drop n bs) 0 d ≡ get_or bs n d
at-front zero d bs = refl
at-front (suc n) d [] = refl
at-front (suc n) d (b ∷ bs) = at-front n d bs

-- the first byte that is not plain
pub first-special : (plain : ℕ → Bool) (bs rest : List ℕ) (n : ℕ) → n ≡ prefix_len plain bs → n < length bs → rest ≡ drop n bs
    → (get_or rest 0 0 ≡ get_or bs n 0) × (plain (get_or rest 0 0) ≡ false)
first-special plain bs rest n at inside is =
    let here : get_or rest 0 0 ≡ get_or bs n 0 = ap (λ r. get_or r 0 0) is ∙ at-front n 0 bs in
    let first : get_or bs n 0 ≡ get_or bs (prefix_len plain bs) 0 = ap (λ k. get_or bs k 0) at in
    (here, ap plain (here ∙ first) ∙ prefix_len_stops plain bs 0 (subst (λ k. k < length bs) at inside))

-- a text may be cut before it
pub before-special : {plain : ℕ → Bool} {written : ℕ → List ℕ} → IsWritten plain written → (bs : List ℕ) (n : ℕ) → n ≡ prefix_len plain bs → IsCharBoundary bs n
before-special {plain} w bs n at = subst (IsCharBoundary bs) (sym at) (
  prefix_len-le-length plain bs,
  λ inside. (IsCharBoundary-before_ascii bs (prefix_len plain bs) inside (w.ascii _ (prefix_len_stops plain bs 0 inside))).1 inside,
)

some-left : (n : ℕ) (bs : List ℕ) → n < length bs → 0 < length (drop n bs)
some-left zero bs h = h
some-left (suc n) [] h = absurd (omega (arith, h))
some-left (suc n) (b ∷ bs) h = some-left n bs (omega (arith, h))

-- and behind it
pub behind-special : {plain : ℕ → Bool} {written : ℕ → List ℕ} → IsWritten plain written
    → (bs rest : List ℕ) (n : ℕ) → n ≡ prefix_len plain bs → n < length bs → rest ≡ drop n bs → IsUtf8 rest → IsCharBoundary rest 1
behind-special {plain} w bs rest n at inside is text =
    IsCharBoundary-after_ascii rest 0 text (subst (λ r. 0 < length r) (sym is) (some-left n bs inside)) (w.ascii _ (first-special plain bs rest n at inside is).1)
