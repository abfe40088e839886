-- What the bytes of an ask stand for.
use Rattle.std.proofs.Common.{◌≡◌, ◌∙◌, ◌<◌, ℕ, zero, suc, Bool, true, false, cond, List, [], ◌∷◌, length, Option, None, Some, nat_eq, option_map, option_and_then, refl, sym, ap, arith}
use Rattle.std.specs.Prelude.{◌==◌, codes, zip, if◌then◌else◌}
use Rattle.std.specs.List.{AllByRecursion}
use Rattle.std.specs.Map.{lookup}
use Rattle.std.specs.Str.{IsAscii, is_utf8}
use Rattle.std.proofs.lemmas.Bool.{eqb-true}
use Rattle.std.proofs.lemmas.Str.{IsUtf8-from_ascii, is_utf8-from_IsUtf8}
use Rattle.sf_known.specs.declared.letter.Letter.{Letter}
use Rattle.sf_known.specs.declared.letter.Letter.TheVariants as letters
use Rattle.sf_known.specs.Patterns.{letter_of, letters_of, pattern_of}
use Rattle.sf_format.specs.Stored.{Named}
use Rattle.sf_format.specs.Readings.{done}
use Rattle.sf_format.specs.declared.defect.Defect.TheVariants.{BadFile}
use Rattle.sf_format.specs.Format.{allowed, asked_by, predicate_of_byte, present}

-- another byte than 0 is that of a named predicate
pub asked-other : (byte : ℕ) → 0 < byte → asked_by byte ≡ done (option_map Named (predicate_of_byte byte))
asked-other zero h = absurd (omega (arith, h))
asked-other (suc n) h = refl

small-key : {X : Type 0} (byte : ℕ) (entries : List (ℕ × X)) (x : X) → AllByRecursion (λ (e : ℕ × X). e.0 < 128) entries → lookup (nat_eq byte) entries ≡ Some x → byte < 128
small-key byte [] x small h = absurd cc
small-key {X} byte (e ∷ es) x small h = by (nat_eq byte e.0) refl (small-key byte es x small.1) h
  where
    by : (t : Bool) → nat_eq byte e.0 ≡ t → (lookup (nat_eq byte) es ≡ Some x → byte < 128) → cond t (Some e.1) (lookup (nat_eq byte) es) ≡ Some x → byte < 128
    by true is later g = let same = eqb-true byte e.0 is in omega (arith, same, small.0)
    by false is later g = later g

small-letter : (byte : ℕ) (l : Letter) → letter_of byte ≡ Some l → byte < 128
small-letter byte l h =
    let characters = zip (codes "*TtFf012") (letters.Any ∷ letters.Filled ∷ letters.Filled ∷ letters.Empty ∷ letters.Empty ∷ letters.Zero ∷ letters.One ∷ letters.Two ∷ []) in
    let small : AllByRecursion (λ (e : ℕ × Letter). e.0 < 128) characters = (omega arith, (omega arith, (omega arith, (omega arith, (omega arith, (omega arith, (omega arith, (omega arith, tt)))))))) in
    small-key byte characters l small h

letters-ascii : (text : List ℕ) (ls : List Letter) → letters_of text ≡ Some ls → IsAscii text
letters-ascii [] ls h i = omega arith
letters-ascii (byte ∷ text) ls h i = by (letters-ascii text) (letter_of byte) (letters_of text) refl refl h i
  where
    by : ((later : List Letter) → letters_of text ≡ Some later → IsAscii text) → (o : Option Letter) (later : Option (List Letter)) → letter_of byte ≡ o → letters_of text ≡ later
        → option_and_then (λ letter. option_map (λ rest. letter ∷ rest) later) o ≡ Some ls → IsAscii (byte ∷ text)
    by behind None later first rest g j = absurd cc
    by behind (Some letter) None first rest g j = absurd cc
    by behind (Some letter) (Some later) first rest g zero = small-letter byte letter first
    by behind (Some letter) (Some later) first rest g (suc j) = behind later rest j

-- what isn't UTF-8 is no pattern
pub no-pattern : (text : List ℕ) → is_utf8 text ≡ false → pattern_of text ≡ None
no-pattern text wrong = by_length (length text == 9)
  where
    by : (o : Option (List Letter)) → letters_of text ≡ o → o ≡ None
    by None h = refl
    by (Some ls) h = let right = is_utf8-from_IsUtf8 text (IsUtf8-from_ascii text (letters-ascii text ls h)) in absurd cc

    by_length : (b : Bool) → (if b then letters_of text else None) ≡ None
    by_length true = by (letters_of text) refl
    by_length false = refl

-- a distance is present where it is below the limit
pub allowed-present : (below : Bool) (n : ℕ) → allowed below BadFile n ≡ present (if below then Some n else None) BadFile
allowed-present true n = refl
allowed-present false n = refl
