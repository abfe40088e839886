-- How values that a text names are parted.
use Rattle.std.proofs.Common.{◌≡◌, ◌≢◌, ℕ, suc, ◌+◌, ◌-◌, ◌<◌, Bool, true, false, ◌&&◌, ◌==◌, cond, Option, None, Some, ok_or, option_map, ◌⊎◌, inl, inr, Result, Ok, Err, MatchResult, List, [], ◌∷◌, ◌++◌, length, take, drop, get_or, not, if◌then◌else◌, refl, sym, ap, ◌∙◌, subst, arith, append-nil, append_assoc}
use Rattle.std.specs.Result.{IsErrAnd}
use Rattle.std.specs.Str.{IsCharBoundary, IsUtf8}
use Rattle.std.proofs.lemmas.Grind.{common_steps}
use Rattle.std.proofs.lemmas.List.{drop-drop, drop_more, get_or-drop, length-drop, take_all, take_more}
use Rattle.std.proofs.lemmas.Str.{IsCharBoundary-after_ascii}
use Rattle.sf_wkt.specs.Tokens.{is_blank}
use Rattle.sf_refusals.specs.declared.refusal.Refusal.{Refusal}
use Rattle.sf_refusals.specs.declared.refusal.Refusal.TheVariants.{BadCommand, Memory}
use Rattle.sf_features.specs.declared.attr_value.AttrValue.{AttrValue}
use Rattle.sf_words.specs.Naming.{given}
use Rattle.sf_words.specs.Words.{at_blank, onto_first, skip_blanks, words}
use Rattle.sf_words.proofs.WordLemmas.{words-some}
use Rattle.sf_commands.specs.Commands.{value_between, OrMemory}
use Rattle.sf_commands.specs.ValueLists.{begins_with_to, ends_from, is_parting, may_begin, parts_from, within_behind}

-- ---- the parts of a list

-- a text in front of the first part
abbrev pub in_front : List ℕ → List (List ℕ) → List (List ℕ)
in_front front [] = front ∷ []
in_front front (part ∷ parts) = (front ++ part) ∷ parts

-- the parts of a byte and a text
abbrev with_byte : ℕ → List (List ℕ) → Bool → List (List ℕ)
with_byte b parts is = if is then [] ∷ parts else onto_first b parts

-- each text has a part
pub some_part : (within : Bool) (text : List ℕ) → parts_from within text ≢ []
some_part within [] none = cc
some_part within (b ∷ text) none = by (is_parting within b) (parts_from (within_behind within b) text) none
  where
    by : (x : Bool) (parts : List (List ℕ)) → with_byte b parts x ≢ []
    by true parts none = cc
    by false [] none = cc
    by false (part ∷ parts) none = cc

pub in_front-nothing : (within : Bool) (text : List ℕ) → parts_from within text ≡ in_front [] (parts_from within text)
in_front-nothing within text = by (parts_from within text) (some_part within text)
  where
    by : (parts : List (List ℕ)) → parts ≢ [] → parts ≡ in_front [] parts
    by [] some = absurd (some refl)
    by (part ∷ parts) some = refl

-- ---- the ends of a range

-- a text in front of the first end
abbrev pub further_front : List ℕ → Option (List ℕ × List ℕ) → Option (List ℕ × List ℕ)
further_front front None = None
further_front front (Some ends) = Some (front ++ ends.0, ends.1)

-- those of a byte and a text, by whether the word stands there
abbrev ends_by : Bool → ℕ → List ℕ → Bool → Option (List ℕ × List ℕ)
ends_by within b bytes is =
    if is then Some ([], drop 1 bytes) else option_map (λ ends. (b ∷ ends.0, ends.1)) (ends_from (within_behind within b) (may_begin within b) bytes)

one_further : (front : List ℕ) (b : ℕ) (o : Option (List ℕ × List ℕ)) → further_front front (option_map (λ ends. (b ∷ ends.0, ends.1)) o) ≡ further_front (front ++ b ∷ []) o
one_further front b None = refl
one_further front b (Some ends) = ap (λ t. Some (t, ends.1)) (sym (append_assoc front (b ∷ []) ends.0))

-- the text from a place on has a byte there
left : (text : List ℕ) (place : ℕ) → place < length text → drop place text ≡ get_or text place 0 ∷ drop (place + 1) text
left text place inside = drop_more text place 0 inside

-- a slice from a place on
pub from-place : (bytes : List ℕ) (place : ℕ) → take (length bytes - place) (drop place bytes) ≡ drop place bytes
from-place bytes place = let less = length-drop place bytes in take_all (length bytes - place) (drop place bytes) (omega (arith, less))

-- what a text is where `to` stands at its front
to_front : (text : List ℕ) → begins_with_to text ≡ true → (1 < length text) × (get_or text 1 0 ≡ 111)
to_front [] is = cc
to_front (a ∷ []) is = cc
to_front (a ∷ b ∷ bytes) is = (omega arith, by (a == 116) (b == 111) refl (at_blank bytes) is)
  where
    by : (x y : Bool) → (b == 111) ≡ y → (z : Bool) → (x && y && z) ≡ true → b ≡ 111
    by true true at z is = grind (arith, common_steps)
    by true false at z is = cc
    by false y at z is = cc

second_of : (a b : Bool) → (a && b) ≡ true → b ≡ true
second_of true b both = both
second_of false b both = cc

-- the second byte of a word `to` stands within the text, and is no part of a longer character
pub to-inside : (begins : Bool) (text : List ℕ) (place : ℕ) → (begins && begins_with_to (drop place text)) ≡ true → (place + 1 < length text) × (get_or text (place + 1) 0 ≡ 111)
to-inside begins text place is =
    let front = to_front (drop place text) (second_of begins (begins_with_to (drop place text)) is) in
    let less : length (drop place text) ≡ length text - place = length-drop place text in
    (omega (arith, front.0, less), sym (get_or-drop place text 1 0) ∙ front.1)

-- where the word stands
pub ends-here : (within begins : Bool) (text : List ℕ) (place : ℕ) → (begins && begins_with_to (drop place text)) ≡ true
    → further_front (take place text) (ends_from within begins (drop place text)) ≡ Some (take place text, drop (place + 2) text)
ends-here within begins text place is =
    let inside = to-inside begins text place is in
    let here : place < length text = omega (arith, inside.0) in
    let rest = left text place here in
    let b = get_or text place 0 in
    let bytes = drop (place + 1) text in
    let test : (begins && begins_with_to (b ∷ bytes)) ≡ true = ap (λ t. begins && begins_with_to t) (sym rest) ∙ is in
    ap (λ t. further_front (take place text) (ends_from within begins t)) rest
    ∙ ap (λ x. further_front (take place text) (ends_by within b bytes x)) test
    ∙ ap (λ front. Some (front, drop 1 bytes)) (append-nil (take place text))
    ∙ ap (λ t. Some (take place text, t)) (drop-drop 1 (place + 1) text ∙ ap (λ n. drop n text) (two_more place))
  where
    two_more : (n : ℕ) → n + 1 + 1 ≡ n + 2
    two_more n = omega arith

-- where it does not
pub ends-further : (within begins : Bool) (text : List ℕ) (place : ℕ) → place < length text → (begins && begins_with_to (drop place text)) ≡ false
    → further_front (take place text) (ends_from within begins (drop place text))
    ≡ further_front (take (place + 1) text) (ends_from (within_behind within (get_or text place 0)) (may_begin within (get_or text place 0)) (drop (place + 1) text))
ends-further within begins text place here is =
    let rest = left text place here in
    let b = get_or text place 0 in
    let bytes = drop (place + 1) text in
    let test : (begins && begins_with_to (b ∷ bytes)) ≡ false = ap (λ t. begins && begins_with_to t) (sym rest) ∙ is in
    ap (λ t. further_front (take place text) (ends_from within begins t)) rest
    ∙ ap (λ x. further_front (take place text) (ends_by within b bytes x)) test
    ∙ one_further (take place text) b (ends_from (within_behind within b) (may_begin within b) bytes)
    ∙ ap (λ front. further_front front (ends_from (within_behind within b) (may_begin within b) bytes)) (sym (take_more text place 0 here))

-- a whole text
pub further_front-nothing : (o : Option (List ℕ × List ℕ)) → o ≡ further_front [] o
further_front-nothing None = refl
further_front-nothing (Some ends) = refl

-- ---- the values

-- a text without words has blanks alone, or nothing
pub no_words : (text : List ℕ) → words text ≡ [] → skip_blanks text ≡ []
no_words text none = by (skip_blanks text) refl
  where
    by : (rest : List ℕ) → skip_blanks text ≡ rest → skip_blanks text ≡ []
    by [] is = is
    by (b ∷ rest) is = absurd (words-some text (subst (λ t. length t ≢ 0) (sym is) (λ zero. cc)) none)

-- the end that a text spells, by whether it has blanks alone
abbrev pub end_by : List ℕ → Bool → Result (Option AttrValue) Refusal
end_by text is = if is then Ok None else given (value_between text) (λ value. Ok (Some value))

-- what is made of something that was read
pub given-spelled : {X T : Type 0} (o : Option X) (make : X → Result T Refusal) (x : X) → Ok x ≡ ok_or o BadCommand → given o make ≡ make x
given-spelled None make x is = cc
given-spelled (Some y) make x is = let same : y ≡ x = cc in ap make same

-- a text that spells no value, or memory that ran out over it
pub value-unread : (o : Option AttrValue) (refusal : Refusal) → OrMemory (ok_or o BadCommand) (Err refusal) → (refusal ≡ Memory) ⊎ ((refusal ≡ BadCommand) × (o ≡ None))
value-unread o Memory is = inl refl
value-unread o refusal is = inr (by o is)
  where
    by : (o : Option AttrValue) → Err refusal ≡ ok_or o BadCommand → (refusal ≡ BadCommand) × (o ≡ None)
    by None is = (cc, refl)
    by (Some value) is = absurd cc

-- a text that spells one
pub value-read : (o : Option AttrValue) (value : AttrValue) → Ok value ≡ ok_or o BadCommand → o ≡ Some value
value-read None value is = cc
value-read (Some found) value is = cc

-- a refusal that is passed on
pub refused-with : {T : Type 0} (P : T → Type 0) (Q : Refusal → Type 0) (refusal : Refusal) (r : Result T Refusal) → Q refusal → IsErrAnd r (λ e. e ≡ refusal) → MatchResult r P Q
refused-with P Q refusal (Ok x) is passed = absurd passed
refused-with P Q refusal (Err e) is passed = subst Q (sym passed) is
