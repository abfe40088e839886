-- Heads, and the groups that the parts of a text make.
use Rattle.std.proofs.Common.{◌≡◌, ◌≢◌, ℕ, ◌+◌, ◌-◌, ◌<◌, Bool, true, false, ◌||◌, ◌&&◌, nat_eq, nat_lt, nat_le, List, [], ◌∷◌, ◌++◌, length, Option, Some, None, Result, Ok, Err, option_map, option_and_then, bytes_eq, codes, if◌then◌else◌, refl, sym, ap, ◌∙◌, subst, eq-eqb, arith}
use Rattle.std.specs.List.{list_any}
use Rattle.std.proofs.lemmas.Bool.Decides.{nat_tests}
use Rattle.std.proofs.lemmas.List.{length-append}
use Rattle.sf_refusals.specs.declared.refusal.Refusal.{Refusal}
use Rattle.sf_commands.specs.declared.head.Head.{Head}
use Rattle.sf_wkt.specs.Tokens.{is_blank}
use Rattle.sf_words.specs.Naming.{id_of}
use Rattle.sf_words.specs.Editors.{addressed, by_digits, by_first_word}
use Rattle.sf_words.specs.Words.{at_blank, onto_first as onto_first_word, skip_word, words}
use Rattle.sf_words.specs.Parts.{is_return, parts_of}
pub use Rattle.sf_words.proofs.PartLemmas.{first_part, last_part, no_return, one_part, parts_with}
use Rattle.sf_commands.specs.GroupTexts.{addressed_head, begins_as_head, count_of, group_by_head, group_by_parts, group_of, head_by_words, head_of, if_count, members_behind, members_in, members_max, members_of}

-- ---- heads

-- the head of a text without a return
pub head_of-addressed : (text rest : List ℕ) (editor : ℕ) (head : Option Head) → list_any is_return text ≡ false → addressed text ≡ Ok (editor, rest)
    → head ≡ head_by_words editor (words rest) → head ≡ head_of text
head_of-addressed text rest editor head none at is =
    is ∙ sym (ap addressed_head at) ∙ sym (ap (λ x. if x then None else addressed_head (addressed text)) none)

-- a head has no return
pub head_no_return : (text : List ℕ) (head : Head) → head_of text ≡ Some head → list_any is_return text ≡ false
head_no_return text head is = by (list_any is_return text) (addressed_head (addressed text)) is
  where
    by : (x : Bool) (found : Option Head) → (if x then None else found) ≡ Some head → x ≡ false
    by true found is = cc
    by false found is = refl

-- so it is one part
pub head_alone : (text : List ℕ) (head : Head) → head_of text ≡ Some head → parts_of text ≡ text ∷ []
head_alone text head is = one_part text (head_no_return text head is)

-- a head says that at least one member comes
abbrev HasMembers : Option Head → Type 0
HasMembers None = Unit {0}
HasMembers (Some head) = 0 < head.members

if_has_members : (is : Bool) (head : Option Head) → HasMembers head → HasMembers (if is then head else None)
if_has_members true head some = some
if_has_members false head some = tt

count_has_members : (editor : ℕ) (count : Option ℕ) → HasMembers (option_map (λ members. record { editor = editor; members = members }) (option_and_then if_count count))
count_has_members editor None = tt
count_has_members editor (Some count) = by (nat_lt 0 count) (nat_le count members_max) refl
  where
    by : (some small : Bool) → nat_lt 0 count ≡ some
        → HasMembers (option_map (λ members. record { editor = editor; members = members }) (if some && small then Some count else None))
    by true true is = grind (arith, nat_tests)
    by true false is = tt
    by false small is = tt

words_have_members : (editor : ℕ) (all : List (List ℕ)) → HasMembers (head_by_words editor all)
words_have_members editor (verb ∷ count ∷ []) = if_has_members (bytes_eq verb (codes "together")) _ (count_has_members editor (id_of count))
words_have_members editor other = tt

addressed_has_members : (at : Result (ℕ × List ℕ) Refusal) → HasMembers (addressed_head at)
addressed_has_members (Ok at) = words_have_members at.0 (words at.1)
addressed_has_members (Err refusal) = tt

unless_has_members : (is : Bool) (head : Option Head) → HasMembers head → HasMembers (if is then None else head)
unless_has_members true head some = tt
unless_has_members false head some = some

pub head_has_members : (text : List ℕ) (head : Head) → head_of text ≡ Some head → 0 < head.members
head_has_members text head is =
    subst HasMembers is (unless_has_members (list_any is_return text) (addressed_head (addressed text)) (addressed_has_members (addressed text)))

-- ---- texts that begin otherwise

-- words of which the first begins with a byte
abbrev BeginWith : ℕ → List (List ℕ) → Type 0
BeginWith b all = (word : List ℕ) × (more : List (List ℕ)) × (all ≡ (b ∷ word) ∷ more)

begin-with : (b : ℕ) (ends : Bool) (rest : List (List ℕ)) → BeginWith b (if ends then (b ∷ []) ∷ rest else onto_first_word b rest)
begin-with b true rest = ([], rest, refl)
begin-with b false [] = ([], [], refl)
begin-with b false (word ∷ more) = (word, more, refl)

no-head : (b : ℕ) (word : List ℕ) (more : List (List ℕ)) → nat_eq b 116 ≡ false → head_by_words 0 ((b ∷ word) ∷ more) ≡ None
no-head b word [] other = refl
no-head b word (count ∷ []) other =
    ap (λ x. if x && bytes_eq word (codes "ogether") then option_map (λ members. record { editor = 0; members = members }) (count_of count) else None) other
no-head b word (count ∷ next ∷ more) other = refl

no-addressed : (b : ℕ) (bytes : List ℕ) → is_blank b ≡ false → nat_eq b 64 ≡ false → nat_eq b 116 ≡ false → addressed_head (addressed (b ∷ bytes)) ≡ None
no-addressed b bytes letter apart other =
    let begun = begin-with b (at_blank bytes) (words bytes) in
    let is : words (b ∷ bytes) ≡ (b ∷ begun.0) ∷ begun.1 =
    ap (λ x. if x then words bytes else if at_blank bytes then (b ∷ []) ∷ words bytes else onto_first_word b (words bytes)) letter ∙ begun.2 in
    ap (λ all. addressed_head (by_first_word all (b ∷ bytes))) is
    ∙ ap (λ x. addressed_head (by_digits (if x then Some begun.0 else None) (skip_word (b ∷ bytes)) (b ∷ bytes))) apart
    ∙ ap (head_by_words 0) is
    ∙ no-head b begun.0 begun.1 other

neither : (x y : Bool) → (x || y) ≡ false → (x ≡ false) × (y ≡ false)
neither true y is = cc
neither false y is = (refl, is)

-- a text that begins as no head does is none
pub headless : (text : List ℕ) → begins_as_head text ≡ false → head_of text ≡ None
headless [] apart = refl
headless (b ∷ bytes) apart =
    let parts = neither (is_blank b) (nat_eq b 64 || nat_eq b 116) apart in
    let bytes_apart = neither (nat_eq b 64) (nat_eq b 116) parts.1 in
    unless (list_any is_return (b ∷ bytes)) (no-addressed b bytes parts.0 bytes_apart.0 bytes_apart.1)
  where
    unless : (x : Bool) → addressed_head (addressed (b ∷ bytes)) ≡ None → (if x then None else addressed_head (addressed (b ∷ bytes))) ≡ None
    unless true none = refl
    unless false none = none

-- nor has it one in front
pub groupless : (text : List ℕ) → begins_as_head text ≡ false → group_of text ≡ None
groupless [] apart = refl
groupless (b ∷ bytes) apart = by (is_return b) (parts_of bytes)
  where
    by : (x : Bool) (rest : List (List ℕ)) → group_by_parts (parts_with b rest x) (b ∷ bytes) ≡ None
    by true rest = refl
    by false [] = ap (λ found. group_by_head found (b ∷ bytes) 0) (headless (b ∷ []) apart)
    by false (part ∷ rest) = ap (λ found. group_by_head found (b ∷ bytes) (length rest)) (headless (b ∷ part) apart)

-- ---- groups

-- the members of a text that is cut at its first return
pub members_of-cut : (text front rest : List ℕ) → list_any is_return front ≡ false → text ≡ front ++ 13 ∷ rest → members_of text ≡ members_behind [] (parts_of rest)
members_of-cut text front rest none cut = ap members_in (ap parts_of cut ∙ first_part front rest none)

-- and of one without a return
pub members_of-alone : (text : List ℕ) → list_any is_return text ≡ false → members_of text ≡ Ok []
members_of-alone text none = ap members_in (one_part text none)

-- the group of a text that is cut at its first return
pub group_of-cut : (text front rest : List ℕ) → list_any is_return front ≡ false → text ≡ front ++ 13 ∷ rest
    → group_of text ≡ group_by_head (head_of front) text (length (parts_of rest))
group_of-cut text front rest none cut = ap (λ parts. group_by_parts parts text) (ap parts_of cut ∙ first_part front rest none)

-- none where no head stands in front
pub group_of-headless : (text front rest : List ℕ) → list_any is_return front ≡ false → text ≡ front ++ 13 ∷ rest → head_of front ≡ None → group_of text ≡ None
group_of-headless text front rest none cut is =
    group_of-cut text front rest none cut ∙ ap (λ found. group_by_head found text (length (parts_of rest))) is

-- it is one where as many parts come as the head in front says, and none where others do
pub group_of-counted : (text front rest : List ℕ) (head : Head) (count : ℕ) → list_any is_return front ≡ false → text ≡ front ++ 13 ∷ rest → head_of front ≡ Some head
    → count ≡ length (parts_of rest) → count ≡ head.members → group_of text ≡ Some (head.editor, members_of text)
group_of-counted text front rest head count none cut is counted same =
    let as_said : head.members ≡ length (parts_of rest) = sym same ∙ counted in
    group_of-cut text front rest none cut ∙ ap (λ found. group_by_head found text (length (parts_of rest))) is
    ∙ ap (λ x. if x then Some (head.editor, members_of text) else None) (eq-eqb head.members (length (parts_of rest)) as_said)

pub group_of-miscounted : (text front rest : List ℕ) (head : Head) (count : ℕ) → list_any is_return front ≡ false → text ≡ front ++ 13 ∷ rest → head_of front ≡ Some head
    → count ≡ length (parts_of rest) → count ≢ head.members → group_of text ≡ None
group_of-miscounted text front rest head count none cut is counted other =
    group_of-cut text front rest none cut ∙ ap (λ found. group_by_head found text (length (parts_of rest))) is
    ∙ ap (λ x. if x then Some (head.editor, members_of text) else None) (apart head.members (length (parts_of rest)) (λ same. other (counted ∙ sym same)))
  where
    apart : (m n : ℕ) → m ≢ n → nat_eq m n ≡ false
    apart m n other = grind (arith, nat_tests)

-- a text without a return is no group
pub group_of-alone : (text : List ℕ) → list_any is_return text ≡ false → group_of text ≡ None
group_of-alone text none = ap (λ parts. group_by_parts parts text) (one_part text none) ∙ by (head_of text) (head_has_members text)
  where
    by : (found : Option Head) → ((head : Head) → found ≡ Some head → 0 < head.members) → group_by_head found text 0 ≡ None
    by None some = refl
    by (Some head) some = ap (λ x. if x then Some (head.editor, members_of text) else None) (above (some head refl))
      where
        above : 0 < head.members → nat_eq head.members 0 ≡ false
        above some = grind (arith, nat_tests)

-- the last member that a head waits for makes a group of it and those before
pub group_completed : (text part first : List ℕ) (members : List (List ℕ)) (head : Head) → parts_of text ≡ first ∷ members → head_of first ≡ Some head
    → length members + 1 ≡ head.members → list_any is_return part ≡ false
    → group_of (text ++ 13 ∷ part) ≡ Some (head.editor, members_of (text ++ 13 ∷ part))
group_completed text part first members head parts is last none =
    let whole = text ++ 13 ∷ part in
    let count : head.members ≡ length (members ++ part ∷ []) = sym last ∙ sym (length-append members (part ∷ [])) in
    ap (λ all. group_by_parts all whole) (last_part text part none ∙ ap (λ before. before ++ part ∷ []) parts)
    ∙ ap (λ found. group_by_head found whole (length (members ++ part ∷ []))) is
    ∙ ap (λ x. if x then Some (head.editor, members_of whole) else None) (eq-eqb head.members (length (members ++ part ∷ [])) count)
