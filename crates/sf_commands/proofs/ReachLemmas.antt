-- What `reach` makes of the words after it.
use Rattle.std.proofs.Common.{◌≡◌, ◌∙◌, ℕ, ◌+◌, ◌<◌, Bool, true, false, ◌&&◌, nat_lt, nat_le, List, [], ◌∷◌, ◌++◌, length, length-append, Option, None, Some, Result, Err, if◌then◌else◌, refl, sym, ap, arith, append_assoc, append-nil}
use Rattle.std.proofs.lemmas.Grind.{common_steps}
use Rattle.sf_refusals.specs.declared.refusal.Refusal.{Refusal}
use Rattle.sf_refusals.specs.declared.refusal.Refusal.TheVariants.{BadCommand}
use Rattle.sf_words.specs.Naming.{id_of, is_until}
use Rattle.sf_commands.specs.declared.command.Command.{Command}
use Rattle.sf_commands.specs.Commands.{Linked, and_before, ids_max, linked_of, reach_linked}

-- identifiers in front of what is read of the words left
abbrev pub behind : List ℕ → Option Linked → Option Linked
behind ids None = None
behind ids (Some linked) = Some (ids ++ linked.0, linked.1)

-- of the words so many are read as these identifiers
pub record AreLinked (all left : List (List ℕ)) (ids : List ℕ) (count : ℕ) : Type 0 where
  pub made : linked_of all ≡ behind ids (linked_of left)
  pub counted : length ids ≡ count

behind-nothing : (o : Option Linked) → o ≡ behind [] o
behind-nothing None = refl
behind-nothing (Some linked) = refl

pub none_linked : (all : List (List ℕ)) → AreLinked all all [] 0
none_linked all = record { made = behind-nothing (linked_of all); counted = refl }

behind-one : (ids : List ℕ) (id : ℕ) (o : Option Linked) → behind ids (and_before (Some id) o) ≡ behind (ids ++ id ∷ []) o
behind-one ids id None = refl
behind-one ids id (Some linked) = ap (λ (all : List ℕ). Some (all, linked.1)) (sym (append_assoc ids (id ∷ []) linked.0))

-- no word is left
pub ended : (all left : List (List ℕ)) (ids : List ℕ) (count : ℕ) → AreLinked all left ids count → left ≡ [] → linked_of all ≡ Some (ids, None)
ended all left ids count are none = are.made ∙ ap (λ w. behind ids (linked_of w)) none ∙ ap (λ (all : List ℕ). Some (all, None)) (append-nil ids)

word-is : (word : List ℕ) (rest : List (List ℕ)) (b : Bool) → is_until word ≡ b → linked_of (word ∷ rest) ≡ (if b then Some ([], Some rest) else and_before (id_of word) (linked_of rest))
word-is word rest b is = ap (λ b. if b then Some ([], Some rest) else and_before (id_of word) (linked_of rest)) is

-- `until` is the next
pub until_next : (all left rest : List (List ℕ)) (ids : List ℕ) (count : ℕ) (word : List ℕ) → AreLinked all left ids count → left ≡ word ∷ rest → is_until word ≡ true → linked_of all ≡ Some (ids, Some rest)
until_next all left rest ids count word are is until =
    are.made ∙ ap (λ w. behind ids (linked_of w)) is ∙ ap (behind ids) (word-is word rest true until) ∙ ap (λ (all : List ℕ). Some (all, Some rest)) (append-nil ids)

-- one identifier more
pub one_linked : (all left rest : List (List ℕ)) (ids now : List ℕ) (count : ℕ) (word : List ℕ) (id : ℕ) → AreLinked all left ids count → left ≡ word ∷ rest → is_until word ≡ false → id_of word ≡ Some id
    → now ≡ ids ++ id ∷ [] → AreLinked all rest now (count + 1)
one_linked all left rest ids now count word id are is until spelled pushed = record {
  made =
      are.made ∙ ap (λ w. behind ids (linked_of w)) is ∙ ap (behind ids) (word-is word rest false until ∙ ap (λ o. and_before o (linked_of rest)) spelled)
      ∙ behind-one ids id (linked_of rest) ∙ ap (λ d. behind d (linked_of rest)) (sym pushed);
  counted =
      let len = length-append ids (id ∷ []) in
      let same = ap length pushed in
      let before = are.counted in
      omega (arith, len, same, before);
}

-- a word that is no identifier
pub not_linked : (all left rest : List (List ℕ)) (ids : List ℕ) (count : ℕ) (word : List ℕ) → AreLinked all left ids count → left ≡ word ∷ rest → is_until word ≡ false → id_of word ≡ None → linked_of all ≡ None
not_linked all left rest ids count word are is until spelled =
    are.made ∙ ap (λ w. behind ids (linked_of w)) is ∙ ap (behind ids) (word-is word rest false until ∙ ap (λ o. and_before o (linked_of rest)) spelled)

-- more identifiers than may be
pub too_many_linked : (layer ask : List ℕ) (all left : List (List ℕ)) (ids : List ℕ) (count : ℕ) → AreLinked all left ids count → 1000 < count → reach_linked layer ask (linked_of all) ≡ Err BadCommand
too_many_linked layer ask all left ids count are many = ap (reach_linked layer ask) are.made ∙ by (linked_of left)
  where
    too_long : (n : ℕ) → 1000 < n → (nat_lt 0 n && nat_le n ids_max) ≡ false
    too_long n more = grind (arith, common_steps)

    failing : (b : Bool) (x : Result Command Refusal) → b ≡ false → (if b then x else Err BadCommand) ≡ Err BadCommand
    failing b x is = ap (λ b. if b then x else Err BadCommand) is

    by : (o : Option Linked) → reach_linked layer ask (behind ids o) ≡ Err BadCommand
    by None = refl
    by (Some linked) =
        let len = length-append ids linked.0 in
        let before = are.counted in
        failing (nat_lt 0 (length (ids ++ linked.0)) && nat_le (length (ids ++ linked.0)) ids_max) _ (too_long (length (ids ++ linked.0)) (omega (arith, len, before, many)))
