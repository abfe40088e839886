-- Names among others, and texts that are shown or not.
use Rattle.std.proofs.Common.{◌≡◌, ℕ, Bool, true, false, cond, ◌||◌, ◌==◌, List, [], ◌∷◌, map, length, Option, Some, None, Bor, String, Global, string_bytes, option_map, sym, ap, subst, refl, ◌∙◌}
use Rattle.std.specs.Prelude.{if◌then◌else◌, IsSomeAnd, MatchOption}
use Rattle.std.specs.List.{find, list_any}
use lib.ListN.{length-map}
use Rattle.sf_streams.specs.Streams.{Puts}
use Rattle.sf_streams.proofs.SendingLaws.{Puts-nothing}

-- whether a mapped list has an element that passes
pub list_any-map : {X Y : Type 0} (test : Y → Bool) (f : X → Y) (xs : List X) → list_any test (map f xs) ≡ list_any (λ x. test (f x)) xs
list_any-map test f [] = refl
list_any-map test f (x ∷ xs) = ap (λ b. test (f x) || b) (list_any-map test f xs)

-- a mapped list is as long
pub none-map : {X Y : Type 0} (f : X → Y) (xs : List X) → (length (map f xs) == 0) ≡ (length xs == 0)
none-map f xs = ap (λ n. n == 0) (length-map xs f)

-- whether it is empty or has one that passes
pub none-or-any : {X Y : Type 0} (test : Y → Bool) (f : X → Y) (xs : List X)
    → (length (map f xs) == 0 || list_any test (map f xs)) ≡ (length xs == 0 || list_any (λ x. test (f x)) xs)
none-or-any test f xs = ap (λ b. b || list_any test (map f xs)) (none-map f xs) ∙ ap (λ b. length xs == 0 || b) (list_any-map test f xs)

-- what is not shown is put with nothing
pub Puts-hidden : (written : Option (List ℕ)) (held text : List ℕ) (shown : Bool) → shown ≡ false → Puts written written held held (if shown then text else [])
Puts-hidden written held text shown hidden = subst (λ b. Puts written written held held (if b then text else [])) (sym hidden) (Puts-nothing written held)

-- the first of a mapped list that passes
pub find-map : {X Y : Type 0} (test : Y → Bool) (f : X → Y) (xs : List X) → option_map f (find (λ x. test (f x)) xs) ≡ find test (map f xs)
find-map test f [] = refl
find-map test f (x ∷ xs) = first (test (f x)) (find-map test f xs)
  where
    first : (b : Bool) → option_map f (find (λ y. test (f y)) xs) ≡ find test (map f xs)
        → option_map f (cond b (Some x) (find (λ y. test (f y)) xs)) ≡ cond b (Some (f x)) (find test (map f xs))
    first true e = refl
    first false e = e

-- the bytes of a name that was found, given on as a text
given-bytes : (found : Option (Bor (String Global))) (given : Option (Bor (List ℕ)))
    → MatchOption found (given ≡ None) (λ name. IsSomeAnd given (λ text. text.now ≡ string_bytes name.now))
    → option_map (λ text. text.now) given ≡ option_map string_bytes (option_map (λ name. name.now) found)
given-bytes None given none = ap (option_map (λ text. text.now)) none
given-bytes (Some name) None said = absurd said
given-bytes (Some name) (Some text) same = ap Some same

-- the first of some names that passes, given on as a text
pub found-given : (test : List ℕ → Bool) (found : Option (Bor (String Global))) (given : Option (Bor (List ℕ))) (names : List (String Global)) (bytes : List (List ℕ))
    → option_map (λ name. name.now) found ≡ find (λ name. test (string_bytes name)) names → map string_bytes names ≡ bytes
    → MatchOption found (given ≡ None) (λ name. IsSomeAnd given (λ text. text.now ≡ string_bytes name.now))
    → option_map (λ text. text.now) given ≡ find test bytes
found-given test found given names bytes is are said =
    given-bytes found given said ∙ ap (option_map string_bytes) is ∙ find-map test string_bytes names ∙ ap (find test) are
