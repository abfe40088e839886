-- Members of lists that pass a test.
use Rattle.std.proofs.Common.{◌≡◌, suc, Bool, true, false, ◌||◌, List, [], ◌∷◌, refl, arith}
use Rattle.std.specs.List.{Contains, list_any}
use Rattle.std.proofs.lemmas.Bool.{false≢true}

contains-here : {X : Type 0} (x : X) (xs : List X) → Contains (x ∷ xs) x
contains-here x xs = (0, omega arith, refl)

contains-there : {X : Type 0} (x : X) (xs : List X) (y : X) → Contains xs y → Contains (x ∷ xs) y
contains-there x xs y c = (suc c.0, omega (arith, c.1), c.2)

-- what passes a test is found by it
pub any-contains : {X : Type 0} (p : X → Bool) (xs : List X) → list_any p xs ≡ true → (x : X) × Contains xs x × (p x ≡ true)
any-contains p [] h = absurd (false≢true h)
any-contains p (x ∷ xs) h = by (p x) refl (any-contains p xs) h
  where
    by : (b : Bool) → p x ≡ b → (list_any p xs ≡ true → (y : _) × Contains xs y × (p y ≡ true)) → (b || list_any p xs) ≡ true → (y : _) × Contains (x ∷ xs) y × (p y ≡ true)
    by true is later k = (x, contains-here x xs, is)
    by false is later k = let found = later k in (found.0, contains-there x xs found.0 found.1, found.2)
