-- Whether a rule has a name.
use Rattle.std.proofs.Common.{◌≡◌, ◌∙◌, ℕ, ◌+◌, Bool, true, false, ◌||◌, cond, List, [], ◌∷◌, Some, is_some, bytes_eq, refl, ap}
use Rattle.std.specs.List.{position_from}
use Rattle.std.specs.List.{list_any}
use Rattle.std.specs.Cmp.Lexicographic.{nat_list_eq_equiv}
use Rattle.std.proofs.lemmas.Iterator.Adapters.{position_from-zero}
use Rattle.sf_ruled_store.specs.Ruling.{Rule}
use Rattle.sf_ruled_store.specs.Ruled.{has_rule}

found : {X : Type 0} (test : X → Bool) (i : ℕ) (xs : List X) → is_some (position_from test i xs) ≡ list_any test xs
found test i [] = refl
found {X} test i (x ∷ xs) = by (test x) (found test (i + 1) xs)
  where
    by : (b : Bool) → is_some (position_from test (i + 1) xs) ≡ list_any test xs → is_some (cond b (Some i) (position_from test (i + 1) xs)) ≡ (b || list_any test xs)
    by true later = refl
    by false later = later

turned : (title : List ℕ) (rs : List Rule) → list_any (λ r. bytes_eq title r.name) rs ≡ list_any (λ r. bytes_eq r.name title) rs
turned title [] = refl
turned title (r ∷ rs) =
    ap (λ b. b || list_any (λ r. bytes_eq title r.name) rs) (nat_list_eq_equiv.symm title r.name)
    ∙ ap (λ b. bytes_eq r.name title || b) (turned title rs)

-- a rule has the name just where one of them does
pub taken : (title : List ℕ) (rs : List Rule) → has_rule title rs ≡ list_any (λ r. bytes_eq r.name title) rs
taken title rs =
    ap is_some (position_from-zero (λ (r : Rule). bytes_eq title r.name) rs) ∙ found (λ (r : Rule). bytes_eq title r.name) 0 rs ∙ turned title rs
