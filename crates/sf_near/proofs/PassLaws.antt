-- A pass over entries that keeps the keys of those that pass a test: with what the entries that are left come to, the keys are the whole.
use Rattle.std.proofs.Common.{◌≡◌, ◌∙◌, ℕ, Bool, List, [], ◌∷◌, ◌++◌, filter, append_assoc, cond, true, false, ap, sym}
use Rattle.std.specs.Map.{keys_of}

pub passed-other : {X : Type 0} (p : ℕ × X → Bool) (all left rest : List (ℕ × X)) (e : ℕ × X) (ids : List ℕ) → left ≡ e ∷ rest → p e ≡ false
    → ids ++ keys_of (filter p left) ≡ keys_of (filter p all) → ids ++ keys_of (filter p rest) ≡ keys_of (filter p all)
passed-other p all left rest e ids here fails was =
    ap (λ b. ids ++ keys_of (cond b (e ∷ filter p rest) (filter p rest))) (sym fails) ∙ ap (λ es. ids ++ keys_of (filter p es)) (sym here) ∙ was

pub passed-one : {X : Type 0} (p : ℕ × X → Bool) (all left rest : List (ℕ × X)) (e : ℕ × X) (ids new : List ℕ) → left ≡ e ∷ rest → p e ≡ true → new ≡ ids ++ e.0 ∷ []
    → ids ++ keys_of (filter p left) ≡ keys_of (filter p all) → new ++ keys_of (filter p rest) ≡ keys_of (filter p all)
passed-one p all left rest e ids new here passes pushed was =
    ap (λ ks. ks ++ keys_of (filter p rest)) pushed ∙ append_assoc ids (e.0 ∷ []) (keys_of (filter p rest))
    ∙ ap (λ b. ids ++ keys_of (cond b (e ∷ filter p rest) (filter p rest))) (sym passes) ∙ ap (λ es. ids ++ keys_of (filter p es)) (sym here) ∙ was
