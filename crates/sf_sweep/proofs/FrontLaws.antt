-- Contacts of edges, put down one by one.
use Rattle.std.proofs.Common.{◌≡◌, refl, ap, sym, ◌∙◌, subst, ℕ, zero, suc, ◌+◌, ◌<◌, arith, List, [], ◌∷◌, ◌++◌, length, map, take}
use Rattle.std.specs.Prelude.{slice_index_or}
use Rattle.std.specs.List.{All}
use Rattle.std.proofs.lemmas.List.{get_or_append_left, length-append}

mapped-more : {A B : Type 0} (f : A → B) (xs : List A) (i : ℕ) (a : A) → i < length xs → map f (take (suc i) xs) ≡ map f (take i xs) ++ f (slice_index_or xs i a) ∷ []
mapped-more f [] i a h = absurd (omega (arith, h))
mapped-more f (x ∷ xs) zero a h = refl
mapped-more f (x ∷ xs) (suc i) a h = ap (λ ys. f x ∷ ys) (mapped-more f xs i a (omega (arith, h)))

-- one more is put down
pub mapped-next : {A B : Type 0} (f : A → B) (xs : List A) (i : ℕ) (a : A) (b : B) (found found' : List B) → i < length xs → a ≡ slice_index_or xs i a → b ≡ f a → found ≡ map f (take i xs) →
    found' ≡ found ++ b ∷ [] → found' ≡ map f (take (i + 1) xs)
mapped-next f xs i a b found found' h e k r s =
    s
    ∙ ap (λ z. found ++ z ∷ []) (k ∙ ap f e)
    ∙ ap (λ zs. zs ++ f (slice_index_or xs i a) ∷ []) r
    ∙ sym (mapped-more f xs i a h)
    ∙ ap (λ n. map f (take n xs)) (next i)
  where
    next : (i : ℕ) → suc i ≡ i + 1
    next i = omega arith

-- what holds of all of a list holds of each of its first elements
pub holds-first : {A : Type 0} (P : A → Type 0) (all xs : List A) (last : A) (i : ℕ) (a : A) → All P all → all ≡ xs ++ last ∷ [] → i < length xs → a ≡ slice_index_or xs i a → P a
holds-first P all xs last i a h e l r =
    subst P (get_or_append_left xs (last ∷ []) a i l ∙ sym r)
    (subst (λ ys. P (slice_index_or ys i a)) e (h i a (omega (arith, l, ap length e, length-append xs (last ∷ [])))))
