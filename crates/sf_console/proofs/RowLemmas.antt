-- Rows put one behind another.
use Rattle.std.proofs.Common.{◌≡◌, ℕ, zero, suc, ◌+◌, ◌<◌, List, [], ◌∷◌, ◌++◌, Some, codes, drop, flat_map, get_or, length, map, slice_get, take, refl, sym, ap, ◌∙◌, arith, append_assoc}
use Rattle.std.proofs.lemmas.List.{drop_more}
use Rattle.sf_features.specs.declared.attr_value.AttrValue.{AttrValue}
use Rattle.sf_values.specs.Values.{value_text}
use Rattle.sf_console.specs.Answers.{line}
use Rattle.sf_console.specs.RuleRows.{list_words}

-- one more element
pub take-at : {X : Type 0} (xs : List X) (i : ℕ) (x : X) → slice_get xs i ≡ Some x → take (i + 1) xs ≡ take i xs ++ x ∷ []
take-at [] i x at = cc
take-at (y ∷ ys) zero x at = let is : y ≡ x = cc in ap (λ z. z ∷ []) is
take-at (y ∷ ys) (suc i) x at = let next : suc i + 1 ≡ suc (i + 1) = omega arith in ap (λ n. take n (y ∷ ys)) next ∙ ap (λ rest. y ∷ rest) (take-at ys i x at)

pub flat-push : {X : Type 0} (f : X → List ℕ) (xs : List X) (x : X) → flat_map f (xs ++ x ∷ []) ≡ flat_map f xs ++ f x
flat-push f [] x = by (f x)
  where
    by : (ys : List ℕ) → ys ++ [] ≡ ys
    by [] = refl
    by (y ∷ ys) = ap (λ rest. y ∷ rest) (by ys)
flat-push f (y ∷ ys) x = ap (λ rest. f y ++ rest) (flat-push f ys x) ∙ sym (append_assoc (f y) (flat_map f ys) (f x))

map-push : {X Y : Type 0} (f : X → Y) (xs : List X) (x : X) → map f (xs ++ x ∷ []) ≡ map f xs ++ f x ∷ []
map-push f [] x = refl
map-push f (y ∷ ys) x = ap (λ rest. f y ∷ rest) (map-push f ys x)

-- one more piece behind those so far
pub pieces-more : {X : Type 0} (f : X → List ℕ) (head before after : List ℕ) (xs : List X) (i : ℕ) (x : X) → slice_get xs i ≡ Some x → before ≡ head ++ flat_map f (take i xs) → after ≡ before ++ f x
    → after ≡ head ++ flat_map f (take (i + 1) xs)
pieces-more f head before after xs i x at was is =
    is ∙ ap (λ b. b ++ f x) was ∙ append_assoc head (flat_map f (take i xs)) (f x)
    ∙ ap (λ rest. head ++ rest) (sym (flat-push f (take i xs) x) ∙ ap (flat_map f) (sym (take-at xs i x at)))

-- one more row behind those so far
pub rows-more : {X : Type 0} (row : X → List ℕ) (head before after : List ℕ) (xs : List X) (i : ℕ) (x : X) → slice_get xs i ≡ Some x → before ≡ head ++ flat_map line (map row (take i xs)) → after ≡ before ++ line (row x)
    → after ≡ head ++ flat_map line (map row (take (i + 1) xs))
rows-more row head before after xs i x at was is =
    is ∙ ap (λ b. b ++ line (row x)) was ∙ append_assoc head (flat_map line (map row (take i xs))) (line (row x))
    ∙ ap (λ rest. head ++ rest) (sym (flat-push line (map row (take i xs)) (row x)) ∙ ap (flat_map line) (sym (map-push row (take i xs) x) ∙ ap (map row) (sym (take-at xs i x at))))

-- four pieces pushed one after another
pub four : (t a b c d : List ℕ) → (((t ++ a) ++ b) ++ c) ++ d ≡ t ++ (((a ++ b) ++ c) ++ d)
four t a b c d = ap (λ x. (x ++ c) ++ d) (append_assoc t a b) ∙ ap (λ x. x ++ d) (append_assoc t (a ++ b) c) ∙ append_assoc t ((a ++ b) ++ c) d

-- one more value of a list behind those so far, with what stands before it
pub values-more : (values : List AttrValue) (i : ℕ) (value : AttrValue) (before so_far text after whole : List ℕ) → i < length values → value ≡ get_or values i value
    → so_far ++ list_words before (drop i values) ≡ whole → text ≡ so_far ++ before → after ≡ text ++ value_text value → after ++ list_words (codes ", ") (drop (i + 1) values) ≡ whole
values-more values i value before so_far text after whole within at left first second =
    let more = list_words (codes ", ") (drop (i + 1) values) in
    let rest : drop i values ≡ value ∷ drop (i + 1) values = drop_more values i value within ∙ ap (λ v. v ∷ drop (i + 1) values) (sym at) in
    ap (λ t. t ++ more) (second ∙ ap (λ t. t ++ value_text value) first)
    ∙ append_assoc (so_far ++ before) (value_text value) more ∙ append_assoc so_far before (value_text value ++ more)
    ∙ ap (λ vs. so_far ++ list_words before vs) (sym rest) ∙ left
