-- Columns that are copied one behind the other: none of those before shares the name or the number of the next one.
use Rattle.std.proofs.Common.{◌≡◌, ℕ, zero, suc, ◌<◌, Bool, false, cond, List, [], ◌∷◌, map, length, insert, take, slice_get, option_map, None, Some, bytes_eq, nat_eq, refl, ap, sym, subst, ◌∙◌, arith}
use Rattle.std.specs.Cmp.Lexicographic.{nat_list_eq_equiv}
use Rattle.std.specs.List.{AllByRecursion, list_any, IsDistinct as IsUnique}
use Rattle.sf_features.specs.declared.column.Column.{Column}
use Rattle.sf_features.specs.Columns.{IsDistinct, named, numbered}
use Rattle.sf_features.proofs.Orders.{none_or, slice_get-map}

-- with the next one behind those that were taken there is one more
pub insert-take : {X : Type 0} (xs : List X) (n : ℕ) (x : X) → slice_get xs n ≡ Some x → insert (take n xs) n x ≡ take (suc n) xs
insert-take [] n x at = cc
insert-take (y ∷ ys) zero x at = let same : y ≡ x = cc in ap (λ z. z ∷ []) (sym same)
insert-take (y ∷ ys) (suc n) x at = ap (λ rest. y ∷ rest) (insert-take ys n x at)

-- what stands at a place is among the elements
pub within-there : {X : Type 0} (xs : List X) (n : ℕ) (x : X) → slice_get xs n ≡ Some x → n < length xs
within-there [] n x at = cc
within-there (y ∷ ys) zero x at = omega arith
within-there (y ∷ ys) (suc n) x at = omega (arith, within-there ys n x at)

-- what no element passes, the one at a place does not
none-there : {X : Type 0} (test : X → Bool) (xs : List X) (n : ℕ) (x : X) → list_any test xs ≡ false → slice_get xs n ≡ Some x → test x ≡ false
none-there test [] n x none at = cc
none-there test (y ∷ ys) zero x none at = let same : y ≡ x = cc in subst (λ z. test z ≡ false) same (none_or (test y) (list_any test ys) none).0
none-there test (y ∷ ys) (suc n) x none at = none-there test ys n x (none_or (test y) (list_any test ys) none).1 at

-- none of the columns before has the name of the one at a place
pub named-before : (columns : List Column) (n : ℕ) (column : Column) → IsDistinct bytes_eq (map (λ c. c.name) columns) → slice_get columns n ≡ Some column → named (take n columns) column.name ≡ None
named-before [] n column distinct at = cc
named-before (c ∷ cs) zero column distinct at = refl
named-before (c ∷ cs) (suc n) column distinct at =
    ap (λ b. cond b (Some c) (named (take n cs) column.name))
    (nat_list_eq_equiv.symm column.name c.name ∙ none-there (bytes_eq c.name) (map (λ d. d.name) cs) n column.name distinct.0 (slice_get-map (λ d. d.name) cs n ∙ ap (option_map (λ d. d.name)) at))
    ∙ named-before cs n column distinct.1 at

all-there : {X : Type 0} (P : X → Type 0) (xs : List X) (n : ℕ) (x : X) → AllByRecursion P xs → slice_get xs n ≡ Some x → P x
all-there P [] n x all at = cc
all-there P (y ∷ ys) zero x all at = let same : y ≡ x = cc in subst P same all.0
all-there P (y ∷ ys) (suc n) x all at = all-there P ys n x all.1 at

-- nor its number
pub numbered-before : (columns : List Column) (n : ℕ) (column : Column) → IsUnique nat_eq (map (λ c. c.number) columns) → slice_get columns n ≡ Some column → numbered (take n columns) column.number ≡ None
unfolding IsUnique
numbered-before [] n column unique at = cc
numbered-before (c ∷ cs) zero column unique at = refl
numbered-before (c ∷ cs) (suc n) column unique at =
    ap (λ b. cond b (Some c) (numbered (take n cs) column.number))
    (all-there (λ k. nat_eq c.number k ≡ false) (map (λ d. d.number) cs) n column.number unique.0 (slice_get-map (λ d. d.number) cs n ∙ ap (option_map (λ d. d.number)) at))
    ∙ numbered-before cs n column unique.1 at
