-- The counts of groups on a cell are numbers of pieces that pass a test, and a sink's content is carried over lists one after another.
use Rattle.std.specs.Prelude.{if◌then◌else◌}
use Rattle.std.proofs.Common.{◌≡◌, refl, ap, ◌∙◌, ℕ, ◌+◌, arith, Bool, true, false, List, [], ◌∷◌, ◌++◌, map, slice_index, ◌==◌, cond}
use Rattle.std.specs.List.{count_by, fold}
use Rattle.std.proofs.lemmas.List.Sums.{sum_by-cons}
use Rattle.sf_cells.specs.Cells.{numbers_from}
use Rattle.sf_cells.specs.Groups.{counts, group_count, numbers}

-- ---- how many members of a group pass a test, the members' numbers beginning with k
abbrev pub tally : {A : Type 0} → ℕ → List ℕ → ℕ → (A → Bool) → List A → ℕ
tally g groups k test [] = 0
tally g groups k test (x ∷ xs) = (if test x then (if slice_index groups k == g then 1 else 0) else 0) + tally g groups (k + 1) test xs

count-chosen : (g k : ℕ) (groups ns : List ℕ) (b : Bool) →
    count_by (λ i. slice_index groups i == g) (if b then k ∷ ns else ns)
    ≡ (if b then (if slice_index groups k == g then 1 else 0) else 0) + count_by (λ i. slice_index groups i == g) ns
count-chosen g k groups ns true = sum_by-cons (λ i. cond (slice_index groups i == g) 1 0) k ns
count-chosen g k groups ns false = omega arith

pub count_by-numbers_from : {A : Type 0} (g k : ℕ) (groups : List ℕ) (test : A → Bool) (xs : List A) →
    count_by (λ i. slice_index groups i == g) (numbers_from k test xs) ≡ tally g groups k test xs
count_by-numbers_from g k groups test [] = refl
count_by-numbers_from g k groups test (x ∷ xs) =
    count-chosen g k groups (numbers_from (k + 1) test xs) (test x)
    ∙ ap (λ n. (if test x then (if slice_index groups k == g then 1 else 0) else 0) + n) (count_by-numbers_from g (k + 1) groups test xs)

map-agree : {A B : Type 0} (f g : A → B) (xs : List A) → ((x : A) → f x ≡ g x) → map f xs ≡ map g xs
map-agree f g [] h = refl
map-agree f g (x ∷ xs) h = ap (λ z. z ∷ map f xs) (h x) ∙ ap (λ zs. g x ∷ zs) (map-agree f g xs h)

-- the counts of a cell's pieces, group by group
pub counts-numbers_from : {A : Type 0} (groups : List ℕ) (test : A → Bool) (xs : List A) →
    counts groups (numbers_from 0 test xs) ≡ map (λ g. tally g groups 0 test xs) (numbers 0 (group_count groups))
counts-numbers_from groups test xs =
    map-agree (λ g. count_by (λ i. slice_index groups i == g) (numbers_from 0 test xs)) (λ g. tally g groups 0 test xs) (numbers 0 (group_count groups))
    (λ g. count_by-numbers_from g 0 groups test xs)

-- ---- a fold over lists one after another
pub fold-append : {A B : Type 0} (f : B → A → B) (b : B) (xs ys : List A) → fold f b (xs ++ ys) ≡ fold f (fold f b xs) ys
fold-append f b [] ys = refl
fold-append f b (x ∷ xs) ys = fold-append f (f b x) xs ys
