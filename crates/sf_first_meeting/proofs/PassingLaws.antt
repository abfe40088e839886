-- The order of the edges at a vertex.
use Rattle.std.proofs.Common.{◌≡◌, ℕ, zero, suc, ◌+◌, ◌-◌, ◌<◌, ◌≤◌, refl, ap, sym, ◌∙◌, arith, subst, List, [], ◌∷◌, ◌++◌, length, get_or, set, take, drop, inl, inr, ◌⊎◌, Option, Some, None}
use Rattle.sf_grid.specs.Plane.{Coordinates}
use Rattle.sf_first_meeting.specs.declared.spot.Spot.{Spot}
use Rattle.sf_first_meeting.specs.Orders.{AtFirst, AtLast, Linked, Seam}
use Rattle.sf_first_meeting.specs.Spots.{Along, Between, IsTested, beginning_of, ending_of}

less_one : (n : ℕ) → suc (suc n) - 1 ≡ suc n
less_one n = omega arith

one_less : (n : ℕ) → suc n - 1 ≡ n
one_less n = omega arith

-- ---- the last and the first one, as they are read
pub at-last : (P : ℕ → Type 0) (xs : List ℕ) → P (get_or xs (length xs - 1) 0) → AtLast P xs
at-last P [] h = tt
at-last P (x ∷ []) h = h
at-last P (x ∷ y ∷ ys) h =
    at-last P (y ∷ ys)
    (let Q : ℕ → Type 0 = λ k. P (get_or (x ∷ y ∷ ys) k 0) in
    let R : ℕ → Type 0 = λ k. P (get_or (y ∷ ys) k 0) in
    subst R (sym (one_less (length ys))) (subst Q (less_one (length ys)) h))

pub at-first : (P : ℕ → Type 0) (xs : List ℕ) → P (get_or xs 0 0) → AtFirst P xs
at-first P [] h = tt
at-first P (x ∷ xs) h = h

-- ---- a relation between numbers that are there
pub between-some : (R : ℕ → ℕ → Type 0) (low high : Option ℕ) (i j : ℕ) → low ≡ Some i → high ≡ Some j → R i j → Between R low high
between-some R low high i j e f h =
    let P : Option ℕ → Type 0 = λ o. Between R o high in
    let Q : Option ℕ → Type 0 = λ o. Between R (Some i) o in
    subst P (sym e) (subst Q (sym f) h)

pub between-none : (R : ℕ → ℕ → Type 0) (low high : Option ℕ) → high ≡ None → Between R low high
between-none R None high e = tt
between-none R (Some i) high e = let Q : Option ℕ → Type 0 = λ o. Between R (Some i) o in subst Q (sym e) tt

pub along-at : (R : ℕ → ℕ → Type 0) (low high : Option ℕ) (spot other : Spot) → spot ≡ other → Along R low (beginning_of other) high → Along R low (beginning_of spot) high
along-at R low high spot other e h = let P : Spot → Type 0 = λ s. Along R low (beginning_of s) high in subst P (sym e) h

pub along-moved : (R : ℕ → ℕ → Type 0) (low other : Option ℕ) (xs : List ℕ) (high upper : Option ℕ) → low ≡ other → high ≡ upper → Along R low xs high → Along R other xs upper
along-moved R low other xs high upper e f h =
    let P : Option ℕ → Type 0 = λ o. Along R o xs high in
    let Q : Option ℕ → Type 0 = λ o. Along R other xs o in
    subst Q f (subst P e h)

-- ---- a number exchanged, removed, put in
pub set-parts : (xs : List ℕ) (i v : ℕ) → i < length xs → set xs i v ≡ take i xs ++ (v ∷ drop 1 (drop i xs))
set-parts [] i v h = absurd (omega (arith, h))
set-parts (x ∷ xs) zero v h = refl
set-parts (x ∷ xs) (suc i) v h = ap (λ ys. x ∷ ys) (set-parts xs i v (omega (arith, h)))

pub drop-one : (xs : List ℕ) (i : ℕ) → drop (suc i) xs ≡ drop 1 (drop i xs)
drop-one [] zero = refl
drop-one [] (suc i) = refl
drop-one (x ∷ xs) zero = refl
drop-one (x ∷ xs) (suc i) = drop-one xs i

pub remove-parts : (xs : List ℕ) (i : ℕ) → take i xs ++ drop (suc i) xs ≡ take i xs ++ drop 1 (drop i xs)
remove-parts xs i = ap (λ ys. take i xs ++ ys) (drop-one xs i)

pub twice-removed : (xs : List ℕ) (i : ℕ) → i + 1 < length xs →
    take i (take i xs ++ drop (suc i) xs) ++ drop (suc i) (take i xs ++ drop (suc i) xs) ≡ take i xs ++ drop 2 (drop i xs)
twice-removed [] i h = absurd (omega (arith, h))
twice-removed (x ∷ []) i h = absurd (omega (arith, h))
twice-removed (x ∷ y ∷ ys) zero h = refl
twice-removed (x ∷ y ∷ ys) (suc i) h = ap (λ zs. x ∷ zs) (twice-removed (y ∷ ys) i (omega (arith, h)))

pub twice-put : (xs : List ℕ) (i u v : ℕ) → i ≤ length xs →
    take i (take i xs ++ (v ∷ drop i xs)) ++ (u ∷ drop i (take i xs ++ (v ∷ drop i xs))) ≡ take i xs ++ (u ∷ v ∷ drop i xs)
twice-put [] zero u v h = refl
twice-put [] (suc i) u v h = absurd (omega (arith, h))
twice-put (x ∷ xs) zero u v h = refl
twice-put (x ∷ xs) (suc i) u v h = ap (λ zs. x ∷ zs) (twice-put xs i u v (omega (arith, h)))

pub replaced-at : (xs ys : List ℕ) (from : ℕ) (spot other : Spot) → spot ≡ other →
    ys ≡ take from xs ++ (beginning_of other ++ drop (length (ending_of other)) (drop from xs)) →
    ys ≡ take from xs ++ (beginning_of spot ++ drop (length (ending_of spot)) (drop from xs))
replaced-at xs ys from spot other e h =
    let P : Spot → Type 0 = λ s. ys ≡ take from xs ++ (beginning_of s ++ drop (length (ending_of s)) (drop from xs)) in subst P (sym e) h

-- ---- what was tested, of the parts as they were cut
pub tested-moved : (ps : List Coordinates) (at other : Coordinates) (b c e f a d : List ℕ) (spot : Spot) → at ≡ other → b ≡ c → e ≡ f → a ≡ d → IsTested ps at b e a spot → IsTested ps other c f d spot
tested-moved ps at other b c e f a d spot g h k l t =
    let P : Coordinates → Type 0 = λ p. IsTested ps p b e a spot in
    let Q : List ℕ → Type 0 = λ xs. IsTested ps other xs e a spot in
    let R : List ℕ → Type 0 = λ xs. IsTested ps other c xs a spot in
    let S : List ℕ → Type 0 = λ xs. IsTested ps other c f xs spot in
    subst S l (subst R k (subst Q h (subst P g t)))
