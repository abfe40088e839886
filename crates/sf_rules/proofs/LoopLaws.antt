-- What the loops over changes come to.
use Rattle.std.proofs.Common.{◌≡◌, ◌∙◌, ℕ, ◌+◌, ◌<◌, ◌≤◌, Result, Ok, Err, IfOk, Bool, true, false, cond, List, [], ◌∷◌, ◌++◌, append-nil, append_assoc, filter, flat_map, length, map, take, get_or, Option, ap, sym}
use Rattle.std.specs.declared.alloc.AllocError.{AllocError}
use Rattle.std.proofs.lemmas.List.{map-append, take_all, take_more}
use Rattle.std.proofs.lemmas.List.Elements.{filter_more}
use Rattle.sf_rules.specs.declared.breaks.Break.{Break}
use Rattle.sf_rules.specs.Breaks.{least_from, lesser}
use Rattle.sf_rules.proofs.LeastLaws.{least-append}

flat-end : {X : Type 0} (f : X → List Break) (ys : List X) (x : X) → flat_map f (ys ++ x ∷ []) ≡ flat_map f ys ++ f x
flat-end f [] x = append-nil (f x)
flat-end f (y ∷ ys) x = ap (λ r. f y ++ r) (flat-end f ys x) ∙ sym (append_assoc (f y) (flat_map f ys) (f x))

-- the breaks of one more
pub flat-more : {X : Type 0} (f : X → List Break) (xs : List X) (i : ℕ) (d : X) (before least new : Option Break) → i < length xs
    → least ≡ least_from before (flat_map f (take i xs)) → new ≡ least_from least (f (get_or xs i d)) → new ≡ least_from before (flat_map f (take (i + 1) xs))
flat-more f xs i d before least new within invariant gives =
    gives
    ∙ ap (λ l. least_from l (f (get_or xs i d))) invariant
    ∙ sym (least-append before (flat_map f (take i xs)) (f (get_or xs i d)))
    ∙ ap (least_from before) (sym (flat-end f (take i xs) (get_or xs i d)) ∙ ap (flat_map f) (sym (take_more xs i d within)))

-- of an item that is named
pub flat-more-item : {X : Type 0} (f : X → List Break) (xs : List X) (i : ℕ) (item : X) (before least new : Option Break) → i < length xs → item ≡ get_or xs i item
    → least ≡ least_from before (flat_map f (take i xs)) → new ≡ least_from least (f item) → new ≡ least_from before (flat_map f (take (i + 1) xs))
flat-more-item f xs i item before least new within is invariant gives = flat-more f xs i item before least new within invariant (gives ∙ ap (λ x. least_from least (f x)) is)

-- one more that passes, and one that does not
pub kept-more : (g : ℕ → Break) (p : ℕ → Bool) (xs : List ℕ) (i d : ℕ) (before least new : Option Break) → i < length xs
    → least ≡ least_from before (map g (filter p (take i xs))) → p (get_or xs i d) ≡ true → new ≡ lesser (g (get_or xs i d)) least
    → new ≡ least_from before (map g (filter p (take (i + 1) xs)))
kept-more g p xs i d before least new within invariant passes gives =
    gives
    ∙ ap (lesser (g (get_or xs i d))) invariant
    ∙ sym (least-append before (map g (filter p (take i xs))) (g (get_or xs i d) ∷ []))
    ∙ ap (least_from before)
    (sym (map-append g (filter p (take i xs)) (get_or xs i d ∷ []))
    ∙ ap (λ b. map g (filter p (take i xs) ++ cond b (get_or xs i d ∷ []) [])) (sym passes)
    ∙ ap (map g) (sym (filter_more p xs i d within)))

pub passed-more : (g : ℕ → Break) (p : ℕ → Bool) (xs : List ℕ) (i d : ℕ) (before least new : Option Break) → i < length xs
    → least ≡ least_from before (map g (filter p (take i xs))) → p (get_or xs i d) ≡ false → new ≡ least
    → new ≡ least_from before (map g (filter p (take (i + 1) xs)))
passed-more g p xs i d before least new within invariant fails gives =
    gives
    ∙ invariant
    ∙ ap (λ ys. least_from before (map g ys))
    (sym (append-nil (filter p (take i xs)))
    ∙ ap (λ b. filter p (take i xs) ++ cond b (get_or xs i d ∷ []) []) (sym fails)
    ∙ sym (filter_more p xs i d within))

-- two kinds one after another
pub both : (before middle new : Option Break) (xs ys : List Break) → middle ≡ least_from before xs → new ≡ least_from middle ys → new ≡ least_from before (xs ++ ys)
both before middle new xs ys first second = second ∙ ap (λ l. least_from l ys) first ∙ sym (least-append before xs ys)

-- one kind after another, as a call answers it
pub then-both : (r : Result (Option Break) AllocError) (before middle : Option Break) (xs ys : List Break) → middle ≡ least_from before xs
    → IfOk r (λ found. found ≡ least_from middle ys) → IfOk r (λ found. found ≡ least_from before (xs ++ ys))
then-both (Ok found) before middle xs ys first h = both before middle found xs ys first h
then-both (Err e) before middle xs ys first h = h

-- a loop that has gone through all
pub all-gone : {X : Type 0} (f : X → List Break) (xs : List X) (i : ℕ) (before least : Option Break) → length xs ≤ i → least ≡ least_from before (flat_map f (take i xs)) → least ≡ least_from before (flat_map f xs)
all-gone f xs i before least past invariant = invariant ∙ ap (λ ys. least_from before (flat_map f ys)) (take_all i xs past)
