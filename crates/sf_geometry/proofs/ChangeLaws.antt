-- What a change makes of a list, a ring, and of a list of them.
use Rattle.std.proofs.Common.{◌≡◌, ℕ, zero, suc, ◌+◌, ◌-◌, ◌<◌, ◌≤◌, Bool, true, false, ◌||◌, List, [], ◌∷◌, ◌++◌, length, take, slice_set, slice_index_or, refl, sym, ap, ◌∙◌, subst, arith, inl, inr}
use Rattle.std.specs.Prelude.{◌==◌, nat_le, nat_lt, Option, None, Some, Result, Ok, Err, IfErr, IsFalse, IsOk, OnOk, option_and_then, option_map, slice_get, insert, remove, if◌then◌else◌}
use Rattle.std.specs.List.{list_any}
use borrow.Author.Tests.{leb-true, ltb-true}
use Rattle.std.proofs.lemmas.Bool.{ne_eqb}
use Rattle.std.proofs.lemmas.Grind.{common_steps}
use Rattle.std.proofs.lemmas.List.{length-set, length-take-le}
use Rattle.std.proofs.lemmas.List.Edits.{length-insert}
use Rattle.std.proofs.Math.Seq.{take-set-lt}
use Rattle.sf_grid.specs.Plane.{Coordinates}
use Rattle.sf_geometry.specs.declared.change.Change.{Change as Made}
use Rattle.sf_geometry.specs.declared.change.Change.TheVariants.{Insert, Move, Remove}
use Rattle.sf_geometry.specs.declared.refusal.Refusal.{Refusal}
use Rattle.sf_geometry.specs.declared.refusal.Refusal.TheVariants.{Empty, NoVertex}
use Rattle.sf_geometry.specs.Changes.{Refuses, change_of, filled_or_refused, lacks, made, place_fault}
use Rattle.sf_geometry.specs.Size.{is_empty}
use Rattle.sf_geometry.specs.Vertices.{change_at, change_ring, ring_of, ring_vertices}

-- ---- the closing point
set-last : (q : Coordinates) (qs : List Coordinates) (p : Coordinates) → slice_set (q ∷ qs) (length qs) p ≡ take (length qs) (q ∷ qs) ++ p ∷ []
set-last q [] p = refl
set-last q (r ∷ qs) p = ap (λ ps. q ∷ ps) (set-last r qs p)

pub closed-again : (ps : List Coordinates) (p : Coordinates) → 1 < length ps → p ≡ slice_index_or ps 0 p → slice_set ps (length ps - 1) p ≡ ring_of (ring_vertices ps)
closed-again [] p h e = absurd (omega arith)
closed-again (q ∷ []) p h e = absurd (omega arith)
closed-again (q ∷ r ∷ qs) p h e =
    let last : length (q ∷ r ∷ qs) - 1 ≡ suc (length qs) = omega arith in
    let P : ℕ → Type 0 = λ n. slice_set (q ∷ r ∷ qs) n p ≡ ring_of (take n (q ∷ r ∷ qs)) in
    subst P (sym last) (ap (λ ps. q ∷ ps) (set-last r qs p) ∙ ap (λ s. q ∷ take (length qs) (r ∷ qs) ++ s ∷ []) e)

-- ---- a change before the last of a list
take-insert : (i n : ℕ) (ps : List Coordinates) (p : Coordinates) → i ≤ n → take (suc n) (insert ps i p) ≡ insert (take n ps) i p
take-insert zero n ps p h = refl
take-insert (suc i) zero ps p h = absurd (omega arith)
take-insert (suc i) (suc n) [] p h = refl
take-insert (suc i) (suc n) (q ∷ ps) p h = ap (λ qs. q ∷ qs) (take-insert i n ps p (omega arith))

take-remove : (i n : ℕ) (ps : List Coordinates) → i ≤ n → take n (remove ps i) ≡ remove (take (suc n) ps) i
take-remove zero zero [] h = refl
take-remove zero (suc n) [] h = refl
take-remove zero n (q ∷ ps) h = refl
take-remove (suc i) zero ps h = absurd (omega arith)
take-remove (suc i) (suc n) [] h = refl
take-remove (suc i) (suc n) (q ∷ ps) h = ap (λ qs. q ∷ qs) (take-remove i n ps (omega arith))

length-removed : (i : ℕ) (ps : List Coordinates) → i < length ps → length (remove ps i) + 1 ≡ length ps
length-removed i [] h = absurd (omega arith)
length-removed zero (q ∷ ps) h = omega arith
length-removed (suc i) (q ∷ ps) h = let later = length-removed i ps (omega arith) in omega (arith, later)

-- ---- the member at a place
pub any-set : {X : Type 0} (empty : X → Bool) (xs : List X) (n : ℕ) (x y : X) → IsFalse (list_any empty xs) → slice_get xs n ≡ Some x → list_any empty (slice_set xs n y) ≡ empty y
any-set empty [] n x y h e = absurd cc
any-set empty (w ∷ xs) zero x y h e = with_none (empty y) (list_any empty xs) (or_right (empty w) (list_any empty xs) h)
  where
    or_right : (a b : Bool) → (a || b) ≡ false → b ≡ false
    or_right true b h = absurd cc
    or_right false b h = h

    with_none : (a b : Bool) → b ≡ false → (a || b) ≡ a
    with_none true b h = refl
    with_none false b h = h
any-set empty (w ∷ xs) (suc n) x y h e = after (empty w) h (any-set empty xs n x y)
  where
    after : (a : Bool) → (a || list_any empty xs) ≡ false → (list_any empty xs ≡ false → slice_get xs n ≡ Some x → list_any empty (slice_set xs n y) ≡ empty y) → (a || list_any empty (slice_set xs n y)) ≡ empty y
    after true h there = absurd cc
    after false h there = there h e

pub member-filled : {X : Type 0} (empty : X → Bool) (xs : List X) (n : ℕ) (x : X) → IsFalse (list_any empty xs) → slice_get xs n ≡ Some x → IsFalse (empty x)
member-filled empty [] n x h e = absurd cc
member-filled empty (w ∷ xs) zero x h e = left (empty w) h (ap empty (some_same e))
  where
    some_same : Some w ≡ Some x → w ≡ x
    some_same e = cc

    left : (a : Bool) → (a || list_any empty xs) ≡ false → a ≡ empty x → empty x ≡ false
    left true h e = absurd cc
    left false h e = sym e
member-filled empty (w ∷ xs) (suc n) x h e = after (empty w) h (member-filled empty xs n x)
  where
    after : (a : Bool) → (a || list_any empty xs) ≡ false → (list_any empty xs ≡ false → slice_get xs n ≡ Some x → IsFalse (empty x)) → IsFalse (empty x)
    after true h there = absurd cc
    after false h there = there h e

set-filled : {X : Type 0} (xs : List X) (n : ℕ) (x y : X) → slice_get xs n ≡ Some x → is_empty (slice_set xs n y) ≡ false
set-filled [] n x y e = absurd cc
set-filled (w ∷ xs) zero x y e = ne_eqb (length (y ∷ xs)) 0 (λ e. omega (arith, e))
set-filled (w ∷ xs) (suc n) x y e = ne_eqb (length (w ∷ slice_set xs n y)) 0 (λ e. omega (arith, e))

lacks-set : {X : Type 0} (empty : X → Bool) (xs : List X) (n : ℕ) (x y : X) → IsFalse (list_any empty xs) → slice_get xs n ≡ Some x → lacks empty (slice_set xs n y) ≡ empty y
lacks-set empty xs n x y h e =
    ap (λ t. t || list_any empty (slice_set xs n y)) (set-filled xs n x y e) ∙ any-set empty xs n x y h e

-- what came of the member, put in its place
abbrev pub put : {X Y : Type 0} → (X → Y) → Result X Refusal → Result Y Refusal
put f (Ok x) = Ok (f x)
put f (Err refusal) = Err refusal

pub changed-at : {X : Type 0} (empty : X → Bool) (change : X → Option X) (xs : List X) (n : ℕ) (x : X) → IsFalse (list_any empty xs) → slice_get xs n ≡ Some x →
    filled_or_refused (lacks empty) (change_at n change xs) ≡ put (slice_set xs n) (filled_or_refused empty (change x))
changed-at {X} empty change xs n x h e =
    ap (λ found. filled_or_refused (lacks empty) (option_map (slice_set xs n) (option_and_then change found))) e ∙ by (change x)
  where
    by_test : (y : X) (t : Bool) → (if t then Err Empty else Ok (slice_set xs n y)) ≡ put (slice_set xs n) (if t then Err Empty else Ok y)
    by_test y true = refl
    by_test y false = refl

    by : (found : Option X) → filled_or_refused (lacks empty) (option_map (slice_set xs n) found) ≡ put (slice_set xs n) (filled_or_refused empty found)
    by None = refl
    by (Some y) = ap (λ t. if t then Err Empty else Ok (slice_set xs n y)) (lacks-set empty xs n x y h e) ∙ by_test y (empty y)

pub put-ok : {X Y : Type 0} (f : X → Y) (outcome : Result X Refusal) → IsOk outcome → IsOk (put f outcome)
put-ok f (Ok x) h = h
put-ok f (Err refusal) h = h

refuses-put : {X Y : Type 0} (f : X → Y) (made : Made) (outcome : Result X Refusal) (refusal : Refusal) → Refuses made outcome refusal → Refuses made (put f outcome) refusal
refuses-put f made outcome refusal (inl e) = inl (ap (put f) e)
refuses-put f made outcome refusal (inr want) = inr (want.0, want.1, put-ok f outcome want.2)

pub member-changed : {X : Type 0} (empty : X → Bool) (change : X → Option X) (xs old : List X) (n : ℕ) (x y : X) (result : Result (Unit {0}) Refusal) →
    IsFalse (list_any empty old) → old ≡ xs → slice_get xs n ≡ Some x →
    OnOk result (filled_or_refused empty (change x) ≡ Ok y) → OnOk result (filled_or_refused (lacks empty) (change_at n change old) ≡ Ok (slice_set xs n y))
member-changed empty change xs old n x y (Err refusal) h e at done = done
member-changed {X} empty change xs old n x y (Ok u) h e at done =
    ap (λ ys. filled_or_refused (lacks empty) (change_at n change ys)) e
    ∙ changed-at empty change xs n x (subst (λ (ys : List X). IsFalse (list_any empty ys)) e h) at
    ∙ ap (put (slice_set xs n)) done

pub member-refused : {X : Type 0} (empty : X → Bool) (change : X → Option X) (xs old : List X) (n : ℕ) (x : X) (made : Made) (result : Result (Unit {0}) Refusal) →
    IsFalse (list_any empty old) → old ≡ xs → slice_get xs n ≡ Some x →
    IfErr result (Refuses made (filled_or_refused empty (change x))) → IfErr result (Refuses made (filled_or_refused (lacks empty) (change_at n change old)))
member-refused empty change xs old n x made (Ok u) h e at why = why
member-refused {X} empty change xs old n x made (Err refusal) h e at why =
    subst (λ (outcome : Result (List X) Refusal). Refuses made outcome refusal)
    (sym (ap (λ ys. filled_or_refused (lacks empty) (change_at n change ys)) e ∙ changed-at empty change xs n x (subst (λ (ys : List X). IsFalse (list_any empty ys)) e h) at))
    (refuses-put (slice_set xs n) made (filled_or_refused empty (change x)) refusal why)

-- ---- a ring
made-vertices : (change : Made) (i : ℕ) (ps : List Coordinates) → place_fault change i (length ps - 1) ≡ None → 0 < length ps → made change i (ring_vertices ps) ≡ ring_vertices (made change i ps)
made-vertices (Insert p) i ps h some = by_test (nat_le i (length ps - 1)) refl h
  where
    by_test : (t : Bool) → nat_le i (length ps - 1) ≡ t → (if t then None else Some NoVertex) ≡ None → insert (take (length ps - 1) ps) i p ≡ take (length (insert ps i p) - 1) (insert ps i p)
    by_test false e h = absurd cc
    by_test true e h =
        let within : i ≤ length ps - 1 = leb-true i (length ps - 1) e in
        let count : length (insert ps i p) - 1 ≡ suc (length ps - 1) = omega (arith, length-insert ps i p (omega arith)) in
        sym (take-insert i (length ps - 1) ps p within) ∙ ap (λ n. take n (insert ps i p)) (sym count)
made-vertices (Move p) i ps h some = by_test (nat_lt i (length ps - 1)) refl h
  where
    by_test : (t : Bool) → nat_lt i (length ps - 1) ≡ t → (if t then None else Some NoVertex) ≡ None → slice_set (take (length ps - 1) ps) i p ≡ take (length (slice_set ps i p) - 1) (slice_set ps i p)
    by_test false e h = absurd cc
    by_test true e h =
        sym (take-set-lt (length ps - 1) ps i p (ltb-true i (length ps - 1) e)) ∙ ap (λ n. take (n - 1) (slice_set ps i p)) (sym (length-set ps i p))
made-vertices Remove i ps h some = by_test (nat_lt i (length ps - 1)) refl h
  where
    by_test : (t : Bool) → nat_lt i (length ps - 1) ≡ t → (if t then (if length ps - 1 == 1 then Some Empty else None) else Some NoVertex) ≡ None → remove (take (length ps - 1) ps) i ≡ take (length (remove ps i) - 1) (remove ps i)
    by_test false e h = absurd cc
    by_test true e h =
        let within : i < length ps - 1 = ltb-true i (length ps - 1) e in
        let gone : length (remove ps i) + 1 ≡ length ps = length-removed i ps (omega arith) in
        let count : suc (length (remove ps i) - 1) ≡ length ps - 1 = omega arith in
        ap (λ n. remove (take n ps) i) (sym count) ∙ sym (take-remove i (length (remove ps i) - 1) ps (omega arith))

pub placed : (change : Made) (i : ℕ) (ps : List Coordinates) → place_fault change i (length ps) ≡ None → filled_or_refused is_empty (change_of change i ps) ≡ Ok (made change i ps)
placed (Insert p) i ps h = grind (arith, common_steps, length-insert ps i p)
placed (Move p) i ps h = grind (arith, common_steps, length-set ps i p)
placed Remove i ps h = grind (arith, common_steps, length-removed i ps)

pub ring-filled : (found : Option (List Coordinates)) → filled_or_refused is_empty (option_map ring_of found) ≡ put ring_of (filled_or_refused is_empty found)
ring-filled None = refl
ring-filled (Some []) = refl
ring-filled (Some (p ∷ ps)) =
    let filled : is_empty (p ∷ ps ++ p ∷ []) ≡ false = ne_eqb (length (p ∷ ps ++ p ∷ [])) 0 (λ e. omega (arith, e)) in
    let filled_before : is_empty (p ∷ ps) ≡ false = ne_eqb (length (p ∷ ps)) 0 (λ e. omega (arith, e)) in
    ap (λ t. if t then Err Empty else Ok (p ∷ ps ++ p ∷ [])) filled ∙ sym (ap (λ t. put ring_of (if t then Err Empty else Ok (p ∷ ps))) filled_before)

pub ring-changed : (change : Made) (i : ℕ) (ps : List Coordinates) → place_fault change i (length ps - 1) ≡ None → IsFalse (is_empty ps) →
    filled_or_refused is_empty (change_ring (change_of change i) ps) ≡ Ok (ring_of (ring_vertices (made change i ps)))
ring-changed change i ps h filled =
    let some : 0 < length ps = filled_length ps filled in
    let count : length (ring_vertices ps) ≡ length ps - 1 = length-take-le (length ps - 1) ps (omega arith) in
    ring-filled (change_of change i (ring_vertices ps))
    ∙ ap (put ring_of) (placed change i (ring_vertices ps) (ap (place_fault change i) count ∙ h))
    ∙ ap (λ vs. Ok (ring_of vs)) (made-vertices change i ps h some)
  where
    filled_length : (ps : List Coordinates) → is_empty ps ≡ false → 0 < length ps
    filled_length [] h = absurd cc
    filled_length (p ∷ ps) h = omega arith
