-- What goes on from a window: edges that came to it, and those that begin at its vertices.
use Rattle.std.proofs.Common.{◌≡◌, refl, ap, sym, ◌∙◌, subst, ℕ, ◌+◌, ◌≤◌, ◌<◌, arith, Bool, true, false, cond, List, [], ◌∷◌, ◌++◌, length, take, drop}
use Rattle.std.specs.List.{All, AllByRecursion}
use Rattle.std.proofs.lemmas.List.{length-append, take-append-drop}
use Rattle.std.proofs.lemmas.List.Elements.{All-from_recursion}
use Rattle.std.proofs.lemmas.List.Sorted.{All-permutation, length_permutation}
use Rattle.sf_strips.specs.declared.active.Active.{Active}
use Rattle.sf_strips.specs.declared.level.Level.{Level}
use Rattle.sf_strips.specs.declared.vertex.Vertex.{Vertex}
use Rattle.sf_strips.specs.Levels.{AreOnward, AreStarts, IsOnward, StartsWith, going_past, goes_past, if_begins, most_onward}
use Rattle.sf_strips.specs.Vertices.{begins, pieces_with}
use Rattle.sf_sweep.proofs.RepairLaws.{each-of}
use Rattle.sf_sweep.proofs.StopLaws.{each-drop, each-take}

pub each-join : {A : Type 0} (P : A → Type 0) (xs ys : List A) → AllByRecursion P xs → AllByRecursion P ys → AllByRecursion P (xs ++ ys)
each-join P [] ys h k = k
each-join P (x ∷ xs) ys h k = (h.0, each-join P xs ys h.1 k)

-- ---- edges that go on past a level
going-each : (n : ℕ) (vs : List Vertex) (es : List Active) → AllByRecursion (λ e. e.piece < n) es → AllByRecursion (λ e. e.piece < n) (going_past vs es)
going-each n vs [] h = tt
going-each n vs (a ∷ es) h = by_test (goes_past vs a) (going-each n vs es h.1)
  where
    by_test : (t : Bool) → AllByRecursion (λ e. e.piece < n) (going_past vs es) → AllByRecursion (λ e. e.piece < n) (cond t (a ∷ going_past vs es) (going_past vs es))
    by_test true k = (h.0, k)
    by_test false k = k

going-few : (vs : List Vertex) (es : List Active) → length (going_past vs es) ≤ length es
going-few vs [] = omega arith
going-few vs (a ∷ es) = by_test (goes_past vs a) (going-few vs es)
  where
    by_test : (t : Bool) → length (going_past vs es) ≤ length es → length (cond t (a ∷ going_past vs es) (going_past vs es)) ≤ length (a ∷ es)
    by_test true k = omega arith
    by_test false k = omega arith

-- ---- edges that begin
starts-each : (n : ℕ) (vs : List Vertex) (starts : List Active) → AllByRecursion (λ v. v.piece < n) vs → AreStarts vs starts → AllByRecursion (λ e. e.piece < n) starts
starts-each n [] starts h s = subst (AllByRecursion (λ e. e.piece < n)) (sym s) tt
starts-each n (v ∷ vs) starts h s = by_role (begins v.role) starts s (λ rest k. starts-each n vs rest h.1 k)
  where
    by_role : (t : Bool) (starts : List Active) → if_begins t (StartsWith v (AreStarts vs)) (AreStarts vs) starts →
        ((rest : List Active) → AreStarts vs rest → AllByRecursion (λ e. e.piece < n) rest) → AllByRecursion (λ e. e.piece < n) starts
    by_role true [] k further = absurd k
    by_role true (a ∷ rest) k further = (subst (λ p. p < n) (sym k.0) h.0, further rest k.1.1)
    by_role false starts k further = further starts k

starts-few : (vs : List Vertex) (starts : List Active) → AreStarts vs starts → length starts ≤ length (pieces_with begins vs)
starts-few [] starts s = omega (arith, ap length s)
starts-few (v ∷ vs) starts s = by_role (begins v.role) starts s (λ rest k. starts-few vs rest k)
  where
    by_role : (t : Bool) (starts : List Active) → if_begins t (StartsWith v (AreStarts vs)) (AreStarts vs) starts →
        ((rest : List Active) → AreStarts vs rest → length rest ≤ length (pieces_with begins vs)) →
        length starts ≤ length (cond t (v.piece ∷ pieces_with begins vs) (pieces_with begins vs))
    by_role true [] k further = absurd k
    by_role true (a ∷ rest) k further = let l = further rest k.1.1 in omega arith
    by_role false starts k further = further starts k

-- ---- a level
level-each : (n : ℕ) (es : List Active) (vs : List Vertex) (os : List Active) → AllByRecursion (λ e. e.piece < n) es → AllByRecursion (λ v. v.piece < n) vs → IsOnward es vs os →
    AllByRecursion (λ e. e.piece < n) os
level-each n es vs os h k o =
    each-of (λ e. e.piece < n) os
    (All-permutation (λ e. e.piece < n) (going_past vs es ++ o.starts) os o.same
    (All-from_recursion (λ e. e.piece < n) (going_past vs es ++ o.starts)
    (each-join (λ e. e.piece < n) (going_past vs es) o.starts (going-each n vs es h) (starts-each n vs o.starts k o.are_starts))))

level-few : (es : List Active) (vs : List Vertex) (os : List Active) → IsOnward es vs os → length os ≤ most_onward es vs
level-few es vs os o =
    let same = length_permutation (going_past vs es ++ o.starts) os o.same in
    let both = length-append (going_past vs es) o.starts in
    let going = going-few vs es in
    let starts = starts-few vs o.starts o.are_starts in
    omega (arith, same, both, going, starts)

-- ---- all levels
-- their pieces are below a number where those of all edges and vertices are
pub onward-each : (n : ℕ) (es : List Active) (vs : List Vertex) (os : List Active) (ls : List Level) → AllByRecursion (λ e. e.piece < n) es → AllByRecursion (λ v. v.piece < n) vs →
    AreOnward es vs os ls → AllByRecursion (λ e. e.piece < n) os
onward-each n es vs os [] h k o = subst (AllByRecursion (λ e. e.piece < n)) (sym o) tt
onward-each n es vs os (l ∷ ls) h k o =
    let here = level-each n (take l.edges es) (take l.vertices vs) (take l.onward os) (each-take (λ e. e.piece < n) l.edges es h) (each-take (λ v. v.piece < n) l.vertices vs k) o.0 in
    let later = onward-each n (drop l.edges es) (drop l.vertices vs) (drop l.onward os) ls (each-drop (λ e. e.piece < n) l.edges es h) (each-drop (λ v. v.piece < n) l.vertices vs k) o.1 in
    subst (AllByRecursion (λ e. e.piece < n)) (take-append-drop l.onward os) (each-join (λ e. e.piece < n) (take l.onward os) (drop l.onward os) here later)

pub onward-below : (n : ℕ) (es : List Active) (vs : List Vertex) (os : List Active) (ls : List Level) → All (λ e. e.piece < n) es → All (λ v. v.piece < n) vs → AreOnward es vs os ls →
    All (λ e. e.piece < n) os
onward-below n es vs os ls h k o =
    All-from_recursion (λ e. e.piece < n) os (onward-each n es vs os ls (each-of (λ e. e.piece < n) es h) (each-of (λ v. v.piece < n) vs k) o)

-- no more go on than came or begin
pub begun-append : (us vs : List Vertex) → pieces_with begins (us ++ vs) ≡ pieces_with begins us ++ pieces_with begins vs
begun-append [] vs = refl
begun-append (u ∷ us) vs = by_role (begins u.role) (begun-append us vs)
  where
    by_role : (t : Bool) → pieces_with begins (us ++ vs) ≡ pieces_with begins us ++ pieces_with begins vs →
        cond t (u.piece ∷ pieces_with begins (us ++ vs)) (pieces_with begins (us ++ vs)) ≡ cond t (u.piece ∷ pieces_with begins us) (pieces_with begins us) ++ pieces_with begins vs
    by_role true e = ap (λ ns. u.piece ∷ ns) e
    by_role false e = e

pub onward-few : (es : List Active) (vs : List Vertex) (os : List Active) (ls : List Level) → AreOnward es vs os ls → length os ≤ most_onward es vs
onward-few es vs os [] o = omega (arith, ap length o)
onward-few es vs os (l ∷ ls) o =
    let here = level-few (take l.edges es) (take l.vertices vs) (take l.onward os) o.0 in
    let later = onward-few (drop l.edges es) (drop l.vertices vs) (drop l.onward os) ls o.1 in
    omega (arith, here, later, halves l.edges es, halves l.onward os, begun l.vertices vs)
  where
    halves : {A : Type 0} (n : ℕ) (xs : List A) → length (take n xs) + length (drop n xs) ≡ length xs
    halves n xs = sym (length-append (take n xs) (drop n xs)) ∙ ap length (take-append-drop n xs)

    begun : (n : ℕ) (vs : List Vertex) → length (pieces_with begins (take n vs)) + length (pieces_with begins (drop n vs)) ≡ length (pieces_with begins vs)
    begun n vs =
        sym (length-append (pieces_with begins (take n vs)) (pieces_with begins (drop n vs)))
        ∙ ap length (sym (begun-append (take n vs) (drop n vs)) ∙ ap (pieces_with begins) (take-append-drop n vs))

-- of vertices at most all begin edges
pub begun-few : (vs : List Vertex) → length (pieces_with begins vs) ≤ length vs
begun-few [] = omega arith
begun-few (v ∷ vs) = by_role (begins v.role) (begun-few vs)
  where
    by_role : (t : Bool) → length (pieces_with begins vs) ≤ length vs → length (cond t (v.piece ∷ pieces_with begins vs) (pieces_with begins vs)) ≤ length (v ∷ vs)
    by_role true h = omega arith
    by_role false h = omega arith
