-- The same numbers in whatever order: for every weight the sums are equal. Sums over the pieces that pass a test, and over their vertices.
use Rattle.std.proofs.Common.{◌≡◌, refl, ap, sym, ◌∙◌, ℕ, zero, suc, ◌+◌, arith, Bool, true, false, not, ◌&&◌, ◌||◌, List, [], ◌∷◌, ◌++◌, take, drop, Option, Some, None}
use Rattle.std.specs.Prelude.{if◌then◌else◌}
use Rattle.std.specs.List.{AllByRecursion, sum_by}
use Rattle.std.proofs.lemmas.List.Sums.{sum_by-append, sum_by-cons}
use Rattle.sf_strips.specs.declared.piece.Piece.{Piece}
use Rattle.sf_strips.specs.declared.active.Active.{Active}
use Rattle.sf_strips.specs.declared.vertex.Role.{Role}
use Rattle.sf_strips.specs.declared.vertex.Vertex.{Vertex}
use Rattle.sf_cells.specs.Cells.{numbers_from}
use Rattle.sf_strips.specs.Fronts.{SameNumbers, pieces_of}
use Rattle.sf_strips.specs.Vertices.{all_vertices, piece_at, pieces_with, vertices_of}
use Rattle.sf_slabs.proofs.Shapes.{AreVertices}

-- ---- the same numbers
pub SameNumbers-refl : (ms : List ℕ) → SameNumbers ms ms
SameNumbers-refl ms = λ w. refl

pub SameNumbers-trans : (ms ns ks : List ℕ) → SameNumbers ms ns → SameNumbers ns ks → SameNumbers ms ks
SameNumbers-trans ms ns ks h k = λ w. h w ∙ k w

-- the numbers of edges one after another
pub pieces_of-append : (es fs : List Active) → pieces_of (es ++ fs) ≡ pieces_of es ++ pieces_of fs
pieces_of-append [] fs = refl
pieces_of-append (a ∷ es) fs = ap (λ ns. a.piece ∷ ns) (pieces_of-append es fs)

-- weights that agree have one sum
pub sum_by-agree : {A : Type 0} (f g : A → ℕ) (xs : List A) → ((x : A) → f x ≡ g x) → sum_by f xs ≡ sum_by g xs
sum_by-agree f g [] h = refl
sum_by-agree f g (x ∷ xs) h =
    sum_by-cons f x xs ∙ ap (λ n. n + sum_by f xs) (h x) ∙ ap (λ n. g x + n) (sum_by-agree f g xs h) ∙ sym (sum_by-cons g x xs)

-- ---- the sum over the pieces that pass a test, whose numbers begin with k
abbrev pub total : (ℕ → ℕ) → ℕ → (Piece → Bool) → List Piece → ℕ
total w k t [] = 0
total w k t (p ∷ ps) = (if t p then w k else 0) + total w (k + 1) t ps

-- a number that a list may begin with
sum-chosen : (w : ℕ → ℕ) (k : ℕ) (ns : List ℕ) (b : Bool) → sum_by w (if b then k ∷ ns else ns) ≡ (if b then w k else 0) + sum_by w ns
sum-chosen w k ns true = sum_by-cons w k ns
sum-chosen w k ns false = omega arith

-- it is the sum over the numbers of these pieces
pub sum-numbers_from : (w : ℕ → ℕ) (k : ℕ) (t : Piece → Bool) (ps : List Piece) → sum_by w (numbers_from k t ps) ≡ total w k t ps
sum-numbers_from w k t [] = refl
sum-numbers_from w k t (p ∷ ps) =
    sum-chosen w k (numbers_from (k + 1) t ps) (t p) ∙ ap (λ n. (if t p then w k else 0) + n) (sum-numbers_from w (k + 1) t ps)

-- ---- tests of which at most one passes
-- d passes where a or b does, and not both do
abbrev pub IsEither : Bool → Bool → Bool → Type 0
IsEither d a b = (d ≡ (a || b)) × ((a && b) ≡ false)

-- a weight counts for the one of two tests that passes
either_sum : (d a b : Bool) (n : ℕ) → IsEither d a b → (if d then n else 0) ≡ (if a then n else 0) + (if b then n else 0)
either_sum d a b n h = ap (λ t. if t then n else 0) h.0 ∙ apart a b h.1
  where
    apart : (a b : Bool) → (a && b) ≡ false → (if a || b then n else 0) ≡ (if a then n else 0) + (if b then n else 0)
    apart true true e = cc
    apart true false e = omega arith
    apart false true e = omega arith
    apart false false e = refl

-- sums of two sums
regrouped : (a b c d e f : ℕ) → a ≡ b + c → d ≡ e + f → a + d ≡ (b + e) + (c + f)
regrouped a b c d e f h k = omega arith

-- the sum over the pieces that pass one test or the other
total-either : (w : ℕ → ℕ) (k : ℕ) (d a b : Piece → Bool) (ps : List Piece) → AllByRecursion (λ p. IsEither (d p) (a p) (b p)) ps →
    total w k d ps ≡ total w k a ps + total w k b ps
total-either w k d a b [] h = refl
total-either w k d a b (p ∷ ps) h =
    regrouped _ _ _ _ _ _ (either_sum (d p) (a p) (b p) (w k) h.0) (total-either w (k + 1) d a b ps h.1)

-- the numbers of two lists, those of the pieces that pass one test or the other
pub SameNumbers-either : (ms ns : List ℕ) (d a b : Piece → Bool) (ps : List Piece) → SameNumbers ms (numbers_from 0 a ps) →
    SameNumbers ns (numbers_from 0 b ps) → AllByRecursion (λ p. IsEither (d p) (a p) (b p)) ps → SameNumbers (ms ++ ns) (numbers_from 0 d ps)
SameNumbers-either ms ns d a b ps h k e =
    λ w.
    sum_by-append w ms ns
    ∙ ap (λ n. n + sum_by w ns) (h w ∙ sum-numbers_from w 0 a ps)
    ∙ ap (λ n. total w 0 a ps + n) (k w ∙ sum-numbers_from w 0 b ps)
    ∙ sym (total-either w 0 d a b ps e)
    ∙ sym (sum-numbers_from w 0 d ps)

-- tests that agree have one sum
total-agree : (w : ℕ → ℕ) (k : ℕ) (s t : Piece → Bool) (ps : List Piece) → AllByRecursion (λ p. s p ≡ t p) ps → total w k s ps ≡ total w k t ps
total-agree w k s t [] h = refl
total-agree w k s t (p ∷ ps) h =
    ap (λ b. (if b then w k else 0) + total w (k + 1) s ps) h.0 ∙ ap (λ n. (if t p then w k else 0) + n) (total-agree w (k + 1) s t ps h.1)

-- numbers of pieces that pass a test are those of the pieces that pass one that agrees
pub SameNumbers-agree : (ms : List ℕ) (s t : Piece → Bool) (ps : List Piece) → SameNumbers ms (numbers_from 0 s ps) →
    AllByRecursion (λ p. s p ≡ t p) ps → SameNumbers ms (numbers_from 0 t ps)
SameNumbers-agree ms s t ps h e = λ w. h w ∙ sum-numbers_from w 0 s ps ∙ total-agree w 0 s t ps e ∙ sym (sum-numbers_from w 0 t ps)

-- ---- no piece passes
no_part : (a b : ℕ) → a + b ≡ 0 → (a ≡ 0) × (b ≡ 0)
no_part a b h = (omega arith, omega arith)

fails : (b : Bool) → ◌≡◌ {A = ℕ} (if b then 1 else 0) 0 → b ≡ false
fails true h = absurd (omega arith)
fails false h = refl

-- where a sum of ones is 0, no piece passes
none_pass : (k : ℕ) (t : Piece → Bool) (ps : List Piece) → total (λ _. 1) k t ps ≡ 0 → AllByRecursion (λ p. t p ≡ false) ps
none_pass k t [] h = tt
none_pass k t (p ∷ ps) h =
    let parts = no_part (if t p then 1 else 0) (total (λ _. 1) (k + 1) t ps) h in
    (fails (t p) parts.0, none_pass (k + 1) t ps parts.1)

-- a test whose pieces have the numbers of no list passes none
pub SameNumbers-none : (t : Piece → Bool) (ps : List Piece) → SameNumbers [] (numbers_from 0 t ps) → AllByRecursion (λ p. t p ≡ false) ps
SameNumbers-none t ps h = none_pass 0 t ps (sym (sum-numbers_from (λ _. 1) 0 t ps) ∙ sym (h (λ _. 1)))

-- and the other way round: the sum is 0, and the list is empty
total-none : (w : ℕ → ℕ) (k : ℕ) (t : Piece → Bool) (ps : List Piece) → AllByRecursion (λ p. t p ≡ false) ps → total w k t ps ≡ 0
total-none w k t [] h = refl
total-none w k t (p ∷ ps) h =
    ap (λ b. (if b then w k else 0) + total w (k + 1) t ps) h.0 ∙ ap (λ n. 0 + n) (total-none w (k + 1) t ps h.1)

pub numbers_from-none : (k : ℕ) (t : Piece → Bool) (ps : List Piece) → AllByRecursion (λ p. t p ≡ false) ps → numbers_from k t ps ≡ []
numbers_from-none k t [] h = refl
numbers_from-none k t (p ∷ ps) h =
    ap (λ b. if b then k ∷ numbers_from (k + 1) t ps else numbers_from (k + 1) t ps) h.0 ∙ numbers_from-none (k + 1) t ps h.1

-- ---- a weight that asks for a test of the piece with the number
abbrev pub passes_at : (Piece → Bool) → Option Piece → Bool
passes_at t None = false
passes_at t (Some p) = t p

-- the weight of a number whose piece passes, and else 0
abbrev pub weight_if : List Piece → (Piece → Bool) → (ℕ → ℕ) → ℕ → ℕ
weight_if pieces t w i = if passes_at t (piece_at pieces i) then w i else 0

-- the pieces with the numbers from k on are these
abbrev StandsFrom : List Piece → ℕ → List Piece → Type 0
StandsFrom pieces k ps = (j : ℕ) → piece_at pieces (k + j) ≡ piece_at ps j

-- so do those after the first one, from the next number on
stands_next : (pieces : List Piece) (k : ℕ) (p : Piece) (ps : List Piece) → StandsFrom pieces k (p ∷ ps) → StandsFrom pieces (k + 1) ps
stands_next pieces k p ps h = λ j. ap (piece_at pieces) (shifted k j) ∙ h (suc j)
  where
    shifted : (k j : ℕ) → k + 1 + j ≡ k + suc j
    shifted k j = omega arith

-- the first of them has the number k
stands_here : (pieces : List Piece) (k : ℕ) (p : Piece) (ps : List Piece) → StandsFrom pieces k (p ∷ ps) → piece_at pieces k ≡ Some p
stands_here pieces k p ps h = ap (piece_at pieces) (no_more k) ∙ h 0
  where
    no_more : (k : ℕ) → k ≡ k + 0
    no_more k = omega arith

-- one test in another is both
both_tests : (s t : Bool) (n : ℕ) → (if s then (if t then n else 0) else 0) ≡ (if s && t then n else 0)
both_tests true t n = refl
both_tests false t n = refl

-- a sum by that weight is the sum over the pieces that pass both tests
total-weight_if : (pieces : List Piece) (w : ℕ → ℕ) (s t : Piece → Bool) (k : ℕ) (ps : List Piece) → StandsFrom pieces k ps →
    total (weight_if pieces t w) k s ps ≡ total w k (λ p. s p && t p) ps
total-weight_if pieces w s t k [] h = refl
total-weight_if pieces w s t k (p ∷ ps) h =
    ap (λ o. (if s p then (if passes_at t o then w k else 0) else 0) + total (weight_if pieces t w) (k + 1) s ps) (stands_here pieces k p ps h)
    ∙ ap (λ n. n + total (weight_if pieces t w) (k + 1) s ps) (both_tests (s p) (t p) (w k))
    ∙ ap (λ n. (if s p && t p then w k else 0) + n) (total-weight_if pieces w s t (k + 1) ps (stands_next pieces k p ps h))

-- ---- members of a list that pass a test
abbrev pub chosen : {A : Type 0} → (A → Bool) → List A → List A
chosen t [] = []
chosen t (x ∷ xs) = if t x then x ∷ chosen t xs else chosen t xs

-- the first ones pass, and no other does
pub chosen-take : (t : Active → Bool) (n : ℕ) (es : List Active) → AllByRecursion (λ a. t a ≡ true) (take n es) → AllByRecursion (λ a. t a ≡ false) (drop n es) →
    chosen t es ≡ take n es
chosen-take t zero [] h k = refl
chosen-take t zero (a ∷ es) h k = ap (λ b. if b then a ∷ chosen t es else chosen t es) k.0 ∙ chosen-take t zero es tt k.1
chosen-take t (suc n) [] h k = refl
chosen-take t (suc n) (a ∷ es) h k = ap (λ b. if b then a ∷ chosen t es else chosen t es) h.0 ∙ ap (λ fs. a ∷ fs) (chosen-take t n es h.1 k)

-- the first ones do not pass, and all others do
pub chosen-drop : (t : Active → Bool) (n : ℕ) (es : List Active) → AllByRecursion (λ a. t a ≡ false) (take n es) → AllByRecursion (λ a. t a ≡ true) (drop n es) →
    chosen t es ≡ drop n es
chosen-drop t zero [] h k = refl
chosen-drop t zero (a ∷ es) h k = ap (λ b. if b then a ∷ chosen t es else chosen t es) k.0 ∙ ap (λ fs. a ∷ fs) (chosen-drop t zero es tt k.1)
chosen-drop t (suc n) [] h k = refl
chosen-drop t (suc n) (a ∷ es) h k = ap (λ b. if b then a ∷ chosen t es else chosen t es) h.0 ∙ chosen-drop t n es h.1 k

-- the same of vertices
pub chosen-take_vertices : (t : Vertex → Bool) (n : ℕ) (vs : List Vertex) → AllByRecursion (λ v. t v ≡ true) (take n vs) → AllByRecursion (λ v. t v ≡ false) (drop n vs) →
    chosen t vs ≡ take n vs
chosen-take_vertices t zero [] h k = refl
chosen-take_vertices t zero (v ∷ vs) h k = ap (λ b. if b then v ∷ chosen t vs else chosen t vs) k.0 ∙ chosen-take_vertices t zero vs tt k.1
chosen-take_vertices t (suc n) [] h k = refl
chosen-take_vertices t (suc n) (v ∷ vs) h k = ap (λ b. if b then v ∷ chosen t vs else chosen t vs) h.0 ∙ ap (λ us. v ∷ us) (chosen-take_vertices t n vs h.1 k)

pub chosen-drop_vertices : (t : Vertex → Bool) (n : ℕ) (vs : List Vertex) → AllByRecursion (λ v. t v ≡ false) (take n vs) → AllByRecursion (λ v. t v ≡ true) (drop n vs) →
    chosen t vs ≡ drop n vs
chosen-drop_vertices t zero [] h k = refl
chosen-drop_vertices t zero (v ∷ vs) h k = ap (λ b. if b then v ∷ chosen t vs else chosen t vs) k.0 ∙ ap (λ us. v ∷ us) (chosen-drop_vertices t zero vs tt k.1)
chosen-drop_vertices t (suc n) [] h k = refl
chosen-drop_vertices t (suc n) (v ∷ vs) h k = ap (λ b. if b then v ∷ chosen t vs else chosen t vs) h.0 ∙ chosen-drop_vertices t n vs h.1 k

-- ---- the edges of a list that pass a test
sum-chosen_active : (pieces : List Piece) (w : ℕ → ℕ) (t : Active → Bool) (u : Piece → Bool) (es : List Active) →
    AllByRecursion (λ a. t a ≡ passes_at u (piece_at pieces a.piece)) es → sum_by w (pieces_of (chosen t es)) ≡ sum_by (weight_if pieces u w) (pieces_of es)
sum-chosen_active pieces w t u [] h = refl
sum-chosen_active pieces w t u (a ∷ es) h =
    by_test (t a)
    ∙ ap (λ b. (if b then w a.piece else 0) + sum_by w (pieces_of (chosen t es))) h.0
    ∙ ap (λ n. weight_if pieces u w a.piece + n) (sum-chosen_active pieces w t u es h.1)
    ∙ sym (sum_by-cons (weight_if pieces u w) a.piece (pieces_of es))
  where
    by_test : (b : Bool) → sum_by w (pieces_of (if b then a ∷ chosen t es else chosen t es)) ≡ (if b then w a.piece else 0) + sum_by w (pieces_of (chosen t es))
    by_test true = sum_by-cons w a.piece (pieces_of (chosen t es))
    by_test false = omega arith

-- where a test of the edges agrees with one of their pieces
pub SameNumbers-chosen : (pieces : List Piece) (s u : Piece → Bool) (t : Active → Bool) (es : List Active) → SameNumbers (pieces_of es) (numbers_from 0 s pieces) →
    AllByRecursion (λ a. t a ≡ passes_at u (piece_at pieces a.piece)) es → SameNumbers (pieces_of (chosen t es)) (numbers_from 0 (λ p. s p && u p) pieces)
SameNumbers-chosen pieces s u t es h e =
    λ w.
    sum-chosen_active pieces w t u es e
    ∙ h (weight_if pieces u w)
    ∙ sum-numbers_from (weight_if pieces u w) 0 s pieces
    ∙ total-weight_if pieces w s u 0 pieces (λ j. ap (piece_at pieces) (none_more j))
    ∙ sym (sum-numbers_from w 0 (λ p. s p && u p) pieces)
  where
    none_more : (j : ℕ) → 0 + j ≡ j
    none_more j = omega arith

-- where nothing is chosen, no edge passes
none_chosen : (t : Active → Bool) (es : List Active) → sum_by (λ _. 1) (pieces_of (chosen t es)) ≡ 0 → AllByRecursion (λ a. t a ≡ false) es
none_chosen t [] h = tt
none_chosen t (a ∷ es) h = by_test (t a) refl h (none_chosen t es)
  where
    by_test : (b : Bool) → t a ≡ b → sum_by (λ _. 1) (pieces_of (if b then a ∷ chosen t es else chosen t es)) ≡ 0 →
        (sum_by (λ _. 1) (pieces_of (chosen t es)) ≡ 0 → AllByRecursion (λ a. t a ≡ false) es) → AllByRecursion (λ a. t a ≡ false) (a ∷ es)
    by_test true e h rest = absurd (omega (arith, sum_by-cons (λ _. 1) a.piece (pieces_of (chosen t es))))
    by_test false e h rest = (e, rest h)

-- no edge of the list passes, where no piece passes both tests
pub SameNumbers-chosen_none : (pieces : List Piece) (s u : Piece → Bool) (t : Active → Bool) (es : List Active) → SameNumbers (pieces_of es) (numbers_from 0 s pieces) →
    AllByRecursion (λ a. t a ≡ passes_at u (piece_at pieces a.piece)) es → AllByRecursion (λ p. (s p && u p) ≡ false) pieces → AllByRecursion (λ a. t a ≡ false) es
SameNumbers-chosen_none pieces s u t es h e n =
    none_chosen t es
    (SameNumbers-chosen pieces s u t es h e (λ _. 1)
    ∙ sum-numbers_from (λ _. 1) 0 (λ p. s p && u p) pieces
    ∙ total-none (λ _. 1) 0 (λ p. s p && u p) pieces n)

-- each edge of the list is of a piece that passes
pub each_passes : (pieces : List Piece) (s : Piece → Bool) (es : List Active) → SameNumbers (pieces_of es) (numbers_from 0 s pieces) →
    AllByRecursion (λ a. passes_at (λ p. not (s p)) (piece_at pieces a.piece) ≡ false) es
each_passes pieces s es h =
    SameNumbers-chosen_none pieces s (λ p. not (s p)) (λ a. passes_at (λ p. not (s p)) (piece_at pieces a.piece)) es h (each_refl es) (contradicts pieces)
  where
    each_refl : (fs : List Active) → AllByRecursion (λ a. passes_at (λ p. not (s p)) (piece_at pieces a.piece) ≡ passes_at (λ p. not (s p)) (piece_at pieces a.piece)) fs
    each_refl [] = tt
    each_refl (a ∷ fs) = (refl, each_refl fs)

    never : (b : Bool) → (b && not b) ≡ false
    never true = refl
    never false = refl

    contradicts : (ps : List Piece) → AllByRecursion (λ p. (s p && not (s p)) ≡ false) ps
    contradicts [] = tt
    contradicts (p ∷ ps) = (never (s p), contradicts ps)

-- ---- the vertices of a list that pass a test
sum-chosen_vertex : (w : Vertex → ℕ) (t : Vertex → Bool) (vs : List Vertex) → sum_by w (chosen t vs) ≡ sum_by (λ v. if t v then w v else 0) vs
sum-chosen_vertex w t [] = refl
sum-chosen_vertex w t (v ∷ vs) =
    by_test (t v) ∙ ap (λ n. (if t v then w v else 0) + n) (sum-chosen_vertex w t vs) ∙ sym (sum_by-cons (λ v. if t v then w v else 0) v vs)
  where
    by_test : (b : Bool) → sum_by w (if b then v ∷ chosen t vs else chosen t vs) ≡ (if b then w v else 0) + sum_by w (chosen t vs)
    by_test true = sum_by-cons w v (chosen t vs)
    by_test false = omega arith

-- they are the vertices that pass both tests
pub AreVertices-chosen : (pieces : List Piece) (s t : Vertex → Bool) (vs : List Vertex) → AreVertices pieces s vs →
    AreVertices pieces (λ v. s v && t v) (chosen t vs)
AreVertices-chosen pieces s t vs h =
    λ w.
    sum-chosen_vertex w t vs
    ∙ h (λ v. if t v then w v else 0)
    ∙ sum_by-agree _ _ (all_vertices 0 pieces) (λ v. both_tests (s v) (t v) (w v))

-- ---- the numbers of the pieces with a vertex of a role that passes a test
sum-pieces_with : (w : ℕ → ℕ) (r : Role → Bool) (vs : List Vertex) → sum_by w (pieces_with r vs) ≡ sum_by (λ v. if r v.role then w v.piece else 0) vs
sum-pieces_with w r [] = refl
sum-pieces_with w r (v ∷ vs) =
    sum-chosen w v.piece (pieces_with r vs) (r v.role)
    ∙ ap (λ n. (if r v.role then w v.piece else 0) + n) (sum-pieces_with w r vs)
    ∙ sym (sum_by-cons (λ v. if r v.role then w v.piece else 0) v vs)

-- the sum over all vertices, piece by piece
pub sum-all_vertices : (f : Vertex → ℕ) (w : ℕ → ℕ) (t : Piece → Bool) (k : ℕ) (ps : List Piece) →
    ((i : ℕ) (p : Piece) → sum_by f (vertices_of i p) ≡ (if t p then w i else 0)) → sum_by f (all_vertices k ps) ≡ total w k t ps
sum-all_vertices f w t k [] h = refl
sum-all_vertices f w t k (p ∷ ps) h =
    sum_by-append f (vertices_of k p) (all_vertices (k + 1) ps)
    ∙ ap (λ n. n + sum_by f (all_vertices (k + 1) ps)) (h k p)
    ∙ ap (λ n. (if t p then w k else 0) + n) (sum-all_vertices f w t (k + 1) ps h)

-- a piece that passes t has just one such vertex, and the others have none
abbrev pub HasOne : (Vertex → Bool) → (Role → Bool) → (Piece → Bool) → Type 0
HasOne s r t =
    (w : ℕ → ℕ) (i : ℕ) (p : Piece) → sum_by (λ v. if s v then (if r v.role then w v.piece else 0) else 0) (vertices_of i p) ≡ (if t p then w i else 0)

-- the pieces of a list of vertices by role
pub SameNumbers-vertices : (pieces : List Piece) (s : Vertex → Bool) (r : Role → Bool) (t : Piece → Bool) (vs : List Vertex) → AreVertices pieces s vs →
    HasOne s r t → SameNumbers (pieces_with r vs) (numbers_from 0 t pieces)
SameNumbers-vertices pieces s r t vs h o =
    λ w.
    sum-pieces_with w r vs
    ∙ h (λ v. if r v.role then w v.piece else 0)
    ∙ sum-all_vertices (λ v. if s v then (if r v.role then w v.piece else 0) else 0) w t 0 pieces (o w)
    ∙ sym (sum-numbers_from w 0 t pieces)
