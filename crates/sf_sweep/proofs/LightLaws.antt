-- How often pieces stand in an order: what goes on from a window are no more than came and began, so no piece stands twice.
use Rattle.std.proofs.Common.{◌≡◌, ◌≢◌, refl, ap, sym, ◌∙◌, ℕ, ◌+◌, ◌≤◌, ◌<◌, arith, Bool, true, false, cond, List, [], ◌∷◌, ◌++◌, take, drop, nat_eq, ◌||◌, Option}
use Rattle.std.specs.Prelude.{sum_by}
use Rattle.std.specs.List.{AllByRecursion}
use Rattle.std.proofs.lemmas.Bool.{eq-eqb, eqb-true}
use Rattle.std.proofs.lemmas.List.{map-append, take-append-drop}
use Rattle.std.proofs.lemmas.List.Sorted.{sum_by-IsPermutation}
use Rattle.std.proofs.lemmas.List.Sums.{sum_by-append, sum_by-cons}
use Rattle.sf_grid.specs.Fraction.{Fraction}
use Rattle.sf_strips.specs.declared.active.Active.{Active}
use Rattle.sf_strips.specs.declared.contact.Contact.{Contact}
use Rattle.sf_strips.specs.declared.piece.Piece.{Piece}
use Rattle.sf_strips.specs.declared.level.Level.{Level}
use Rattle.sf_strips.specs.declared.vertex.Vertex.{Vertex}
use Rattle.sf_strips.specs.Fronts.{pieces_of}
use Rattle.sf_strips.specs.Levels.{AreOnward, AreStarts, IsOnward, StartsWith, going_past, goes_past, if_begins}
use Rattle.sf_strips.specs.Vertices.{begins, pieces_with}
use Rattle.sf_cells.specs.Cells.{numbers_from}
use Rattle.sf_slabs.specs.Sweeps.{IsColumnOf, IsComing, comes_to}
use Rattle.sf_slabs.proofs.BegunLaws.{begins_in, coming_or_begun}
use Rattle.sf_sweep.proofs.GoingLaws.{begun-append}
use Rattle.sf_sweep.proofs.ParityLaws.{AreDistinct}
pub use Rattle.sf_sweep.specs.Within.{weigh, weigh_begun}

-- ---- sums over the pieces of edges
pub weigh-append : (w : ℕ → ℕ) (es fs : List Active) → weigh w (es ++ fs) ≡ weigh w es + weigh w fs
weigh-append w es fs = ap (sum_by w) (map-append (λ e. e.piece) es fs) ∙ sum_by-append w (pieces_of es) (pieces_of fs)

pub begun-weigh : (w : ℕ → ℕ) (us vs : List Vertex) → weigh_begun w (us ++ vs) ≡ weigh_begun w us + weigh_begun w vs
begun-weigh w us vs = ap (sum_by w) (begun-append us vs) ∙ sum_by-append w (pieces_with begins us) (pieces_with begins vs)

by_edges : (w : ℕ → ℕ) (es : List Active) → weigh w es ≡ sum_by (λ e. w e.piece) es
by_edges w [] = refl
by_edges w (a ∷ es) =
    sum_by-cons w a.piece (pieces_of es) ∙ ap (λ n. w a.piece + n) (by_edges w es) ∙ sym (sum_by-cons (λ e. w e.piece) a es)

-- ---- what goes on
going-light : (w : ℕ → ℕ) (vs : List Vertex) (es : List Active) → weigh w (going_past vs es) ≤ weigh w es
going-light w vs [] = omega arith
going-light w vs (a ∷ es) = by_test (goes_past vs a) (going-light w vs es)
  where
    by_test : (t : Bool) → weigh w (going_past vs es) ≤ weigh w es → weigh w (cond t (a ∷ going_past vs es) (going_past vs es)) ≤ weigh w (a ∷ es)
    by_test true k = omega (arith, k, sum_by-cons w a.piece (pieces_of (going_past vs es)), sum_by-cons w a.piece (pieces_of es))
    by_test false k = omega (arith, k, sum_by-cons w a.piece (pieces_of es))

starts-light : (w : ℕ → ℕ) (vs : List Vertex) (starts : List Active) → AreStarts vs starts → weigh w starts ≡ weigh_begun w vs
starts-light w [] starts s = ap (weigh w) s
starts-light w (v ∷ vs) starts s = by_role (begins v.role) starts s (λ rest k. starts-light w vs rest k)
  where
    by_role : (t : Bool) (starts : List Active) → if_begins t (StartsWith v (AreStarts vs)) (AreStarts vs) starts →
        ((rest : List Active) → AreStarts vs rest → weigh w rest ≡ weigh_begun w vs) → weigh w starts ≡ sum_by w (cond t (v.piece ∷ pieces_with begins vs) (pieces_with begins vs))
    by_role true [] k further = absurd k
    by_role true (a ∷ rest) k further =
        sum_by-cons w a.piece (pieces_of rest)
        ∙ ap (λ p. w p + weigh w rest) k.0
        ∙ ap (λ n. w v.piece + n) (further rest k.1.1)
        ∙ sym (sum_by-cons w v.piece (pieces_with begins vs))
    by_role false starts k further = further starts k

level-light : (w : ℕ → ℕ) (es : List Active) (vs : List Vertex) (os : List Active) → IsOnward es vs os → weigh w os ≤ weigh w es + weigh_begun w vs
level-light w es vs os o =
    let same : weigh w os ≡ weigh w (going_past vs es ++ o.starts) =
    by_edges w os ∙ sum_by-IsPermutation (λ e. w e.piece) (going_past vs es ++ o.starts) os o.same ∙ sym (by_edges w (going_past vs es ++ o.starts)) in
    omega (arith, same, weigh-append w (going_past vs es) o.starts, going-light w vs es, starts-light w vs o.starts o.are_starts)

pub onward-light : (w : ℕ → ℕ) (es : List Active) (vs : List Vertex) (os : List Active) (ls : List Level) → AreOnward es vs os ls → weigh w os ≤ weigh w es + weigh_begun w vs
onward-light w es vs os [] o = few (weigh w os) (ap (weigh w) o)
  where
    few : (n : ℕ) → n ≡ 0 → n ≤ weigh w es + weigh_begun w vs
    few n e = omega (arith, e)
onward-light w es vs os (l ∷ ls) o =
    let here = level-light w (take l.edges es) (take l.vertices vs) (take l.onward os) o.0 in
    let later = onward-light w (drop l.edges es) (drop l.vertices vs) (drop l.onward os) ls o.1 in
    omega (arith, here, later, halves l.edges es, halves l.onward os, begun l.vertices vs)
  where
    halves : (n : ℕ) (xs : List Active) → weigh w (take n xs) + weigh w (drop n xs) ≡ weigh w xs
    halves n xs = sym (weigh-append w (take n xs) (drop n xs)) ∙ ap (weigh w) (take-append-drop n xs)

    begun : (n : ℕ) (vs : List Vertex) → weigh_begun w (take n vs) + weigh_begun w (drop n vs) ≡ weigh_begun w vs
    begun n vs = sym (begun-weigh w (take n vs) (drop n vs)) ∙ ap (weigh_begun w) (take-append-drop n vs)

-- ---- no piece stands twice
-- how often a number is this one
abbrev pub one_at : ℕ → ℕ → ℕ
one_at i j = cond (nat_eq i j) 1 0

at-itself : (i j : ℕ) → i ≡ j → one_at i j ≡ 1
at-itself i j e = ap (λ t. cond t 1 0) (eq-eqb i j e)

none-in : (i : ℕ) (es : List Active) → weigh (one_at i) es ≤ 0 → AllByRecursion (λ b. i ≢ b.piece) es
none-in i [] h = tt
none-in i (b ∷ es) h =
    let parts = sum_by-cons (one_at i) b.piece (pieces_of es) in
    (λ e. omega (arith, h, parts, at-itself i b.piece e), none-in i es (omega (arith, h, parts)))

pub distinct-of_light : (es : List Active) → ((i : ℕ) → weigh (one_at i) es ≤ 1) → AreDistinct es
distinct-of_light [] h = tt
distinct-of_light (a ∷ es) h = (
  none-in a.piece es (omega (arith, h a.piece, sum_by-cons (one_at a.piece) a.piece (pieces_of es), at-itself a.piece a.piece refl)),
  distinct-of_light es (λ i. less i (h i) (sum_by-cons (one_at i) a.piece (pieces_of es))),
)
  where
    less : (i : ℕ) → weigh (one_at i) (a ∷ es) ≤ 1 → weigh (one_at i) (a ∷ es) ≡ one_at i a.piece + weigh (one_at i) es → weigh (one_at i) es ≤ 1
    less i h e = omega (arith, h, e)

-- ---- the edges that come to a column, and those that begin in it
numbers-once : (i k : ℕ) (t : Piece → Bool) (ps : List Piece) → (sum_by (one_at i) (numbers_from k t ps) ≤ 1) × (i < k → sum_by (one_at i) (numbers_from k t ps) ≤ 0)
numbers-once i k t [] = (omega arith, λ l. omega arith)
numbers-once i k t (p ∷ ps) = by_test (t p) (numbers-once i (k + 1) t ps)
  where
    ns : List ℕ
    ns = numbers_from (k + 1) t ps

    one : (b : Bool) → nat_eq i k ≡ b → (sum_by (one_at i) ns ≤ 1) × (i < k + 1 → sum_by (one_at i) ns ≤ 0) → sum_by (one_at i) (k ∷ ns) ≡ cond b 1 0 + sum_by (one_at i) ns →
        (sum_by (one_at i) (k ∷ ns) ≤ 1) × (i < k → sum_by (one_at i) (k ∷ ns) ≤ 0)
    one true e h s =
        let same : i ≡ k = eqb-true i k e in
        let none = h.1 (omega (arith, same)) in
        (omega (arith, s, none), λ l. absurd (omega (arith, l, same)))
    one false e h s = (omega (arith, s, h.0), λ l. omega (arith, s, h.1 (omega (arith, l))))

    by_test : (b : Bool) → (sum_by (one_at i) ns ≤ 1) × (i < k + 1 → sum_by (one_at i) ns ≤ 0) →
        (sum_by (one_at i) (cond b (k ∷ ns) ns) ≤ 1) × (i < k → sum_by (one_at i) (cond b (k ∷ ns) ns) ≤ 0)
    by_test true h = one (nat_eq i k) refl h (sum_by-cons (one_at i) k ns)
    by_test false h = (h.0, λ l. h.1 (omega (arith, l)))

pub column-once : (pieces : List Piece) (z : Fraction) (column : Option Fraction) (came : List Active) (cs : List Contact) (vs : List Vertex) → IsComing pieces z column came cs → IsColumnOf pieces z vs →
    (i : ℕ) → weigh (one_at i) came + weigh_begun (one_at i) vs ≤ 1
column-once pieces z column came cs vs c v i =
    let once = numbers-once i 0 (λ p. comes_to z p || begins_in z p) pieces in
    let same = coming_or_begun pieces z (pieces_of came) vs c.coming v.are (one_at i) in
    omega (arith, once.0, same, sum_by-append (one_at i) (pieces_of came) (pieces_with begins vs))
