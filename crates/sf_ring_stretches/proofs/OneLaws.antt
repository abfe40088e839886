-- The parity of a ring outside of the box of a change: the old edges of the changed stretch and the new ones, backwards,
-- are a closed chain in that box, so an even number of them is above each point outside of it.
use Rattle.std.proofs.Common.{◌≡◌, refl, ap, sym, ◌∙◌, subst, Bool, true, false, ◌||◌, List, [], ◌∷◌, ◌++◌}
use Rattle.std.specs.List.{AllByRecursion}
use Rattle.std.proofs.lemmas.Bool.{both_ways}
use Rattle.std.proofs.lemmas.List.Elements.{All-from_recursion}
use Rattle.sf_grid.specs.Plane.{Coordinates, IsPoint, Point}
use Rattle.sf_grid.specs.Edge.{Edge as Line, below_rightward, edge_above, edge_between}
use Rattle.sf_plane.specs.Boxes.{Box, HasEnds, IsChain, in_box}
use Rattle.sf_plane.proofs.BoxLaws.{ring_in_box}
use Rattle.sf_interiors.proofs.ChainLaws.{odd-count}
use Rattle.sf_interiors.proofs.ParityLaws.{odd-append}
use Rattle.sf_interiors.proofs.SideLaws.{differ}
use Rattle.sf_interiors.specs.Paths.{parity}

-- ---- truths that differ
differ-swap : (a b : Bool) → differ a b ≡ differ b a
differ-swap true true = refl
differ-swap true false = refl
differ-swap false true = refl
differ-swap false false = refl

differ-none : (a : Bool) → differ a false ≡ a
differ-none true = refl
differ-none false = refl

alike : (a b : Bool) → differ a b ≡ false → a ≡ b
alike true true h = refl
alike true false h = h
alike false true h = sym h
alike false false h = refl

either-swap : (a b : Bool) → (a || b) ≡ (b || a)
either-swap true true = refl
either-swap true false = refl
either-swap false true = refl
either-swap false false = refl

-- ---- a chain backwards
abbrev backward : Line → Line
backward e = edge_between e.b e.a

abbrev backwards : List Line → List Line
backwards [] = []
backwards (e ∷ es) = backwards es ++ (backward e ∷ [])

chain-append : (a b c : Coordinates) (es fs : List Line) → IsChain a es b → IsChain b fs c → IsChain a (es ++ fs) c
chain-append a b c [] fs h k = subst (λ d. IsChain d fs c) (sym h) k
chain-append a b c (e ∷ es) fs h k = (h.0, chain-append e.b b c es fs h.1 k)

chain-backwards : (a b : Coordinates) (es : List Line) → IsChain a es b → IsChain b (backwards es) a
chain-backwards a b [] h = sym h
chain-backwards a b (e ∷ es) h = chain-append b e.b a (backwards es) (backward e ∷ []) (chain-backwards e.b b es h.1) (refl, h.0)

each-append : (P : Line → Type 0) (es fs : List Line) → AllByRecursion P es → AllByRecursion P fs → AllByRecursion P (es ++ fs)
each-append P [] fs h k = k
each-append P (e ∷ es) fs h k = (h.0, each-append P es fs h.1 k)

ends-backwards : (box : Box) (es : List Line) → AllByRecursion (HasEnds box) es → AllByRecursion (HasEnds box) (backwards es)
ends-backwards box [] h = tt
ends-backwards box (e ∷ es) h = each-append (HasEnds box) (backwards es) (backward e ∷ []) (ends-backwards box es h.1) ((h.0.1, h.0.0), tt)

-- as many edges are above a point, whichever way they lead
parity-backwards : (es : List Line) (p : Point) → parity (backwards es) p ≡ parity es p
parity-backwards [] p = refl
parity-backwards (e ∷ es) p =
    odd-append (λ f. edge_above f p) (backwards es) (backward e ∷ [])
    ∙ ap (differ (parity (backwards es) p)) (odd-count (λ f. edge_above f p) (backward e) [] ∙ differ-none (edge_above (backward e) p))
    ∙ differ-swap (parity (backwards es) p) (edge_above (backward e) p)
    ∙ ap (λ b. differ b (parity (backwards es) p)) (either-swap (below_rightward e.b e.a p) (below_rightward e.a e.b p))
    ∙ ap (differ (edge_above e p)) (parity-backwards es p)
    ∙ sym (odd-count (λ f. edge_above f p) e es)

-- ---- outside of the box
-- two chains in a box from one point to another: each point outside of the box has one parity of both
pub stretch-parity : (box : Box) (a b : Coordinates) (olds news : List Line) (p : Point) → IsPoint p → IsChain a olds b → IsChain a news b
    → AllByRecursion (HasEnds box) olds → AllByRecursion (HasEnds box) news → in_box box p ≡ false → parity olds p ≡ parity news p
stretch-parity box a b olds news p i old new h k off =
    alike (parity olds p) (parity news p)
    (ap (differ (parity olds p)) (sym (parity-backwards news p))
    ∙ sym (odd-append (λ f. edge_above f p) olds (backwards news))
    ∙ even (parity (olds ++ backwards news) p) refl)
  where
    even : (t : Bool) → parity (olds ++ backwards news) p ≡ t → t ≡ false
    even false e = refl
    even true e =
        absurd (both_ways _ off
        (ring_in_box box (olds ++ backwards news) p
        (a, chain-append a b a olds (backwards news) old (chain-backwards a b news new))
        (All-from_recursion (HasEnds box) (olds ++ backwards news) (each-append (HasEnds box) olds (backwards news) h (ends-backwards box news k)))
        i e))

-- a list of edges of which a stretch was replaced so: each point outside of the box keeps its parity
pub parity-kept : (box : Box) (a b : Coordinates) (front olds news back : List Line) (p : Point) → IsPoint p → IsChain a olds b → IsChain a news b
    → AllByRecursion (HasEnds box) olds → AllByRecursion (HasEnds box) news → in_box box p ≡ false
    → parity (front ++ (olds ++ back)) p ≡ parity (front ++ (news ++ back)) p
parity-kept box a b front olds news back p i old new h k off =
    odd-append (λ f. edge_above f p) front (olds ++ back)
    ∙ ap (differ (parity front p))
    (odd-append (λ f. edge_above f p) olds back
    ∙ ap (λ t. differ t (parity back p)) (stretch-parity box a b olds news p i old new h k off)
    ∙ sym (odd-append (λ f. edge_above f p) news back))
    ∙ sym (odd-append (λ f. edge_above f p) front (news ++ back))
