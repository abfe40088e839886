-- The numbered edges of a line or ring, each against the later ones, as links of a chain.
use Rattle.std.proofs.Common.{◌≡◌, ℕ, suc, ◌+◌, ◌≤◌, Bool, true, false, ◌&&◌, ◌||◌, not, List, [], ◌∷◌, length, refl, ap, sym, ◌∙◌, arith, nat_eq, nat_le}
use Rattle.std.specs.List.{enumerate_from, list_any}
use Rattle.std.proofs.Math.Bool.{and-false, and-or_distrib_left, and-true, and_assoc, or-false}
use Rattle.sf_grid.specs.Plane.{Point, grid_point, same_point}
use Rattle.sf_grid.specs.Edge.{Edge, on_edge}
use Rattle.sf_valid_rules.specs.Conditions.{any_two}
use Rattle.sf_valid_rules.specs.Shapes.{is_joint, on_both}
use Rattle.sf_strands.proofs.ChainLaws.{IsChain, bit, crosses, joints-and-end, last_ends, on_count}
use Rattle.sf_strands.proofs.LinkLaws.{link_of, links}

-- two numbered edges meet at the point, and not at their joint
abbrev pub meet_apart : Bool → ℕ → Point → ℕ × Edge → ℕ × Edge → Bool
meet_apart closed count p e f = on_both e.1 f.1 p && not (is_joint closed count e f p)

-- ---- tests
far : (k j : ℕ) → k + 2 ≤ j → nat_eq j (k + 1) ≡ false
far k j h = grind (arith)

same : (n : ℕ) → nat_eq n n ≡ true
same n = grind (arith)

pub any-same : {X : Type 0} (s t : X → Bool) → ((x : X) → s x ≡ t x) → (xs : List X) → list_any s xs ≡ list_any t xs
any-same s t h [] = refl
any-same s t h (x ∷ xs) = ap (λ b. b || list_any s xs) (h x) ∙ ap (λ b. t x || b) (any-same s t h xs)

-- ---- without the joint of the first and the last edge
-- edges that aren't neighbours
far-any : (count k j : ℕ) (a : Edge) (p : Point) (es : List Edge) → k + 2 ≤ j
    → list_any (meet_apart false count p (k, a)) (enumerate_from j es) ≡ (on_edge a p && list_any (λ l. l.on) (links p es))
far-any count k j a p [] h = sym (and-false (on_edge a p))
far-any count k j a p (e ∷ es) h =
    ap (λ t. (on_both a e p && not ((t && same_point (grid_point a.b) p) || false)) || list_any (meet_apart false count p (k, a)) (enumerate_from (j + 1) es)) (far k j h)
    ∙ ap (λ t. t || list_any (meet_apart false count p (k, a)) (enumerate_from (j + 1) es)) (and-true (on_both a e p))
    ∙ ap (λ t. on_both a e p || t) (far-any count k (j + 1) a p es (omega (arith, h)))
    ∙ sym (and-or_distrib_left (on_edge a p) (on_edge e p) (list_any (λ l. l.on) (links p es)))

-- a line that isn't closed meets itself at a point just where its links cross there
pub open-crosses : (count k : ℕ) (p : Point) (es : List Edge) → any_two (meet_apart false count p) (enumerate_from k es) ≡ crosses (links p es)
open-crosses count k p [] = refl
open-crosses count k p (a ∷ []) = refl
open-crosses count k p (a ∷ b ∷ es) =
    ap (λ t. ((on_both a b p && not ((t && same_point (grid_point a.b) p) || false)) || rest) || later) (same (k + 1))
    ∙ ap (λ t. ((on_both a b p && not t) || rest) || later) (or-false (same_point (grid_point a.b) p))
    ∙ ap (λ t. (t || rest) || later) (and_assoc (on_edge a p) (on_edge b p) (not (same_point (grid_point a.b) p)))
    ∙ ap (λ t. ((on_edge a p && (on_edge b p && not (same_point (grid_point a.b) p))) || t) || later) (far-any count k (k + 1 + 1) a p es (omega arith))
    ∙ ap (λ t. ((on_edge a p && (on_edge b p && not (same_point (grid_point a.b) p))) || (on_edge a p && list_any (λ l. l.on) (links p es))) || t) (open-crosses count (k + 1) p (b ∷ es))
  where
    rest : Bool
    rest = list_any (meet_apart false count p (k, a)) (enumerate_from (k + 1 + 1) es)

    later : Bool
    later = any_two (meet_apart false count p) (enumerate_from (k + 1) (b ∷ es))

-- ---- the joint of the first and the last edge
-- it isn't one of a later edge, nor at a point where the first edge doesn't begin
unjoined : (closed : Bool) (count : ℕ) (p : Point) (e f : ℕ × Edge) → (nat_eq e.0 0 && same_point (grid_point e.1.a) p) ≡ false →
    meet_apart closed count p e f ≡ meet_apart false count p e f
unjoined closed count p e f h =
    ap (λ t. on_both e.1 f.1 p && not ((nat_eq f.0 (e.0 + 1) && same_point (grid_point e.1.b) p) || t))
    (by closed (nat_eq e.0 0) (nat_eq (f.0 + 1) count) (same_point (grid_point e.1.a) p) h)
  where
    by : (c z n s : Bool) → (z && s) ≡ false → (c && z && n && s) ≡ false
    by false z n s k = refl
    by true false n s k = refl
    by true true true s k = k
    by true true false s k = refl

not_zero : (k : ℕ) → nat_eq (k + 1) 0 ≡ false
not_zero k = grind (arith)

later-unjoined : (closed : Bool) (count k : ℕ) (p : Point) (es : List Edge) →
    any_two (meet_apart closed count p) (enumerate_from (k + 1) es) ≡ any_two (meet_apart false count p) (enumerate_from (k + 1) es)
later-unjoined closed count k p [] = refl
later-unjoined closed count k p (a ∷ es) =
    ap (λ t. t || any_two (meet_apart closed count p) (enumerate_from (k + 1 + 1) es))
    (any-same (meet_apart closed count p (k + 1, a)) (meet_apart false count p (k + 1, a))
    (λ f. unjoined closed count p (k + 1, a) f (ap (λ t. t && same_point (grid_point a.a) p) (not_zero k))) (enumerate_from (k + 1 + 1) es))
    ∙ ap (λ t. list_any (meet_apart false count p (k + 1, a)) (enumerate_from (k + 1 + 1) es) || t) (later-unjoined closed count (k + 1) p es)

-- a line meets itself, where its first edge doesn't begin at the point, just where its links cross
pub begins-elsewhere : (closed : Bool) (count : ℕ) (p : Point) (a : Edge) (es : List Edge) → same_point (grid_point a.a) p ≡ false →
    any_two (meet_apart closed count p) (enumerate_from 0 (a ∷ es)) ≡ crosses (links p (a ∷ es))
begins-elsewhere closed count p a es h =
    ap (λ t. t || any_two (meet_apart closed count p) (enumerate_from (0 + 1) es))
    (any-same (meet_apart closed count p (0, a)) (meet_apart false count p (0, a)) (λ f. unjoined closed count p (0, a) f h) (enumerate_from (0 + 1) es))
    ∙ ap (λ t. list_any (meet_apart false count p (0, a)) (enumerate_from (0 + 1) es) || t) (later-unjoined closed count 0 p es)
    ∙ open-crosses count 0 p (a ∷ es)

-- the first edge of a closed line that begins at the point, against the others: its one joint there is with the last
abbrev but_last : ℕ → Point → ℕ × Edge → Bool
but_last count p f = on_edge f.1 p && not (nat_eq (f.0 + 1) count)

first-but_last : (count : ℕ) (p : Point) (a : Edge) (f : ℕ × Edge) → on_edge a p ≡ true → same_point (grid_point a.b) p ≡ false → same_point (grid_point a.a) p ≡ true →
    meet_apart true count p (0, a) f ≡ but_last count p f
first-but_last count p a f on away here =
    ap (λ t. (t && on_edge f.1 p) && not (is_joint true count (0, a) f p)) on
    ∙ ap (λ t. on_edge f.1 p && not ((nat_eq f.0 (0 + 1) && t) || (nat_eq (f.0 + 1) count && same_point (grid_point a.a) p))) away
    ∙ ap (λ t. on_edge f.1 p && not (t || (nat_eq (f.0 + 1) count && same_point (grid_point a.a) p))) (and-false (nat_eq f.0 (0 + 1)))
    ∙ ap (λ t. on_edge f.1 p && not (nat_eq (f.0 + 1) count && t)) here
    ∙ ap (λ t. on_edge f.1 p && not t) (and-true (nat_eq (f.0 + 1) count))

before_end : (j n count : ℕ) → j + (n + 2) ≡ count → nat_eq (j + 1) count ≡ false
before_end j n count h = grind (arith)

at_end : (j count : ℕ) → j + 1 ≡ count → nat_eq (j + 1) count ≡ true
at_end j count h = grind (arith)

one-more : (b any : Bool) (n : ℕ) → 1 ≤ n → any ≡ nat_le 2 n → (b || any) ≡ nat_le 2 (bit b + n)
one-more true any n h e = grind (arith)
one-more false any n h e = e ∙ ap (nat_le 2) (omega arith)

any-but_last : (count j : ℕ) (p : Point) (begins : Bool) (f : Edge) (fs : List Edge) → j + length (f ∷ fs) ≡ count → IsChain begins (links p (f ∷ fs)) →
    last_ends (link_of p f) (links p fs) ≡ true → list_any (but_last count p) (enumerate_from j (f ∷ fs)) ≡ nat_le 2 (on_count (links p (f ∷ fs)))
any-but_last count j p begins f [] h chain e =
    ap (λ t. (on_edge f p && not t) || false) (at_end j count h) ∙ single (on_edge f p)
  where
    single : (b : Bool) → ((b && false) || false) ≡ nat_le 2 (bit b + 0)
    single true = refl
    single false = refl
any-but_last count j p begins f (g ∷ gs) h chain e =
    ap (λ t. (on_edge f p && not t) || list_any (but_last count p) (enumerate_from (j + 1) (g ∷ gs))) (before_end j (length gs) count (omega (arith, h)))
    ∙ ap (λ t. t || list_any (but_last count p) (enumerate_from (j + 1) (g ∷ gs))) (and-true (on_edge f p))
    ∙ one-more (on_edge f p) _ (on_count (links p (g ∷ gs))) some
    (any-but_last count (j + 1) p (link_of p f).ends g gs (omega (arith, h)) chain.1 e)
  where
    ends_there : bit (last_ends (link_of p g) (links p gs)) ≡ 1
    ends_there = ap bit e

    some : 1 ≤ on_count (links p (g ∷ gs))
    some = omega (arith, joints-and-end (link_of p f).ends (link_of p g) (links p gs) chain.1, ends_there)

-- a closed line that begins and ends at the point meets itself there just where a link beside its first and last is on
-- it, or later links cross
pub begins-here : (p : Point) (a f : Edge) (fs : List Edge) → on_edge a p ≡ true → same_point (grid_point a.b) p ≡ false → same_point (grid_point a.a) p ≡ true →
    IsChain false (links p (f ∷ fs)) → last_ends (link_of p f) (links p fs) ≡ true →
    any_two (meet_apart true (length (a ∷ f ∷ fs)) p) (enumerate_from 0 (a ∷ f ∷ fs)) ≡ (nat_le 2 (on_count (links p (f ∷ fs))) || crosses (links p (f ∷ fs)))
begins-here p a f fs on away here chain e =
    ap (λ t. t || any_two (meet_apart true count p) (enumerate_from (0 + 1) (f ∷ fs)))
    (any-same (meet_apart true count p (0, a)) (but_last count p) (λ g. first-but_last count p a g on away here) (enumerate_from (0 + 1) (f ∷ fs))
    ∙ any-but_last count (0 + 1) p false f fs (counted (length (f ∷ fs))) chain e)
    ∙ ap (λ t. nat_le 2 (on_count (links p (f ∷ fs))) || t) (later-unjoined true count 0 p (f ∷ fs) ∙ open-crosses count (0 + 1) p (f ∷ fs))
  where
    count : ℕ
    count = length (a ∷ f ∷ fs)

    counted : (n : ℕ) → 0 + 1 + n ≡ suc n
    counted n = omega arith
