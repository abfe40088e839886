-- The parities of the edges above a point by left ends and by right ends, over closed chains.
use Rattle.std.proofs.Common.{◌≡◌, ℕ, ◌+◌, arith, refl, ap, sym, ◌∙◌, Bool, true, false, cond, not, List, [], ◌∷◌}
use Rattle.std.specs.List.{count_by}
use Rattle.std.proofs.lemmas.List.Sums.{sum_by-cons}
use Rattle.sf_grid.specs.Plane.{Coordinates, IsPoint, Point}
use Rattle.sf_grid.specs.Edge.{Edge as Line, edge_above}
use Rattle.sf_grid.specs.EvenOdd.{is_odd}
use Rattle.sf_plane.specs.Boxes.{IsChain, IsClosedChain}
use Rattle.sf_interiors.proofs.SideLaws.{differ, differ-self, each-edge, edge_above_left, is_over, straddles}

-- the two parities at a point differ just where an odd number of vertical edges runs through its column from above it to below
abbrev pub IsBalanced : List Line → Point → Type 0
IsBalanced es p =
    differ (is_odd (count_by (λ e. edge_above e p) es)) (is_odd (count_by (λ e. edge_above_left e p) es))
    ≡ is_odd (count_by (λ e. straddles e p) es)

odd-next : (n : ℕ) → is_odd (1 + n) ≡ not (is_odd n)
odd-next n = grind arith

pub odd-count : (test : Line → Bool) (e : Line) (es : List Line) → is_odd (count_by test (e ∷ es)) ≡ differ (test e) (is_odd (count_by test es))
odd-count test e es = ap is_odd (sum_by-cons (λ f. cond (test f) 1 0) e es) ∙ by_test (test e)
  where
    none : (n : ℕ) → 0 + n ≡ n
    none n = omega arith

    by_test : (t : Bool) → is_odd (cond t 1 0 + count_by test es) ≡ differ t (is_odd (count_by test es))
    by_test true = odd-next (count_by test es)
    by_test false = ap is_odd (none (count_by test es))

pub differ-chain : (a b c : Bool) → differ (differ a b) (differ b c) ≡ differ a c
differ-chain true true c = not-not c
  where
    not-not : (x : Bool) → (differ false (not x)) ≡ not x
    not-not x = refl
differ-chain true false c = refl
differ-chain false true true = refl
differ-chain false true false = refl
differ-chain false false c = refl

odd-chain : (f : Coordinates → Bool) (a b : Coordinates) (es : List Line) → IsChain a es b → is_odd (count_by (λ e. differ (f e.a) (f e.b)) es) ≡ differ (f a) (f b)
odd-chain f a b [] h = sym (differ-self (f a)) ∙ ap (λ c. differ (f a) (f c)) h
odd-chain f a b (e ∷ es) h =
    odd-count (λ g. differ (f g.a) (f g.b)) e es
    ∙ ap (differ (differ (f e.a) (f e.b))) (odd-chain f e.b b es h.1)
    ∙ differ-chain (f e.a) (f e.b) (f b)
    ∙ ap (λ c. differ (f c) (f b)) h.0

pub exchange : (a b c d : Bool) → differ (differ a b) (differ c d) ≡ differ (differ a c) (differ b d)
exchange true true true true = refl
exchange true true true false = refl
exchange true true false true = refl
exchange true true false false = refl
exchange true false true true = refl
exchange true false true false = refl
exchange true false false true = refl
exchange true false false false = refl
exchange false true true true = refl
exchange false true true false = refl
exchange false true false true = refl
exchange false true false false = refl
exchange false false true true = refl
exchange false false true false = refl
exchange false false false true = refl
exchange false false false false = refl

counts-differ : (s t w u : Line → Bool) (es : List Line) → ((e : Line) → differ (s e) (t e) ≡ differ (w e) (u e)) →
    differ (is_odd (count_by s es)) (is_odd (count_by t es)) ≡ differ (is_odd (count_by w es)) (is_odd (count_by u es))
counts-differ s t w u [] h = refl
counts-differ s t w u (e ∷ es) h =
    ap (λ b. differ b (is_odd (count_by t (e ∷ es)))) (odd-count s e es)
    ∙ ap (λ b. differ (differ (s e) (is_odd (count_by s es))) b) (odd-count t e es)
    ∙ exchange (s e) (is_odd (count_by s es)) (t e) (is_odd (count_by t es))
    ∙ ap (λ b. differ b (differ (is_odd (count_by s es)) (is_odd (count_by t es)))) (h e)
    ∙ ap (λ b. differ (differ (w e) (u e)) b) (counts-differ s t w u es h)
    ∙ exchange (w e) (u e) (is_odd (count_by w es)) (is_odd (count_by u es))
    ∙ ap (λ b. differ b (differ (u e) (is_odd (count_by u es)))) (sym (odd-count w e es))
    ∙ ap (λ b. differ (is_odd (count_by w (e ∷ es))) b) (sym (odd-count u e es))

pub balanced-chain : (es : List Line) (p : Point) → IsClosedChain es → IsPoint p → IsBalanced es p
balanced-chain es p closed i =
    counts-differ (λ e. edge_above e p) (λ e. edge_above_left e p) (λ e. differ (is_over e.a p) (is_over e.b p)) (λ e. straddles e p) es (λ e. each-edge e p i)
    ∙ ap (λ b. differ b (is_odd (count_by (λ e. straddles e p) es))) (odd-chain (λ v. is_over v p) closed.0 closed.0 es closed.1 ∙ differ-self (is_over closed.0 p))
