-- Closed rings: their edges are closed chains, so the parities of all of them together are balanced.
use Rattle.std.proofs.Common.{◌≡◌, refl, ap, sym, ◌∙◌, subst, pos, Bool, true, false, List, [], ◌∷◌, ◌++◌}
use Rattle.std.specs.Prelude.{if◌then◌else◌}
use Rattle.std.specs.List.{AllByRecursion, count_by, flat_map}
use Rattle.sf_grid.specs.Plane.{Coordinates, IsPoint, Point}
use Rattle.sf_grid.specs.Edge.{Edge as Line, edge_above}
use Rattle.sf_grid.specs.EvenOdd.{is_odd}
use Rattle.sf_geometry.specs.Lists.{before_tight, edges_between, edges_from, edges_of, is_closed, is_same, last_from, tight}
use Rattle.sf_geometry.proofs.ListLaws.{same-is}
use Rattle.sf_plane.specs.Boxes.{IsChain, IsClosedChain}
use Rattle.sf_interiors.proofs.ChainLaws.{IsBalanced, balanced-chain, exchange}
use Rattle.sf_interiors.proofs.ParityLaws.{odd-append}
use Rattle.sf_interiors.proofs.SideLaws.{differ, edge_above_left, straddles}

-- ---- the edges of a closed ring are a closed chain
-- a tight list begins and ends as its list does
record IsTightOf (p : Coordinates) (ps ts : List Coordinates) : Type 0 where
  rest : List Coordinates
  is : ts ≡ p ∷ rest
  last : last_from p rest ≡ last_from p ps

tight-of : (p : Coordinates) (ps : List Coordinates) → IsTightOf p ps (tight (p ∷ ps))
tight-of p [] = record { rest = []; is = refl; last = refl }
tight-of p (q ∷ qs) = step (tight-of q qs)
  where
    step : IsTightOf q qs (tight (q ∷ qs)) → IsTightOf p (q ∷ qs) (tight (p ∷ q ∷ qs))
    step t = by_test (is_same p q) refl
      where
        by_test : (c : Bool) → is_same p q ≡ c → IsTightOf p (q ∷ qs) (tight (p ∷ q ∷ qs))
        by_test true e =
            record {
              rest = t.rest;
              is = ap (before_tight p) t.is ∙ ap (λ c. if c then q ∷ t.rest else p ∷ q ∷ t.rest) e ∙ ap (λ r. r ∷ t.rest) (sym (same-is p q e));
              last = ap (λ r. last_from r t.rest) (same-is p q e) ∙ t.last;
            }
        by_test false e =
            record {
              rest = q ∷ t.rest;
              is = ap (before_tight p) t.is ∙ ap (λ c. if c then q ∷ t.rest else p ∷ q ∷ t.rest) e;
              last = t.last;
            }

chain-from : (p : Coordinates) (ps : List Coordinates) → IsChain p (edges_from p ps) (last_from p ps)
chain-from p [] = refl
chain-from p (q ∷ qs) = (refl, chain-from q qs)

pub ring-chain : (ring : List Coordinates) → is_closed ring ≡ true → IsClosedChain (edges_of ring)
ring-chain [] h = (record { x = pos 0; y = pos 0 }, refl)
ring-chain (p ∷ ps) h =
    let t = tight-of p ps in (
      p,
      subst (λ ts. IsChain p (edges_between ts) p) (sym t.is)
          (subst (IsChain p (edges_from p t.rest)) (t.last ∙ sym (same-is p (last_from p ps) h)) (chain-from p t.rest)),
    )

-- ---- several of them
balanced-append : (es fs : List Line) (p : Point) → IsBalanced es p → IsBalanced fs p → IsBalanced (es ++ fs) p
balanced-append es fs p h k =
    let s = λ (gs : List Line). is_odd (count_by (λ e. edge_above e p) gs) in
    let t = λ (gs : List Line). is_odd (count_by (λ e. edge_above_left e p) gs) in
    ap (λ b. differ b (t (es ++ fs))) (odd-append (λ e. edge_above e p) es fs)
    ∙ ap (λ b. differ (differ (s es) (s fs)) b) (odd-append (λ e. edge_above_left e p) es fs)
    ∙ exchange (s es) (s fs) (t es) (t fs)
    ∙ ap (λ b. differ b (differ (s fs) (t fs))) h
    ∙ ap (λ b. differ (is_odd (count_by (λ e. straddles e p) es)) b) k
    ∙ sym (odd-append (λ e. straddles e p) es fs)

pub balanced-rings : (rings : List (List Coordinates)) (p : Point) → IsPoint p → AllByRecursion (λ ring. is_closed ring ≡ true) rings → IsBalanced (flat_map edges_of rings) p
balanced-rings [] p o h = refl
balanced-rings (r ∷ rs) p o h =
    balanced-append (edges_of r) (flat_map edges_of rs) p (balanced-chain (edges_of r) p (ring-chain r h.0) o) (balanced-rings rs p o h.1)
