-- What a walk over the runs of two geometries finds is so of the edges of the two.
use Rattle.std.proofs.Common.{◌≡◌, refl, ap, sym, ◌∙◌, subst, ℕ, ◌+◌, ◌<◌, arith, Bool, true, false, cond, ◌⊎◌, inl, inr}
use Rattle.std.proofs.Common.{List, [], ◌∷◌, ◌++◌, length, take, map, get_or, length-append}
use Rattle.std.specs.Prelude.{IsFalse, IsTrue, None, Option, Some, not, ◌&&◌}
use Rattle.std.specs.List.{AllByRecursion, Contains}
use Rattle.std.specs.List.Sorted.{IsPermutation}
use Rattle.std.proofs.lemmas.Bool.{and_from, and_parts, false≢true}
use Rattle.std.proofs.lemmas.List.Folds.{Any-from_list_any, list_any-from_Any}
use Rattle.std.proofs.lemmas.List.Elements.{All-contains, All-contains_itself, All-from_recursion, All-map, All-more, All-push, All-weaker}
use Rattle.std.proofs.lemmas.List.Elements.{Contains-append_cases, Contains-append_left, recursion_from_All}
use Rattle.std.proofs.lemmas.List.Sorted.{Contains-permutation, IsPermutation-sym}
use Rattle.sf_grid.specs.Plane.{Coordinates, grid_point}
use Rattle.sf_grid.specs.Edge.{Edge as Line, edge_between, on_edge}
use Rattle.sf_grid.specs.Sharing.{comes_before}
use Rattle.sf_geometry.specs.declared.geometry.Geometry.{Geometry}
use Rattle.sf_geometry.specs.Parts.{edge_of, edges_of}
use Rattle.sf_along.specs.declared.run.Run.{Run}
use Rattle.sf_along.specs.Covers.{AreCovered, IsEnd, IsLeft, LieAlong, edge_of_run, has_cover, has_edge, is_in, lies_in_one}
use Rattle.sf_along.specs.Runs.{run_of, runs_of}
use Rattle.sf_along.proofs.PairLaws.{ComesFrom, forward, image, image-has, same-points}

-- ---- the walk
-- the run that ends last, if there is one, is one of the second geometry
abbrev pub IsOfSecond : List Run → Option Run → Type 0
IsOfSecond runs None = Unit {0}
IsOfSecond runs (Some s) = Contains runs s × IsFalse s.is_first

-- it has all of r, so r has a cover
pub in-last : (runs : List Run) (last : Option Run) (r : Run) → IsOfSecond runs last → is_in last r ≡ true → has_cover runs r ≡ true
in-last runs None r h t = absurd (false≢true t)
in-last runs (Some s) r h t =
    list_any-from_Any (λ x. not x.is_first && has_edge (edge_of_run x) (edge_of_run r)) runs
    (h.0.0, s, h.0.1, h.0.2, and_from (not s.is_first) (has_edge (edge_of_run s) (edge_of_run r)) (ap not h.1) t)

-- of the one before and a further one of the second geometry, one is kept
pub kept-last : (runs : List Run) (last : Option Run) (r s : Run) → Contains runs r → IsFalse r.is_first → (s ≡ r) ⊎ (last ≡ Some s)
    → IsOfSecond runs last → IsOfSecond runs (Some s)
kept-last runs last r s i second (inl e) h = subst (λ t. IsOfSecond runs (Some t)) (sym e) (i, second)
kept-last runs last r s i second (inr e) h = subst (IsOfSecond runs) e h

module _ (runs : List Run) (n : ℕ) (r : Run) (within : n < length runs) (is : r ≡ get_or runs n r) where
  pub among-runs : Contains runs r
  among-runs = (n, within, sym is)

  -- one more run that has a cover, if it is of the first geometry
  pub covered-more : (IsTrue r.is_first → IsTrue (has_cover runs r)) → AreCovered runs (take n runs) → AreCovered runs (take (n + 1) runs)
  covered-more covered h =
      let P = λ (s : Run). IsTrue s.is_first → IsTrue (has_cover runs s) in
      recursion_from_All P (take (n + 1) runs) (All-more P runs n r within (All-from_recursion P (take n runs) h) (subst P is covered))

  -- and one more end
  pub left-more : (ends : List Coordinates) → IsTrue r.is_first → AllByRecursion (IsLeft runs) ends → AllByRecursion (IsLeft runs) (ends ++ r.left ∷ [])
  left-more ends first h =
      recursion_from_All (IsLeft runs) (ends ++ r.left ∷ [])
      (All-push (IsLeft runs) ends r.left (All-from_recursion (IsLeft runs) ends h) (record { run = r; among = among-runs; first = first; at = refl }))

-- what was pushed to is not empty
pub no-more : {X : Type 0} (xs : List X) (x : X) → xs ++ x ∷ [] ≡ [] → ⊥
no-more xs x e = absurd (omega (arith, simp length-append at (ap length e)))

-- ---- edges
-- an edge that has the one from the earlier to the later of two points has the one between the two
has-turned : (f : Line) (a b : Coordinates) (t : Bool) → has_edge f (edge_between (cond t b a) (cond t a b)) ≡ true → has_edge f (edge_between a b) ≡ true
has-turned f a b true h =
    let both = and_parts (on_edge f (grid_point b)) (on_edge f (grid_point a)) h in
    and_from (on_edge f (grid_point a)) (on_edge f (grid_point b)) both.1 both.0
has-turned f a b false h = h

-- the same of the edges of two pairs
has-of-pairs : (q p : Coordinates × Coordinates) → has_edge (forward q) (forward p) ≡ true → has_edge (edge_of q) (edge_of p) ≡ true
has-of-pairs q p h =
    let turned = has-turned (forward q) p.0 p.1 (comes_before p.1 p.0) h in
    let both = and_parts (on_edge (forward q) (grid_point p.0)) (on_edge (forward q) (grid_point p.1)) turned in
    let same = λ (v : Coordinates). same-points q.0 q.1 (grid_point v) (comes_before q.1 q.0) in
    and_from (on_edge (edge_of q) (grid_point p.0)) (on_edge (edge_of q) (grid_point p.1)) (sym (same p.0) ∙ both.0) (sym (same p.1) ∙ both.1)

-- the earlier of two points is one of them
earlier-is : (a b : Coordinates) (t : Bool) → (a ≡ cond t b a) ⊎ (b ≡ cond t b a)
earlier-is a b true = inr refl
earlier-is a b false = inl refl

-- ---- the runs of two geometries
module _ (first second : List (Coordinates × Coordinates)) (runs : List Run) (permuted : IsPermutation (runs_of first second) runs) where
  -- each run comes from a pair of one of the lists
  from-runs : (r : Run) → Contains runs r → ComesFrom (run_of true) first r ⊎ ComesFrom (run_of false) second r
  from-runs r c =
      let back = Contains-permutation runs (runs_of first second) r (IsPermutation-sym (runs_of first second) runs permuted) c in
      elim (Contains-append_cases (map (run_of true) first) (map (run_of false) second) r back) [
        | inl i ↦ inl (image (run_of true) first r i)
        | inr i ↦ inr (image (run_of false) second r i)
      ]

  -- those with the mark of the first geometry are of its edges, and the others of the second one's
  from-first : (r : Run) → Contains runs r → r.is_first ≡ true → ComesFrom (run_of true) first r
  from-first r c t = by_list (from-runs r c)
    where
      by_list : ComesFrom (run_of true) first r ⊎ ComesFrom (run_of false) second r → ComesFrom (run_of true) first r
      by_list (inl i) = i
      by_list (inr i) = absurd (false≢true (ap (λ (s : Run). s.is_first) i.is ∙ t))

  from-second : (r : Run) → Contains runs r → not r.is_first ≡ true → ComesFrom (run_of false) second r
  from-second r c t = by_list (from-runs r c)
    where
      by_list : ComesFrom (run_of true) first r ⊎ ComesFrom (run_of false) second r → ComesFrom (run_of false) second r
      by_list (inl i) = absurd (false≢true (ap (λ (s : Run). not s.is_first) i.is ∙ t))
      by_list (inr i) = i

  module _ (a b : Geometry) (are_first : map edge_of first ≡ edges_of a) (are_second : map edge_of second ≡ edges_of b) where
    -- an edge of the first geometry lies in the edge whose run covers its own
    lies-in : (p : Coordinates × Coordinates) (s : Run) → Contains runs s → not s.is_first ≡ true → has_edge (edge_of_run s) (forward p) ≡ true
        → lies_in_one (edges_of b) (edge_of p) ≡ true
    lies-in p s c other t =
        let from = from-second s c other in
        let q = from.from in
        let i = subst (λ es. Contains es (edge_of q)) are_second (image-has edge_of second q from.among) in
        list_any-from_Any (λ f. has_edge f (edge_of p)) (edges_of b)
        (i.0, edge_of q, i.1, i.2, has-of-pairs q p (ap (λ r. has_edge (edge_of_run r) (forward p)) from.is ∙ t))

    -- so each edge does whose run is covered
    each-lies : AreCovered runs runs → (p : Coordinates × Coordinates) → Contains first p → lies_in_one (edges_of b) (edge_of p) ≡ true
    each-lies covered p i =
        let r = run_of true p in
        let P = λ (s : Run). IsTrue s.is_first → IsTrue (has_cover runs s) in
        let c = Contains-permutation (runs_of first second) runs r permuted
        (Contains-append_left (map (run_of true) first) (map (run_of false) second) r (image-has (run_of true) first p i)) in
        let cover = All-contains P runs r (All-from_recursion P runs covered) c refl in
        let any = Any-from_list_any (λ s. not s.is_first && has_edge (edge_of_run s) (edge_of_run r)) runs cover in
        let both = and_parts (not any.1.is_first) (has_edge (edge_of_run any.1) (edge_of_run r)) any.4 in
        lies-in p any.1 (any.0, any.2, any.3) both.0 both.1

    pub lie-along : AreCovered runs runs → LieAlong a b
    lie-along covered =
        let P = λ (e : Line). lies_in_one (edges_of b) e ≡ true in
        subst (AllByRecursion P) are_first
        (recursion_from_All P (map edge_of first) (All-map P edge_of first (λ k d l. each-lies covered (get_or first k d) (All-contains_itself first k d l))))

    -- the earlier end of a run of the first geometry is an end of its edge
    left-is-end : (p : Coordinates) → IsLeft runs p → IsEnd a p
    left-is-end p h =
        let from = from-first h.run h.among h.first in
        let q = from.from in
        record {
          edge = edge_of q;
          of = subst (λ es. Contains es (edge_of q)) are_first (image-has edge_of first q from.among);
          at =
              subst (λ v. (q.0 ≡ v) ⊎ (q.1 ≡ v)) (ap (λ (r : Run). r.left) from.is ∙ h.at)
              (earlier-is q.0 q.1 (comes_before q.1 q.0));
        }

    pub are-ends : (ends : List Coordinates) → AllByRecursion (IsLeft runs) ends → AllByRecursion (IsEnd a) ends
    are-ends ends h = recursion_from_All (IsEnd a) ends (All-weaker (IsLeft runs) (IsEnd a) left-is-end ends (All-from_recursion (IsLeft runs) ends h))
