-- Two of the sorted runs of two geometries go together just where an edge of the one runs along an edge of the other.
use Rattle.std.proofs.Common.{◌≡◌, refl, ap, sym, ◌∙◌, subst, ◌<◌, Bool, true, false, cond, ◌⊎◌, inl, inr, List, [], ◌∷◌, map, get_or}
use Rattle.std.specs.Prelude.{◌↔◌}
use Rattle.std.specs.List.{All, Contains}
use Rattle.std.specs.List.Sorted.{IsPermutation}
use Rattle.std.proofs.lemmas.Bool.{false≢true}
use Rattle.std.proofs.lemmas.List.{get_or-map, length-map}
use Rattle.std.proofs.lemmas.List.Elements.{All-contains, All-contains_itself, All-map, Contains-append_cases, Contains-append_left, Contains-append_right}
use Rattle.std.proofs.lemmas.List.Sorted.{Contains-permutation, IsPermutation-sym}
use Rattle.sf_grid.specs.Plane.{Coordinates, Point as PlanePoint}
use Rattle.sf_grid.specs.Edge.{Edge as Line, IsOnEdge, edge_between, on_edge}
use Rattle.sf_grid.specs.Sharing.{comes_before, earlier_of, later_of}
use Rattle.sf_grid.proofs.CallerLemmas.{on_edge-swap}
use Rattle.sf_geometry.specs.declared.geometry.Geometry.{Geometry}
use Rattle.sf_geometry.specs.Parts.{edge_of, edges_of}
use Rattle.sf_plane.specs.Laws.{ShareTwoPoints}
use Rattle.sf_edge_tree.specs.Meeting.{ends_of_edge}
use Rattle.sf_along.specs.declared.run.Run.{Run}
use Rattle.sf_along.specs.Along.{RunAlong}
use Rattle.sf_along.specs.Marks.{KeepPairs}
use Rattle.sf_along.specs.Runs.{GoTogether, HasPartner, HavePair, IsRun, run_of, runs_of}
use Rattle.sf_along.specs.Near.{near_edges}
use Rattle.sf_along.proofs.NearLaws.{IsAmong, among, contained, near-from, near-has}

-- ---- edges that have the same points
abbrev HavePointsOf : Line → Line → Type 0
HavePointsOf e f = (p : PlanePoint) → IsOnEdge e p → IsOnEdge f p

share-moved : (e f e' f' : Line) → HavePointsOf e e' → HavePointsOf f f' → ShareTwoPoints e f → ShareTwoPoints e' f'
share-moved e f e' f' h k s = record {
  first = s.first;
  second = s.second;
  is_first = s.is_first;
  is_second = s.is_second;
  differ = s.differ;
  first_on_both = (h s.first s.first_on_both.0, k s.first s.first_on_both.1);
  second_on_both = (h s.second s.second_on_both.0, k s.second s.second_on_both.1);
}

share-swapped : (e f : Line) → ShareTwoPoints e f → ShareTwoPoints f e
share-swapped e f s = record {
  first = s.first;
  second = s.second;
  is_first = s.is_first;
  is_second = s.is_second;
  differ = s.differ;
  first_on_both = (s.first_on_both.1, s.first_on_both.0);
  second_on_both = (s.second_on_both.1, s.second_on_both.0);
}

-- the edge between two points, and the one from the earlier to the later
abbrev pub forward : Coordinates × Coordinates → Line
forward pair = edge_between (earlier_of pair.0 pair.1) (later_of pair.0 pair.1)

pub same-points : (a b : Coordinates) (p : PlanePoint) (t : Bool) → on_edge (edge_between (cond t b a) (cond t a b)) p ≡ on_edge (edge_between a b) p
same-points a b p true = on_edge-swap b a p
same-points a b p false = refl

forward-has : (pair : Coordinates × Coordinates) → HavePointsOf (edge_of pair) (forward pair)
forward-has pair p h = same-points pair.0 pair.1 p (comes_before pair.1 pair.0) ∙ h

forward-back : (pair : Coordinates × Coordinates) → HavePointsOf (forward pair) (edge_of pair)
forward-back pair p h = sym (same-points pair.0 pair.1 p (comes_before pair.1 pair.0)) ∙ h

-- ---- members of lists
-- where a member of a list's image comes from
pub record ComesFrom {X Y : Type 0} (f : X → Y) (xs : List X) (y : Y) : Type 0 where
  pub from : X
  pub among : Contains xs from
  pub is : f from ≡ y

pub image : {X Y : Type 0} (f : X → Y) (xs : List X) (y : Y) → Contains (map f xs) y → ComesFrom f xs y
image f xs y c =
    All-contains (ComesFrom f xs) (map f xs) y (All-map (ComesFrom f xs) f xs (λ k d l. record { from = get_or xs k d; among = All-contains_itself xs k d l; is = refl })) c

pub image-has : {X Y : Type 0} (f : X → Y) (xs : List X) (x : X) → Contains xs x → Contains (map f xs) (f x)
image-has f xs x c = (c.0, subst (λ n. c.0 < n) (sym (length-map xs f)) c.1, get_or-map f xs c.0 x (f x) c.1 ∙ ap f c.2)

-- ---- two runs that go together
together-swapped : (r s : Run) → GoTogether r s → GoTogether s r
together-swapped r s g = record {
  differ = λ e. g.differ (sym e);
  share = share-swapped (edge_between r.left r.right) (edge_between s.left s.right) g.share;
}

record Pair (runs : List Run) : Type 0 where
  first : Run
  second : Run
  first_among : IsAmong runs first
  second_among : IsAmong runs second
  together : GoTogether first second

partner : (r : Run) (runs : List Run) → HasPartner r runs → Pair (r ∷ runs)
partner r [] h = absurd h
partner r (s ∷ ss) (inl g) = record { first = r; second = s; first_among = inl refl; second_among = inr (inl refl); together = g }
partner r (s ∷ ss) (inr h) = behind (partner r ss h)
  where
    later : (x : Run) → IsAmong (r ∷ ss) x → IsAmong (r ∷ s ∷ ss) x
    later x (inl e) = inl e
    later x (inr i) = inr (inr i)

    behind : Pair (r ∷ ss) → Pair (r ∷ s ∷ ss)
    behind p = record { first = p.first; second = p.second; first_among = later p.first p.first_among; second_among = later p.second p.second_among; together = p.together }

pair : (runs : List Run) → HavePair runs → Pair runs
pair [] h = absurd h
pair (r ∷ rs) (inl h) = partner r rs h
pair (r ∷ rs) (inr h) = let p = pair rs h in record { first = p.first; second = p.second; first_among = inr p.first_among; second_among = inr p.second_among; together = p.together }

has-partner : (r s : Run) (runs : List Run) → IsAmong runs s → GoTogether r s → HasPartner r runs
has-partner r s [] i g = absurd i
has-partner r s (x ∷ xs) (inl e) g = inl (subst (GoTogether r) (sym e) g)
has-partner r s (x ∷ xs) (inr i) g = inr (has-partner r s xs i g)

have-pair : (r s : Run) (runs : List Run) → IsAmong runs r → IsAmong runs s → GoTogether r s → HavePair runs
have-pair r s [] i j g = absurd i
have-pair r s (x ∷ xs) (inl e) (inl f) g = absurd (g.differ (ap (λ (t : Run). t.is_first) (sym e ∙ f)))
have-pair r s (x ∷ xs) (inl e) (inr j) g = inl (has-partner x s xs j (subst (λ t. GoTogether t s) (sym e) g))
have-pair r s (x ∷ xs) (inr i) (inl f) g = inl (has-partner x r xs i (subst (λ t. GoTogether t r) (sym f) (together-swapped r s g)))
have-pair r s (x ∷ xs) (inr i) (inr j) g = inr (have-pair r s xs i j g)

-- ---- runs of two geometries
edges-back : (es : List Line) → map edge_of (map ends_of_edge es) ≡ es
edges-back [] = refl
edges-back (e ∷ es) = ap (λ fs. e ∷ fs) (edges-back es)

-- the runs of the edges of each geometry that are near the other one
abbrev pub near_runs : Geometry → Geometry → List Run
near_runs a b = runs_of (near_edges a b) (near_edges b a)

module _ (a b : Geometry) where
  abbrev first : List (Coordinates × Coordinates)
  first = map ends_of_edge (edges_of a)

  abbrev second : List (Coordinates × Coordinates)
  second = map ends_of_edge (edges_of b)

  are_first : map edge_of first ≡ edges_of a
  are_first = edges-back (edges_of a)

  are_second : map edge_of second ≡ edges_of b
  are_second = edges-back (edges_of b)

  along : (p q : Coordinates × Coordinates) → Contains first p → Contains second q → ShareTwoPoints (forward p) (forward q) → RunAlong a b
  along p q i j s = record {
    first = edge_of p;
    second = edge_of q;
    of_first = subst (λ es. Contains es (edge_of p)) are_first (image-has edge_of first p i);
    of_second = subst (λ es. Contains es (edge_of q)) are_second (image-has edge_of second q j);
    share = share-moved (forward p) (forward q) (edge_of p) (edge_of q) (forward-back p) (forward-back q) s;
  }

  along-from : (r s : Run) → ComesFrom (run_of true) first r → ComesFrom (run_of false) second s → GoTogether r s → RunAlong a b
  along-from r s i j g =
      let h = subst (λ t. GoTogether t s) (sym i.is) g in
      along i.from j.from i.among j.among (subst (λ t. GoTogether (run_of true i.from) t) (sym j.is) h).share

  both-of-one : (is_first : Bool) (pairs : List (Coordinates × Coordinates)) (r s : Run) → ComesFrom (run_of is_first) pairs r → ComesFrom (run_of is_first) pairs s → GoTogether r s → ⊥
  both-of-one is_first pairs r s i j g = g.differ (ap (λ (t : Run). t.is_first) (sym i.is) ∙ ap (λ (t : Run). t.is_first) j.is)

  -- the runs are those of edges of the lists
  from-near : (is_first : Bool) (f g : Geometry) (r : Run) → Contains (map (run_of is_first) (near_edges f g)) r → ComesFrom (run_of is_first) (map ends_of_edge (edges_of f)) r
  from-near is_first f g r c =
      let i = image (run_of is_first) (near_edges f g) r c in
      record { from = i.from; among = near-from f g i.from i.among; is = i.is }

  from-runs : (r : Run) → Contains (near_runs a b) r → ComesFrom (run_of true) first r ⊎ ComesFrom (run_of false) second r
  from-runs r c =
      elim (Contains-append_cases (map (run_of true) (near_edges a b)) (map (run_of false) (near_edges b a)) r c) [
        | inl i ↦ inl (from-near true a b r i)
        | inr i ↦ inr (from-near false b a r i)
      ]

  told : (r s : Run) → Contains (near_runs a b) r → Contains (near_runs a b) s → GoTogether r s → RunAlong a b
  told r s i j g = by_lists (from-runs r i) (from-runs s j)
    where
      by_lists : ComesFrom (run_of true) first r ⊎ ComesFrom (run_of false) second r → ComesFrom (run_of true) first s ⊎ ComesFrom (run_of false) second s → RunAlong a b
      by_lists (inl k) (inl l) = absurd (both-of-one true first r s k l g)
      by_lists (inl k) (inr l) = along-from r s k l g
      by_lists (inr k) (inl l) = along-from s r l k (together-swapped r s g)
      by_lists (inr k) (inr l) = absurd (both-of-one false second r s k l g)

  -- edges that share two points are near, so their runs are there
  module _ (p q : Coordinates × Coordinates) (i : Contains first p) (j : Contains second q) (s : ShareTwoPoints (edge_of p) (edge_of q)) where
    first-run : Contains (near_runs a b) (run_of true p)
    first-run =
        Contains-append_left (map (run_of true) (near_edges a b)) (map (run_of false) (near_edges b a)) (run_of true p)
        (image-has (run_of true) (near_edges a b) p
        (near-has a b p q s.first s.is_first s.first_on_both.0 s.first_on_both.1 (subst (λ es. Contains es (edge_of q)) are_second (image-has edge_of second q j)) i))

    second-run : Contains (near_runs a b) (run_of false q)
    second-run =
        Contains-append_right (map (run_of true) (near_edges a b)) (map (run_of false) (near_edges b a)) (run_of false q)
        (image-has (run_of false) (near_edges b a) q
        (near-has b a q p s.first s.is_first s.first_on_both.1 s.first_on_both.0 (subst (λ es. Contains es (edge_of p)) are_first (image-has edge_of first p i)) j))

    together : GoTogether (run_of true p) (run_of false q)
    together = record {
      differ = λ e. false≢true (sym e);
      share = share-moved (edge_of p) (edge_of q) (forward p) (forward q) (forward-has p) (forward-has q) s;
    }

  pub pair-tells : (kept runs : List Run) → All IsRun (near_runs a b) → KeepPairs (near_runs a b) kept → IsPermutation kept runs → HavePair runs ↔ RunAlong a b
  pair-tells kept runs all pairs permuted = (
    λ h.
        let p = pair runs h in
        let back = λ (r : Run) (i : IsAmong runs r). pairs.from r (Contains-permutation runs kept r (IsPermutation-sym kept runs permuted) (contained runs r i)) in
        told p.first p.second (back p.first p.first_among) (back p.second p.second_among) p.together,
    λ h.
        let p = image edge_of first h.first (subst (λ es. Contains es h.first) (sym are_first) h.of_first) in
        let q = image edge_of second h.second (subst (λ es. Contains es h.second) (sym are_second) h.of_second) in
        let s = subst (λ e. ShareTwoPoints e (edge_of q.from)) (sym p.is) (subst (ShareTwoPoints h.first) (sym q.is) h.share) in
        let r = run_of true p.from in
        let t = run_of false q.from in
        let i = first-run p.from q.from p.among q.among s in
        let j = second-run p.from q.from p.among q.among s in
        let g = together p.from q.from p.among q.among s in
        let both = pairs.has r t (All-contains IsRun (near_runs a b) r all i) (All-contains IsRun (near_runs a b) t all j) i j g in
        have-pair r t runs (among runs r (Contains-permutation kept runs r permuted both.0)) (among runs t (Contains-permutation kept runs t permuted both.1)) g,
  )
