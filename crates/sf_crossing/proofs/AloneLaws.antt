-- Two edges that cross at a point that no other edge has.
use Rattle.std.proofs.Common.{◌≡◌, ◌≢◌, ℕ, ◌+◌, ◌<◌, ◌≤◌, ◌⊎◌, inl, inr, arith, ap, sym, ◌∙◌, subst, true, false, true≢false, List, map, length, get_or, lit<, ℤ, pos, ◌+ℤ◌, ◌*ℤ◌}
use Rattle.std.specs.List.{Contains}
use Rattle.std.specs.Ordering.{int_eq}
use Rattle.std.proofs.lemmas.Bool.{and_parts, cases_lt}
use Rattle.std.proofs.lemmas.Int.{ints}
use Rattle.std.proofs.lemmas.List.Elements.{Contains-get_or}
use Rattle.std.proofs.lemmas.List.{get_or-map, length-map}
use Rattle.sf_grid.specs.Plane.{Coordinates, IsPoint, IsSamePoint, Point, grid_point, same_point}
use Rattle.sf_grid.specs.Edge.{Edge, IsOnEdge, edge_between}
use Rattle.sf_grid.specs.Sharing.{IsOnBoth, IsSharing}
use Rattle.sf_grid.specs.declared.meet.Meet.{Meet}
use Rattle.sf_grid.specs.declared.meet.Meet.TheVariants.{Apart, At, Along}
use Rattle.sf_grid.proofs.CallerLemmas.{differs_from_before, eq_from_test, on_edge-mean, on_edge-same_point, on_edge-swap, same_coordinates, same_point_is_equivalence}
use Rattle.sf_geometry.specs.Parts.{edge_of}
use Rattle.sf_edge_tree.specs.Boxes.{edge_at}
use Rattle.sf_edge_tree.specs.declared.outcome.Outcome.TheVariants.{Found}
use Rattle.sf_edge_tree.specs.declared.outcome.Outcome.{Outcome}
use Rattle.sf_edge_tree.specs.Searches.{Answers, AreOneOfEach, HasPair}
use Rattle.sf_edge_tree.proofs.SearchLaws.{edge-read}
use Rattle.sf_crossing.specs.Crossing.{CrossAlone, HaveCrossing, IsAlone, MayHave, RunAlong, do_cross}
use Rattle.sf_crossing.proofs.CountLaws.{count-one}

-- ---- an edge beside a point of another
-- the one point that two edges share is on both
pub on-both : (e f : Edge) (q : Point) → IsSharing e f (At q) → IsOnBoth e f q
on-both e f q h = (h.1 q h.0).1 (same_point_is_equivalence.reflexive q)

-- a piece that two edges share has two points
is_grid : (v : Coordinates) → IsPoint (grid_point v)
is_grid v = record { positive = lit< tt }

start_on : (a b : Coordinates) → IsOnEdge (edge_between a b) (grid_point a)
start_on a b =
    on_edge-mean (edge_between a b) (grid_point a) (pos 1) (pos 0)
    (record { first = omega (arith, ints); second = omega (arith, ints); total = omega (arith, ints); x = weighed a.x b.x; y = weighed a.y b.y })
  where
    weighed : (s t : ℤ) → (pos 1 +ℤ pos 0) *ℤ s ≡ (pos 1 *ℤ s +ℤ pos 0 *ℤ t) *ℤ pos 1
    weighed s t = omega (arith, ints)

pub low-on : (e f : Edge) (low high : Coordinates) → IsSharing e f (Along low high) → IsOnBoth e f (grid_point low)
low-on e f low high h = (h.1 (grid_point low) (is_grid low)).1 (start_on low high)

high-on : (e f : Edge) (low high : Coordinates) → IsSharing e f (Along low high) → IsOnBoth e f (grid_point high)
high-on e f low high h = (h.1 (grid_point high) (is_grid high)).1 (on_edge-swap low high (grid_point high) ∙ start_on high low)

same-place : (u v : Coordinates) → same_point (grid_point u) (grid_point v) ≡ true → u ≡ v
same-place u v h =
    let parts = and_parts (int_eq (u.x *ℤ pos 1) (v.x *ℤ pos 1)) (int_eq (u.y *ℤ pos 1) (v.y *ℤ pos 1)) h in
    same_coordinates u v (once u.x v.x (eq_from_test (u.x *ℤ pos 1) (v.x *ℤ pos 1) parts.0)) (once u.y v.y (eq_from_test (u.y *ℤ pos 1) (v.y *ℤ pos 1) parts.1))
  where
    once : (s t : ℤ) → s *ℤ pos 1 ≡ t *ℤ pos 1 → s ≡ t
    once s t l = omega (arith, ints)

pub apart-along : (e f : Edge) → IsSharing e f Apart → ¬ (RunAlong e f)
apart-along e f h r = h (grid_point r.0) (is_grid r.0) (low-on e f r.0 r.1 r.2)

pub at-along : (e f : Edge) (q : Point) → IsSharing e f (At q) → ¬ (RunAlong e f)
at-along e f q h r =
    differs_from_before r.0 r.1 r.2.0
    (same-place r.0 r.1
    (same_point_is_equivalence.transitive (grid_point r.0) q (grid_point r.1) h.0
    ((h.1 (grid_point r.0) (is_grid r.0)).0 (low-on e f r.0 r.1 r.2))
    (same_point_is_equivalence.symmetric (grid_point r.1) q ((h.1 (grid_point r.1) (is_grid r.1)).0 (high-on e f r.0 r.1 r.2)))))

-- edges that share none
pub none-have : (e line : Edge) (p : Point) → IsSharing e line Apart → IsPoint p → IsOnEdge line p → ¬ (MayHave e line p)
none-have e line p h i on (inl has) = h p i (has, on)
none-have e line p h i on (inr along) = apart-along e line h along

-- edges that share one point
pub has-shared : (e line : Edge) (p q : Point) → IsSharing e line (At q) → IsPoint p → IsOnEdge line p → MayHave e line p → same_point q p ≡ true
has-shared e line p q h i on (inl has) = same_point_is_equivalence.symmetric p q ((h.1 p i).0 (has, on))
has-shared e line p q h i on (inr along) = absurd (at-along e line q h along)

pub shared-has : (e line : Edge) (p q : Point) → IsSharing e line (At q) → IsPoint p → same_point q p ≡ true → MayHave e line p
shared-has e line p q h i same = inl (on_edge-same_point e p q i h.0 (same_point_is_equivalence.symmetric q p same) (on-both e line q h).0)

-- ---- edges of a list, one after another
pub alone-more : (es : List (Coordinates × Coordinates)) (i n : ℕ) (line : Edge) (p : Point) →
    ((k : ℕ) → k < n → k ≢ i → ¬ (MayHave (edge_of (edge_at es k)) line p)) → (n ≢ i → ¬ (MayHave (edge_of (edge_at es n)) line p)) →
    (k : ℕ) → k < n + 1 → k ≢ i → ¬ (MayHave (edge_of (edge_at es k)) line p)
alone-more es i n line p before here k l other = by (cases_lt k n)
  where
    by : (k < n) ⊎ (n ≤ k) → ¬ (MayHave (edge_of (edge_at es k)) line p)
    by (inl m) = before k m other
    by (inr m) =
        let at : n ≡ k = omega (arith, m, l) in
        subst (λ j. ¬ (MayHave (edge_of (edge_at es j)) line p)) at (here (λ e. other (sym at ∙ e)))

-- the same point of the plane, written otherwise
alone-same : (es : List (Coordinates × Coordinates)) (i : ℕ) (line : Edge) (p q : Point) → IsPoint p → IsPoint q → IsSamePoint p q → IsAlone es i line p → IsAlone es i line q
alone-same es i line p q a b same h k l other = moved
  where
    moved : ¬ (MayHave (edge_of (edge_at es k)) line q)
    moved (inl on) = h k l other (inl (on_edge-same_point (edge_of (edge_at es k)) p q a b same on))
    moved (inr two) = h k l other (inr two)

-- ---- two edges that were read, by their numbers
pub record AreRead (es fs : List (Coordinates × Coordinates)) (i j : ℕ) (edge other : Coordinates × Coordinates) : Type 0 where
  pub first : edge ≡ edge_at es i
  pub second : other ≡ edge_at fs j

pub both-read : (es fs : List (Coordinates × Coordinates)) (i j : ℕ) (edge other : Coordinates × Coordinates) → i < length es → j < length fs → edge ≡ get_or es i edge → other ≡ get_or fs j other → AreRead es fs i j edge other
both-read es fs i j edge other k l is that = record { first = edge-read es i edge k is; second = edge-read fs j other l that }

module _ (es fs : List (Coordinates × Coordinates)) (i j : ℕ) (edge other : Coordinates × Coordinates) (read : AreRead es fs i j edge other) where
  shared : (m : Meet) → IsSharing (edge_of edge) (edge_of other) m → IsSharing (edge_of (edge_at es i)) (edge_of (edge_at fs j)) m
  shared m h =
      subst (λ o. IsSharing (edge_of (edge_at es i)) (edge_of o) m) read.second
      (subst (λ e. IsSharing (edge_of e) (edge_of other) m) read.first h)

  crossing-is : do_cross (edge_of edge) (edge_of other) ≡ do_cross (edge_of (edge_at es i)) (edge_of (edge_at fs j))
  crossing-is = ap (λ e. do_cross (edge_of e) (edge_of other)) read.first ∙ ap (λ o. do_cross (edge_of (edge_at es i)) (edge_of o)) read.second

  -- that don't cross, share no point or more than one
  pub beside : do_cross (edge_of edge) (edge_of other) ≡ false → ¬ (CrossAlone es fs i j)
  beside h c = true≢false (sym c.crossing ∙ sym crossing-is ∙ h)

  pub crossed-apart : IsSharing (edge_of edge) (edge_of other) Apart → ¬ (CrossAlone es fs i j)
  crossed-apart h c = shared Apart h c.point c.is_point (c.on_first, c.on_second)

  pub crossed-along : (low high : Coordinates) → IsSharing (edge_of edge) (edge_of other) (Along low high) → ¬ (CrossAlone es fs i j)
  crossed-along low high h c = c.one (low, high, shared (Along low high) h)

  -- that cross at a point
  module _ (q : Point) (h : IsSharing (edge_of edge) (edge_of other) (At q)) where
    pub crossed-from : do_cross (edge_of edge) (edge_of other) ≡ true → IsAlone es i (edge_of other) q → IsAlone fs j (edge_of edge) q → CrossAlone es fs i j
    crossed-from crossing first second =
        let both : IsOnBoth (edge_of (edge_at es i)) (edge_of (edge_at fs j)) q = on-both (edge_of (edge_at es i)) (edge_of (edge_at fs j)) q (shared (At q) h) in
        record {
          point = q;
          is_point = h.0;
          on_first = both.0;
          on_second = both.1;
          one = at-along (edge_of (edge_at es i)) (edge_of (edge_at fs j)) q (shared (At q) h);
          crossing = sym crossing-is ∙ crossing;
          first_alone = subst (λ o. IsAlone es i (edge_of o) q) read.second first;
          second_alone = subst (λ e. IsAlone fs j (edge_of e) q) read.first second;
        }

    same-as : (c : CrossAlone es fs i j) → IsSamePoint c.point q
    same-as c = ((shared (At q) h).1 c.point c.is_point).0 (c.on_first, c.on_second)

    pub first-alone : CrossAlone es fs i j → IsAlone es i (edge_of other) q
    first-alone c =
        subst (λ o. IsAlone es i (edge_of o) q) (sym read.second) (alone-same es i (edge_of (edge_at fs j)) c.point q c.is_point h.0 (same-as c) c.first_alone)

    pub second-alone : CrossAlone es fs i j → IsAlone fs j (edge_of edge) q
    second-alone c =
        subst (λ e. IsAlone fs j (edge_of e) q) (sym read.first) (alone-same fs j (edge_of (edge_at es i)) c.point q c.is_point h.0 (same-as c) c.second_alone)

-- ---- so an edge of each list crosses one of the other
image-has : {X Y : Type 0} (f : X → Y) (xs : List X) (x : X) → Contains xs x → Contains (map f xs) (f x)
image-has f xs x c = (c.0, subst (λ n. c.0 < n) (sym (length-map xs f)) c.1, get_or-map f xs c.0 x (f x) c.1 ∙ ap f c.2)

pub crossing-of : (es fs : List (Coordinates × Coordinates)) (i j : ℕ) → i < length es → j < length fs → CrossAlone es fs i j → HaveCrossing (map edge_of es) (map edge_of fs)
crossing-of es fs i j k l c = record {
  first = edge_of (edge_at es i);
  second = edge_of (edge_at fs j);
  point = c.point;
  is_point = c.is_point;
  of_first = image-has edge_of es (edge_at es i) (Contains-get_or es i (record { x = pos 0; y = pos 0 }, record { x = pos 0; y = pos 0 }) k);
  of_second = image-has edge_of fs (edge_at fs j) (Contains-get_or fs j (record { x = pos 0; y = pos 0 }, record { x = pos 0; y = pos 0 }) l);
  on_first = c.on_first;
  on_second = c.on_second;
  crossing = c.crossing;
  first_alone = count-one c.point es i (λ n m other on. c.first_alone n m other (inl on));
  second_alone = count-one c.point fs j (λ n m other on. c.second_alone n m other (inl on));
}

-- what a search says that has found one
pub crossing-found : (es fs first second : List (Coordinates × Coordinates)) (r : Outcome) → first ≡ es → second ≡ fs → r ≡ Found →
    Answers (HasPair first second (AreOneOfEach first second) (λ i j. CrossAlone es fs i j)) r → HaveCrossing (map edge_of es) (map edge_of fs)
crossing-found es fs first second r is that found answer =
    let m : HasPair first second (AreOneOfEach first second) (λ i j. CrossAlone es fs i j) = subst (Answers (HasPair first second (AreOneOfEach first second) (λ i j. CrossAlone es fs i j))) found answer in
    crossing-of es fs m.first m.second
    (subst (λ xs. m.first < length xs) is m.asked.0)
    (subst (λ xs. m.second < length xs) that m.asked.1)
    m.passes
