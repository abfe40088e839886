-- Two edges by what they share: which of their points aren't their common vertex as neighbours.
use Rattle.std.proofs.Common.{◌≡◌, ◌≢◌, ◌↔◌, refl, ap, sym, ◌∙◌, subst, ℤ, pos, ◌+ℤ◌, ◌*ℤ◌, arith, Bool, true, false, ◌&&◌, ◌||◌, not, [], ◌∷◌, IsTrue}
use Rattle.std.proofs.lemmas.Bool.{and_from, and_parts, false≢true}
use Rattle.std.proofs.lemmas.Int.{ints}
use Rattle.sf_grid.specs.Plane.{Coordinates, IsPoint, Point, grid_point, same_point}
use Rattle.sf_grid.specs.Edge.{Edge, IsOnEdge, edge_between}
use Rattle.sf_grid.specs.Sharing.{IsSharing}
use Rattle.sf_grid.specs.declared.meet.Meet.TheVariants.{Along, Apart, At}
use Rattle.sf_grid.proofs.CallerLemmas.{differs_from_before, eq_from_test, mul, num, on_edge-mean, ring, same_coordinates, same_point_is_equivalence, sum, var}
use Rattle.sf_valid_rules.specs.Conditions.{Applies, AtPoint}
use Rattle.sf_valid_rules.specs.Shapes.{on_both}
use Rattle.sf_grid.proofs.ColumnLaws.{times-one}
use Rattle.sf_strands.proofs.EndLaws.{end-on, grid-IsPoint, start-on}

-- ---- a piece has a point that is neither of two grid points
abbrev middle : Coordinates → Coordinates → Point
middle a b = record { x = a.x +ℤ b.x; y = a.y +ℤ b.y; d = 2 }

middle-IsPoint : (a b : Coordinates) → IsPoint (middle a b)
middle-IsPoint a b = record { positive = omega arith }

middle-on : (a b : Coordinates) → IsOnEdge (edge_between a b) (middle a b)
middle-on a b =
    on_edge-mean (edge_between a b) (middle a b) (pos 1) (pos 1)
    (record {
      first = omega (arith, ints);
      second = omega (arith, ints);
      total = omega (arith, ints);
      x = mean a.x b.x;
      y = mean a.y b.y;
    })
  where
    mean : (m n : ℤ) → (pos 1 +ℤ pos 1) *ℤ (m +ℤ n) ≡ (pos 1 *ℤ m +ℤ pos 1 *ℤ n) *ℤ pos 2
    mean m n = ring (m ∷ n ∷ []) (mul (sum (num (pos 1)) (num (pos 1))) (sum (var 0) (var 1))) (mul (sum (mul (num (pos 1)) (var 0)) (mul (num (pos 1)) (var 1))) (num (pos 2))) refl

-- a grid point that is the middle and an end is both ends
halves : (m n : ℤ) → m *ℤ pos 2 ≡ (m +ℤ n) *ℤ pos 1 → m ≡ n
halves m n e = omega (arith, ints)

halves_back : (m n : ℤ) → n *ℤ pos 2 ≡ (m +ℤ n) *ℤ pos 1 → m ≡ n
halves_back m n e = omega (arith, ints)

-- where u is one of the points, it is no other
record AreApart (u : Coordinates) (p q : Point) : Type 0 where
  apart : same_point (grid_point u) p ≡ true → same_point (grid_point u) q ≡ false

not_true : (b : Bool) → (b ≡ true → ⊥) → b ≡ false
not_true true n = absurd (n refl)
not_true false n = refl

both-at : (u : Coordinates) (p q : Point) → same_point (grid_point u) p ≡ true → same_point (grid_point u) q ≡ true → same_point p q ≡ true
both-at u p q h k = same_point_is_equivalence.transitive p (grid_point u) q (grid-IsPoint u) (same_point_is_equivalence.symmetric (grid_point u) p h) k

ends-apart : (a b u : Coordinates) → a ≢ b → AreApart u (grid_point a) (grid_point b)
ends-apart a b u n =
    record {
      apart =
          λ h. not_true _
          (λ k. let parts = and_parts _ _ (both-at u (grid_point a) (grid_point b) h k) in
          n (same_coordinates a b
          (sym (times-one a.x) ∙ eq_from_test _ _ parts.0 ∙ times-one b.x)
          (sym (times-one a.y) ∙ eq_from_test _ _ parts.1 ∙ times-one b.y)));
    }

start-apart : (a b u : Coordinates) → a ≢ b → AreApart u (grid_point a) (middle a b)
start-apart a b u n =
    record {
      apart =
          λ h. not_true _
          (λ k. let parts = and_parts _ _ (both-at u (grid_point a) (middle a b) h k) in
          n (same_coordinates a b (halves a.x b.x (eq_from_test _ _ parts.0)) (halves a.y b.y (eq_from_test _ _ parts.1))));
    }

end-apart : (a b u : Coordinates) → a ≢ b → AreApart u (grid_point b) (middle a b)
end-apart a b u n =
    record {
      apart =
          λ h. not_true _
          (λ k. let parts = and_parts _ _ (both-at u (grid_point b) (middle a b) h k) in
          n (same_coordinates a b (halves_back a.x b.x (eq_from_test _ _ parts.0)) (halves_back a.y b.y (eq_from_test _ _ parts.1))));
    }

record IsBeside (u v : Coordinates) (p : Point) : Type 0 where
  first : same_point (grid_point u) p ≡ false
  second : same_point (grid_point v) p ≡ false

-- of three points that are apart, one is beside u and v
record HasPointBeside (a b u v : Coordinates) : Type 0 where
  point : Point
  is : IsPoint point
  on : IsOnEdge (edge_between a b) point
  beside : IsBeside u v point

point-beside : (a b u v : Coordinates) → a ≢ b → HasPointBeside a b u v
point-beside a b u v n = by_start (same_point (grid_point u) (grid_point a)) (same_point (grid_point v) (grid_point a)) refl refl
  where
    at_start : IsBeside u v (grid_point a) → HasPointBeside a b u v
    at_start h = record { point = grid_point a; is = grid-IsPoint a; on = start-on a b; beside = h }

    at_end : IsBeside u v (grid_point b) → HasPointBeside a b u v
    at_end h = record { point = grid_point b; is = grid-IsPoint b; on = end-on a b; beside = h }

    at_middle : IsBeside u v (middle a b) → HasPointBeside a b u v
    at_middle h = record { point = middle a b; is = middle-IsPoint a b; on = middle-on a b; beside = h }

    -- one of the two is the start, and so neither of the other points
    by_second : (s : Bool) → same_point (grid_point v) (grid_point b) ≡ s → same_point (grid_point u) (grid_point b) ≡ false → same_point (grid_point u) (middle a b) ≡ false → HasPointBeside a b u v
    by_second true k h l = at_middle (record { first = l; second = (end-apart a b v n).apart k })
    by_second false k h l = at_end (record { first = h; second = k })

    by_first : (s : Bool) → same_point (grid_point u) (grid_point b) ≡ s → same_point (grid_point v) (grid_point b) ≡ false → same_point (grid_point v) (middle a b) ≡ false → HasPointBeside a b u v
    by_first true k h l = at_middle (record { first = (end-apart a b u n).apart k; second = l })
    by_first false k h l = at_end (record { first = k; second = h })

    by_start : (s t : Bool) → same_point (grid_point u) (grid_point a) ≡ s → same_point (grid_point v) (grid_point a) ≡ t → HasPointBeside a b u v
    by_start true t h k = by_second (same_point (grid_point v) (grid_point b)) refl ((ends-apart a b u n).apart h) ((start-apart a b u n).apart h)
    by_start false true h k = by_first (same_point (grid_point u) (grid_point b)) refl ((ends-apart a b v n).apart k) ((start-apart a b v n).apart k)
    by_start false false h k = at_start (record { first = h; second = k })

-- ---- two edges, of which the first one may end where the other begins, or begin where the other ends
abbrev pub meet_beside : Bool → Bool → Edge → Edge → Point → Bool
meet_beside next around e f p =
    on_both e f p && not ((next && same_point (grid_point e.b) p) || (around && same_point (grid_point e.a) p))

-- they share vertices as neighbours
pub record AreJoined (next around : Bool) (e f : Edge) : Type 0 where
  pub end : next ≡ true → e.b ≡ f.a
  pub start : around ≡ true → e.a ≡ f.b

pub apart-meets : (next around : Bool) (e f : Edge) → IsSharing e f Apart → IsTrue false ↔ Applies (AtPoint (meet_beside next around e f))
apart-meets next around e f h =
    (λ t. absurd (false≢true t), λ a. let parts = and_parts _ _ a.2 in absurd (h a.0 a.1 (and_parts _ _ parts.0)))

pub along-meets : (next around : Bool) (e f : Edge) (a b : Coordinates) → IsSharing e f (Along a b) → IsTrue true ↔ Applies (AtPoint (meet_beside next around e f))
along-meets next around e f a b h = (λ t. some (point-beside a b e.b e.a (differs_from_before a b h.0)), λ s. refl)
  where
    neither : (n r s t : Bool) → s ≡ false → t ≡ false → not ((n && s) || (r && t)) ≡ true
    neither true true s t k l = cc
    neither true false s t k l = cc
    neither false true s t k l = cc
    neither false false s t k l = refl

    some : HasPointBeside a b e.b e.a → Applies (AtPoint (meet_beside next around e f))
    some x =
        let shared = (h.1 x.point x.is).1 x.on in
        (x.point, x.is, and_from _ _ (and_from _ _ shared.0 shared.1) (neither next around _ _ x.beside.first x.beside.second))

-- the one point that both share is their common vertex if they are neighbours, and is no vertex of theirs as neighbours else
pub once-meets : (next around : Bool) (e f : Edge) (q : Point) → AreJoined next around e f → IsSharing e f (At q) → IsTrue (not (next || around)) ↔ Applies (AtPoint (meet_beside next around e f))
once-meets next around e f q joined h = (λ t. some t, λ a. none next around joined.end joined.start a.0 a.1 a.2)
  where
    at_q : IsOnEdge e q × IsOnEdge f q
    at_q = (h.1 q h.0).1 (same_point_is_equivalence.reflexive q)

    some : not (next || around) ≡ true → Applies (AtPoint (meet_beside next around e f))
    some t = (q, h.0, and_from _ _ (and_from _ _ at_q.0 at_q.1) (free next around t))
      where
        free : (n r : Bool) → not (n || r) ≡ true → not ((n && same_point (grid_point e.b) q) || (r && same_point (grid_point e.a) q)) ≡ true
        free true r k = absurd (false≢true k)
        free false true k = absurd (false≢true k)
        free false false k = refl

    -- a vertex of both is each point of both
    vertex : (v : Coordinates) (p : Point) → IsPoint p → IsOnEdge e (grid_point v) → IsOnEdge f (grid_point v) → IsOnEdge e p → IsOnEdge f p → same_point (grid_point v) p ≡ true
    vertex v p o k l m r =
        let here = (h.1 (grid_point v) (grid-IsPoint v)).0 (k, l) in
        let there = (h.1 p o).0 (m, r) in
        same_point_is_equivalence.transitive (grid_point v) q p h.0 here (same_point_is_equivalence.symmetric p q there)

    none : (n r : Bool) → (n ≡ true → e.b ≡ f.a) → (r ≡ true → e.a ≡ f.b) → (p : Point) → IsPoint p → meet_beside n r e f p ≡ true → not (n || r) ≡ true
    none false false k l p o t = refl
    none true r k l p o t =
        let parts = and_parts _ _ t in
        let on = and_parts _ _ parts.0 in
        let at : same_point (grid_point e.b) p ≡ true =
        vertex e.b p o (end-on e.a e.b) (subst (λ v. IsOnEdge f (grid_point v)) (sym (k refl)) (start-on f.a f.b)) on.0 on.1 in
        absurd (false≢true (sym (ap (λ b. not (b || (r && same_point (grid_point e.a) p))) at) ∙ parts.1))
    none false true k l p o t =
        let parts = and_parts _ _ t in
        let on = and_parts _ _ parts.0 in
        let at : same_point (grid_point e.a) p ≡ true =
        vertex e.a p o (start-on e.a e.b) (subst (λ v. IsOnEdge f (grid_point v)) (sym (l refl)) (end-on f.a f.b)) on.0 on.1 in
        absurd (false≢true (sym (ap (λ b. not b) at) ∙ parts.1))
