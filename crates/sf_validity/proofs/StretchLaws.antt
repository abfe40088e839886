-- A stretch of points of a ring that others replaced in a box, as a stretch of edges that was exchanged there.
use Rattle.std.proofs.Common.{◌≡◌, refl, ap, sym, ◌∙◌, subst, ℕ, suc, ◌+◌, ◌-◌, ◌<◌, arith, true, List, [], ◌∷◌, ◌++◌, length, take, drop}
use Rattle.std.specs.List.{list_any}
use Rattle.std.proofs.Math.Seq.{drop-append_seam, take-append-add}
use Rattle.std.proofs.lemmas.Bool.{or_left, or_right}
use Rattle.std.proofs.lemmas.List.{append_assoc, length-append}
use Rattle.sf_grid.specs.Plane.{Coordinates, grid_point}
use Rattle.sf_grid.specs.Edge.{edge_between, on_edge}
use Rattle.sf_geometry.specs.Lists.{edges_between, edges_from}
use Rattle.sf_geometry.specs.PointSets.{on_line}
use Rattle.sf_slabs.proofs.CallerLemmas.{each-append, each-parts}
use Rattle.sf_plane.specs.Boxes.{Box, in_box}
use Rattle.sf_strands.specs.Tight.{IsTight}
use Rattle.sf_strands.proofs.EndLaws.{start-on}
use Rattle.sf_strands.proofs.TightLaws.{tight-tight}
use Rattle.sf_ring_stretches.specs.Exchange.{AreIn, IsExchanged}
use Rattle.sf_ring_stretches.proofs.PointLaws.{points_are_exchanged}
use Rattle.sf_validity.specs.Beside.{stretch_of}
use Rattle.sf_validity.specs.Changed.{IsSpliced}

-- the rings differ by a stretch in the box, before which a point of the old one stands in it
pub record HasStretch (box : Box) (old new : List Coordinates) : Type 0 where
  pub at : Coordinates
  pub inside : in_box box (grid_point at) ≡ true
  pub on : on_line old (grid_point at) ≡ true
  pub exchanged : IsExchanged box old new

-- ---- the last of a list
record HasLast (xs : List Coordinates) : Type 0 where
  front : List Coordinates
  last : Coordinates
  is : xs ≡ front ++ last ∷ []

has-last : (xs : List Coordinates) → 0 < length xs → HasLast xs
has-last [] h = absurd (omega (arith, h))
has-last (x ∷ []) h = record { front = []; last = x; is = refl }
has-last (x ∷ y ∷ ys) h =
    let l = has-last (y ∷ ys) (omega arith) in
    record { front = x ∷ l.front; last = l.last; is = ap (λ zs. x ∷ zs) l.is }

-- ---- the stretch, with the points before and behind it
stretch-is : (init news back : List Coordinates) (from to : Coordinates) (index count : ℕ) → index ≡ length init + 1 → length news ≡ count
    → stretch_of (init ++ from ∷ (news ++ to ∷ back)) index count ≡ from ∷ (news ++ to ∷ [])
stretch-is init news back from to index count placed counted =
    let before : index - 1 ≡ length init = omega (arith, placed) in
    let many : count + 2 ≡ suc (length news + 1) = omega (arith, counted) in
    ap (λ n. take (count + 2) (drop n (init ++ from ∷ (news ++ to ∷ back)))) before
    ∙ ap (take (count + 2)) (drop-append_seam init (from ∷ (news ++ to ∷ back)))
    ∙ ap (λ n. take n (from ∷ (news ++ to ∷ back))) many
    ∙ ap (λ ps. from ∷ ps) (take-append-add news (to ∷ back) 1)

-- ---- a point of a list with another behind it is on an edge
from-on : (x : Coordinates) (init : List Coordinates) (p q : Coordinates) (rest : List Coordinates) → list_any (λ e. on_edge e (grid_point p)) (edges_from x (init ++ p ∷ q ∷ rest)) ≡ true
from-on x [] p q rest = or_right (on_edge (edge_between x p) (grid_point p)) _ (or_left (on_edge (edge_between p q) (grid_point p)) _ (start-on p q))
from-on x (y ∷ init) p q rest = or_right (on_edge (edge_between x y) (grid_point p)) _ (from-on y init p q rest)

between-on : (init : List Coordinates) (p q : Coordinates) (rest : List Coordinates) → list_any (λ e. on_edge e (grid_point p)) (edges_between (init ++ p ∷ q ∷ rest)) ≡ true
between-on [] p q rest = or_left (on_edge (edge_between p q) (grid_point p)) _ (start-on p q)
between-on (x ∷ init) p q rest = from-on x init p q rest

between-on-more : (init : List Coordinates) (p : Coordinates) (olds : List Coordinates) (to : Coordinates) (back : List Coordinates)
    → list_any (λ e. on_edge e (grid_point p)) (edges_between (init ++ p ∷ (olds ++ to ∷ back))) ≡ true
between-on-more init p [] to back = between-on init p to back
between-on-more init p (o ∷ olds) to back = between-on init p o (olds ++ to ∷ back)

-- ---- two rings with such a stretch
stretched : (box : Box) (init olds news back : List Coordinates) (from to : Coordinates) (index count : ℕ) → index ≡ length init + 1 → length news ≡ count
    → IsTight (init ++ from ∷ (olds ++ to ∷ back)) → IsTight (init ++ from ∷ (news ++ to ∷ back))
    → AreIn box (stretch_of (init ++ from ∷ (news ++ to ∷ back)) index count) → AreIn box olds
    → HasStretch box (init ++ from ∷ (olds ++ to ∷ back)) (init ++ from ∷ (news ++ to ∷ back))
stretched box init olds news back from to index count placed counted t u round before =
    let is_in : Coordinates → Type 0 = λ p. in_box box (grid_point p) ≡ true in
    let new : AreIn box (from ∷ (news ++ to ∷ [])) = subst (AreIn box) (stretch-is init news back from to index count placed counted) round in
    let last : AreIn box (to ∷ []) = (each-parts is_in news (to ∷ []) new.1).1 in
    let old : AreIn box (from ∷ (olds ++ to ∷ [])) = (new.0, each-append is_in olds (to ∷ []) before last) in
    record {
      at = from;
      inside = new.0;
      on = ap (λ ps. list_any (λ e. on_edge e (grid_point from)) (edges_between ps)) (tight-tight (init ++ from ∷ (olds ++ to ∷ back)) t) ∙ between-on-more init from olds to back;
      exchanged =
          points_are_exchanged box init olds news back from to (tight-tight (init ++ from ∷ (olds ++ to ∷ back)) t)
          (tight-tight (init ++ from ∷ (news ++ to ∷ back)) u) old new;
    }

-- ---- a ring with points replaced
pub has-stretch : (box : Box) (old new : List Coordinates) (index count : ℕ) (olds : List Coordinates) (s : IsSpliced old new index count olds) → 0 < index → 0 < length s.back → IsTight old → IsTight new
    → AreIn box (stretch_of new index count) → AreIn box olds → HasStretch box old new
has-stretch box old new index count olds s later ended t u round before = by_back s.front s.news s.back s.was s.is s.placed s.counted ended
  where
    by_last : (front news back : List Coordinates) (to : Coordinates) → HasLast front → old ≡ front ++ (olds ++ to ∷ back) → new ≡ front ++ (news ++ to ∷ back) → length front ≡ index → length news ≡ count
        → HasStretch box old new
    by_last front news back to l was is placed counted =
        let was_parts : old ≡ l.front ++ l.last ∷ (olds ++ to ∷ back) = was ∙ ap (λ ps. ps ++ (olds ++ to ∷ back)) l.is ∙ append_assoc l.front (l.last ∷ []) (olds ++ to ∷ back) in
        let is_parts : new ≡ l.front ++ l.last ∷ (news ++ to ∷ back) = is ∙ ap (λ ps. ps ++ (news ++ to ∷ back)) l.is ∙ append_assoc l.front (l.last ∷ []) (news ++ to ∷ back) in
        let at : index ≡ length l.front + 1 = omega (arith, placed, ap length l.is, length-append l.front (l.last ∷ [])) in
        subst (λ ps. HasStretch box ps new) (sym was_parts)
        (subst (λ ps. HasStretch box (l.front ++ l.last ∷ (olds ++ to ∷ back)) ps) (sym is_parts)
        (stretched box l.front olds news back l.last to index count at counted (subst IsTight was_parts t) (subst IsTight is_parts u)
        (subst (λ ps. AreIn box (stretch_of ps index count)) is_parts round) before))

    by_back : (front news back : List Coordinates) → old ≡ front ++ (olds ++ back) → new ≡ front ++ (news ++ back) → length front ≡ index → length news ≡ count → 0 < length back → HasStretch box old new
    by_back front news [] was is placed counted h = absurd (omega (arith, h))
    by_back front news (to ∷ back) was is placed counted h =
        by_last front news back to (has-last front (omega (arith, later, placed))) was is placed counted
