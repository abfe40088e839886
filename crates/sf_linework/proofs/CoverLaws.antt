-- An edge that lies in another has all its points on that. So where each edge of a line lies in an edge of another line, or of an
-- area's border, nothing of the line is off that. Beside an end that is off another line, a length of the edge is off it too.
use Rattle.std.proofs.Common.{◌≡◌, ◌≢◌, refl, ap, sym, ◌∙◌, subst, ℤ, pos, ◌+ℤ◌, ◌-ℤ◌, ◌*ℤ◌, ◌≤ℤ◌, arith, Bool, true, false, not, ◌&&◌, ◌||◌, inl, inr, List, [], ◌∷◌, map, ℕ, zero, suc, take, drop}
use Rattle.std.specs.List.{AllByRecursion, list_any}
use Rattle.std.proofs.lemmas.Bool.{and_from, and_parts, both_ways, cases_Bool, false_from_ne_true, or_cases, or_left, or_right}
use Rattle.std.proofs.lemmas.Int.{clamps, ints}
use Rattle.sf_along.proofs.EdgeLaws.{lengths}
use Rattle.sf_along.specs.Covers.{IsEnd, LieAlong, has_edge, lies_in_one}
use Rattle.sf_linework.proofs.CrossedEndLaws.{is-outside}
use Rattle.sf_linework.proofs.CrossedPartLaws.{first-inside, second-inside}
use Rattle.sf_geometry.specs.declared.geometry.Geometry.{Geometry}
use Rattle.sf_geometry.specs.Parts.{edge_of, edges_of}
use Rattle.sf_geometry.specs.PointSets.{in_boundary, in_exterior, in_interior}
use Rattle.sf_grid.proofs.CallerLemmas.{cross-mean, le_from_test, lies, mean-on_edge, mul_le, on_edge-swap, on_edge_from, same_coordinates, test_from_le, weight_a, weight_b, zero_from_mul, mul, num, ring, sum, var}
use Rattle.sf_grid.specs.Edge.{Edge as Line, IsOnEdge, cross, on_edge, within}
use Rattle.sf_grid.specs.EvenOdd.{edges_above, is_odd}
use Rattle.sf_grid.specs.Fraction.{Fraction, whole}
use Rattle.sf_grid.specs.Plane.{Coordinates, IsPoint, Point as PlanePoint, grid_point, x_of, y_of}
use Rattle.std.specs.Int.{int_max, int_min}
use Rattle.sf_known.proofs.OrderLaws.{at-most-two}
use Rattle.sf_interiors.proofs.AlongLaws.{rise_to, run_to}
use Rattle.sf_interiors.proofs.ApartLaws.{interior_is_apart}
use Rattle.sf_interiors.proofs.DimensionLaws.{is_grid}
use Rattle.sf_interiors.proofs.InsideLaws.{IsOff}
use Rattle.sf_known.specs.declared.known.Known.{Known}
use Rattle.sf_known.specs.Known.{Holds, IsAtMost, known_by_both}
use Rattle.sf_known.proofs.KnownLaws.{both_hold}
use Rattle.sf_known.specs.Transposed.{known_transposed}
use Rattle.sf_plane.proofs.CombineLaws.{start_on_edge}
use Rattle.sf_plane.proofs.CoverLaws.{contains}
use Rattle.sf_plane.proofs.PlaceLaws.{IsIn}
use Rattle.sf_plane.proofs.ShareLaws.{in_from_contains}
use Rattle.sf_plane.proofs.UnionLaws.{point_in_segment, segment_in_triangle}
use Rattle.sf_plane.specs.declared.dim.Dim.{Dim}
use Rattle.sf_plane.specs.declared.dim.Dim.TheVariants as dims
use Rattle.sf_plane.specs.Dimension.{HasDimension, HasPoint, HasSegment, PointSet}
use Rattle.sf_relate.proofs.AreasLaws.{by-edges}
use Rattle.sf_relate.proofs.CommonBoxLaws.{edge-is-in}
use Rattle.sf_relate.proofs.FoundLaws.{nothing-holds}
use Rattle.sf_relate.proofs.OverlapLaws.{balanced-area, inside-at, on-boundary, outside-at}
use Rattle.sf_relate.proofs.SectorLaws.{IsAt, piece-at, piece-off}
use Rattle.sf_relate.proofs.SetLaws.{exterior_union, first_has, interior_union, matrices_are_over_the_plane, second_has}
use Rattle.sf_relate.specs.AllPieces.{all_pieces}
use Rattle.sf_relate.specs.Contact.{is_in}
use Rattle.sf_relate.specs.Matrices.{IsMatrix, both, matrix_of}
use Rattle.sf_relate.specs.Places.{shape_of}
use Rattle.sf_relate.specs.declared.shape.Shape.{Shape}
use Rattle.sf_relate.specs.declared.shape.Shape.TheVariants.{Areas, Lines, Points}
use Rattle.sf_valid_rules.proofs.MemberLaws.{any-one, each-from_in, each-in, in_map, one-any}
use Rattle.sf_valid_rules.specs.Validity.{IsValid}
use Rattle.sf_linework.specs.Cover.{CoverIsKnown, EndsAreSeen, HasEndIn, HasEndOff, IsKnownByCover, if_long, known_of_covered, known_of_ends_at, seen_starts}
use Rattle.sf_linework.specs.declared.cover.Cover.{Cover}
use Rattle.sf_linework.specs.declared.cover.Cover.TheVariants.{Ends, Whole}
use Rattle.sf_linework.specs.declared.ends.Seen.{Seen}
use Rattle.sf_linework.specs.Ends.{none_seen, seen_or}
use Rattle.sf_linework.specs.Points.{seen_points}
use Rattle.sf_linework.proofs.AlongLaws.{in-take, long-entry, on_edges}
use Rattle.sf_linework.proofs.BesideLaws.{line-long}
use Rattle.sf_linework.proofs.TurnedLaws.{turned}

-- ---- an edge within an edge
-- from one number to another, where a third and a fourth have those between them
within-inner : (s t a b : ℤ) (q : Fraction) → within (int_min s t) (int_max s t) (whole a) ≡ true → within (int_min s t) (int_max s t) (whole b) ≡ true →
    within (int_min a b) (int_max a b) q ≡ true → within (int_min s t) (int_max s t) q ≡ true
within-inner s t a b q h k l =
    let first = and_parts _ _ h in
    let second = and_parts _ _ k in
    let parts = and_parts _ _ l in
    let low : int_min s t ≤ℤ int_min a b = least (int_min s t) (le_from_test _ _ first.0) (le_from_test _ _ second.0) in
    let high : int_max a b ≤ℤ int_max s t = most (int_max s t) (le_from_test _ _ first.1) (le_from_test _ _ second.1) in
    and_from _ _
    (test_from_le _ _ (chain _ _ _ (mul_le (int_min s t) (int_min a b) q.den low) (le_from_test _ _ parts.0)))
    (test_from_le _ _ (chain _ _ _ (le_from_test _ _ parts.1) (mul_le (int_max a b) (int_max s t) q.den high)))
  where
    least : (z : ℤ) → (z *ℤ pos 1) ≤ℤ a → (z *ℤ pos 1) ≤ℤ b → z ≤ℤ int_min a b
    least z m n = omega (arith, ints, clamps)

    most : (z : ℤ) → a ≤ℤ (z *ℤ pos 1) → b ≤ℤ (z *ℤ pos 1) → int_max a b ≤ℤ z
    most z m n = omega (arith, ints, clamps)

    chain : (x y z : ℤ) → x ≤ℤ y → y ≤ℤ z → x ≤ℤ z
    chain x y z m n = omega (arith, ints)

-- an edge that has both ends of another has all its points
pub inner : (f e : Line) (q : PlanePoint) → e.a ≢ e.b → IsPoint q → IsOnEdge f (grid_point e.a) → IsOnEdge f (grid_point e.b) → IsOnEdge e q → IsOnEdge f q
inner f e q n i start end on =
    let s = lies f (grid_point e.a) start in
    let t = lies f (grid_point e.b) end in
    let l = lies e q on in
    let mean = mean-on_edge e q i n on in
    on_edge_from f q
    (record {
      line =
          zero_from_mul (weight_a e q +ℤ weight_b e q) (cross f.a f.b q) mean.total
          (cross-mean f.a f.b e q (weight_a e q) (weight_b e q) mean ∙ no-weight (weight_a e q) (weight_b e q) (cross f.a f.b (grid_point e.a)) (cross f.a f.b (grid_point e.b)) (pos q.d) s.line t.line);
      x = within-inner f.a.x f.b.x e.a.x e.b.x (x_of q) s.x t.x l.x;
      y = within-inner f.a.y f.b.y e.a.y e.b.y (y_of q) s.y t.y l.y;
    })
  where
    no-weight : (m n y z d : ℤ) → y ≡ pos 0 → z ≡ pos 0 → (m *ℤ y +ℤ n *ℤ z) *ℤ d ≡ pos 0
    no-weight m n y z d e f =
        ap (λ v. (m *ℤ v +ℤ n *ℤ z) *ℤ d) e ∙ ap (λ v. (m *ℤ pos 0 +ℤ n *ℤ v) *ℤ d) f
        ∙ ring (m ∷ n ∷ d ∷ []) (mul (sum (mul (var 0) (num (pos 0))) (mul (var 1) (num (pos 0)))) (var 2)) (num (pos 0)) refl

-- where each edge of a lies in one of b, all points of a's edges are on b's
covered-on : (a b : Geometry) (q : PlanePoint) → LieAlong a b → IsPoint q → on_edges a q ≡ true → on_edges b q ≡ true
covered-on a b q h i on =
    let e = any-one (λ f. on_edge f q) (edges_of a) on in
    let f = any-one (λ g. has_edge g e.one) (edges_of b) (each-in (λ g. lies_in_one (edges_of b) g ≡ true) (edges_of a) h e.one e.among) in
    let ends = and_parts (on_edge f.one (grid_point e.one.a)) (on_edge f.one (grid_point e.one.b)) f.passes in
    one-any (λ g. on_edge g q) (edges_of b) f.one f.among
    (inner f.one e.one q (each-in (λ (g : Line). g.a ≢ g.b) (edges_of a) (lengths a) e.one e.among) i ends.0 ends.1 e.passes)

-- ---- points of lines and of borders are on edges, and those on edges are of them
-- what is in a geometry isn't outside
in-not-outside : (a : Geometry) (q : PlanePoint) → is_in a q ≡ true → in_exterior a q ≡ true → ⊥
in-not-outside a q h k = by (in_interior a q) (in_boundary a q) h k
  where
    by : (x y : Bool) → (x || y) ≡ true → (not x && not y) ≡ true → ⊥
    by true y h k = both_ways false refl k
    by false true h k = both_ways false refl k
    by false false h k = both_ways false refl h

on-is-in : (a : Geometry) (q : PlanePoint) → on_edges a q ≡ true → is_in a q ≡ true
on-is-in a q on = let e = any-one (λ f. on_edge f q) (edges_of a) on in edge-is-in a e.one q e.among e.passes

all-off : (q : PlanePoint) (es : List Line) → list_any (λ e. on_edge e q) es ≡ false → IsOff q es
all-off q es h = each-from_in (λ e. on_edge e q ≡ false) es (λ e among. false_from_ne_true (on_edge e q) (λ t. both_ways _ h (one-any (λ f. on_edge f q) es e among t)))

line-in-on : (a : Geometry) (q : PlanePoint) → shape_of a ≡ Lines → IsPoint q → is_in a q ≡ true → on_edges a q ≡ true
line-in-on a q s i h =
    elim (cases_Bool (on_edges a q)) [
      | inl t ↦ t
      | inr f ↦ absurd (in-not-outside a q h (is-outside a q s i (all-off q (edges_of a) f)))
    ]

-- ---- entries
no-entry : (set : PointSet) (d : Dim) → HasDimension set d → (HasPoint set → ⊥) → IsAtMost d dims.Nothing
no-entry set dims.Nothing h n = refl
no-entry set dims.Zero h n = absurd (n h.0)
no-entry set dims.One h n = absurd (n (point_in_segment set h.0))
no-entry set dims.Two h n = absurd (n (point_in_segment set (segment_in_triangle set h)))

wider : (s t : PointSet) → ((q : PlanePoint) → IsPoint q → s q ≡ true → t q ≡ true) → HasSegment s → HasSegment t
wider s t f h = record { a = h.a; b = h.b; is_a = h.is_a; is_b = h.is_b; differ = h.differ; has = λ q i k. f q i (h.has q i k) }

interior-in : (a : Geometry) (q : PlanePoint) → in_interior a q ≡ true → is_in a q ≡ true
interior-in a q h = or_left (in_interior a q) (in_boundary a q) h

boundary-in : (a : Geometry) (q : PlanePoint) → in_boundary a q ≡ true → is_in a q ≡ true
boundary-in a q h = or_right (in_interior a q) (in_boundary a q) h

-- ---- the first one's edges lie in edges of the second
module _ (a b : Geometry) (v : IsValid a) (w : IsValid b) (h : LieAlong a b) where
  m : IsMatrix a b (matrix_of a b)
  m = (matrices_are_over_the_plane a b).computed

  line-on-edges : (q : PlanePoint) → shape_of a ≡ Lines → IsPoint q → is_in a q ≡ true → on_edges b q ≡ true
  line-on-edges q s i k = covered-on a b q h i (line-in-on a q s i k)

  line-on-border : (q : PlanePoint) → shape_of a ≡ Lines → shape_of b ≡ Areas → IsPoint q → is_in a q ≡ true → in_boundary b q ≡ true
  line-on-border q s t i k = sym (by-edges b q t) ∙ line-on-edges q s i k

  border-on-edges : (q : PlanePoint) → shape_of a ≡ Areas → IsPoint q → in_boundary a q ≡ true → on_edges b q ≡ true
  border-on-edges q s i k = covered-on a b q h i (by-edges a q s ∙ k)

  -- nothing of such a set is outside of the second one
  none-outside : (set : PointSet) → ((q : PlanePoint) → IsPoint q → set q ≡ true → on_edges b q ≡ true) → HasPoint (both set (in_exterior b)) → ⊥
  none-outside set on p =
      let parts = and_parts (set p.point) (in_exterior b p.point) p.has in
      in-not-outside b p.point (on-is-in b p.point (on p.point p.is_point parts.0)) parts.1

  -- nor inside of it, if it is an area
  none-inside : (set : PointSet) → shape_of b ≡ Areas → ((q : PlanePoint) → IsPoint q → set q ≡ true → on_edges b q ≡ true) → HasPoint (both set (in_interior b)) → ⊥
  none-inside set t on p =
      let parts = and_parts (set p.point) (in_interior b p.point) p.has in
      both_ways (in_boundary b p.point) (interior_is_apart b p.point w p.is_point parts.1) (sym (by-edges b p.point t) ∙ on p.point p.is_point parts.0)

  interior-on : shape_of a ≡ Lines → (q : PlanePoint) → IsPoint q → in_interior a q ≡ true → on_edges b q ≡ true
  interior-on s q i k = line-on-edges q s i (interior-in a q k)

  boundary-on : shape_of a ≡ Lines → (q : PlanePoint) → IsPoint q → in_boundary a q ≡ true → on_edges b q ≡ true
  boundary-on s q i k = line-on-edges q s i (boundary-in a q k)

  lines-covered : shape_of a ≡ Lines → shape_of b ≡ Lines → Holds (known_of_covered Lines Lines) (matrix_of a b)
  lines-covered s t =
      let long =
      second-inside a b (in_interior a) t w (interior_union (all_pieces a b) a (first_has a b))
      (wider (in_interior a) (both (in_interior a) (is_in b)) (λ q i k. and_from (in_interior a q) (is_in b q) k (on-is-in b q (interior-on s q i k))) (line-long a v s)) in
      record {
        least = (long-entry (both (in_interior a) (in_interior b)) _ m.0 long, (refl, (refl, (refl, (refl, (refl, (refl, (refl, (refl, refl)))))))));
        most = (at-most-two _, (at-most-two _, (no-entry _ _ m.1.1.0 (none-outside (in_interior a) (interior-on s)), (at-most-two _, (at-most-two _, (no-entry _ _ m.1.1.1.1.1.0 (none-outside (in_boundary a) (boundary-on s)), (at-most-two _, (at-most-two _, (at-most-two _, refl)))))))));
        contact = λ k. absurd (both_ways false refl k);
      }

  line-along-border : shape_of a ≡ Lines → shape_of b ≡ Areas → Holds (known_of_covered Lines Areas) (matrix_of a b)
  line-along-border s t =
      let long = wider (in_interior a) (both (in_interior a) (in_boundary b)) (λ q i k. and_from (in_interior a q) (in_boundary b q) k (line-on-border q s t i (interior-in a q k))) (line-long a v s) in
      record {
        least = (refl, (long-entry (both (in_interior a) (in_boundary b)) _ m.1.0 long, (refl, (refl, (refl, (refl, (refl, (refl, (refl, refl)))))))));
        most = (no-entry _ _ m.0 (none-inside (in_interior a) t (interior-on s)), (at-most-two _, (no-entry _ _ m.1.1.0 (none-outside (in_interior a) (interior-on s)), (no-entry _ _ m.1.1.1.0 (none-inside (in_boundary a) t (boundary-on s)), (at-most-two _, (no-entry _ _ m.1.1.1.1.1.0 (none-outside (in_boundary a) (boundary-on s)), (at-most-two _, (at-most-two _, (at-most-two _, refl)))))))));
        contact = λ k. absurd (both_ways false refl k);
      }

  border-along-line : shape_of a ≡ Areas → shape_of b ≡ Lines → Holds (known_of_covered Areas Lines) (matrix_of a b)
  border-along-line s t =
      record {
        least = (refl, (refl, (refl, (refl, (refl, (refl, (refl, (refl, (refl, refl)))))))));
        most = (at-most-two _, (at-most-two _, (at-most-two _, (at-most-two _, (at-most-two _, (no-entry _ _ m.1.1.1.1.1.0 (none-outside (in_boundary a) (λ q i k. border-on-edges q s i k)), (at-most-two _, (at-most-two _, (at-most-two _, refl)))))))));
        contact = λ k. absurd (both_ways false refl k);
      }

-- ---- where edges of the first one end
apart-ends : (c p : Coordinates) → c ≢ p → run_to c (grid_point p) ≡ pos 0 → rise_to c (grid_point p) ≡ pos 0 → ⊥
apart-ends c p n run rise = n (same_coordinates c p (level c.x p.x run) (level c.y p.y rise))
  where
    level : (x z : ℤ) → x *ℤ pos 1 -ℤ z ≡ pos 0 → x ≡ z
    level x z e = omega (arith, ints)

-- an end of an edge, and the other end of the edge
record HasEdge (a : Geometry) (p : Coordinates) : Type 0 where
  edge : Line
  other : Coordinates
  among : IsIn (edges_of a) edge
  on : IsOnEdge edge (grid_point p)
  there : IsOnEdge edge (grid_point other)
  apart : run_to other (grid_point p) ≡ pos 0 → rise_to other (grid_point p) ≡ pos 0 → ⊥

with-edge : (a : Geometry) (p : Coordinates) → IsEnd a p → HasEdge a p
with-edge a p end =
    let e = end.edge in
    let among = in_from_contains (edges_of a) e end.of in
    let long = each-in (λ (g : Line). g.a ≢ g.b) (edges_of a) (lengths a) e among in
    let start : IsOnEdge e (grid_point e.a) = start_on_edge e.a e.b in
    let stop : IsOnEdge e (grid_point e.b) = on_edge-swap e.a e.b (grid_point e.b) ∙ start_on_edge e.b e.a in
    elim end.at [
      | inl k ↦
          record {
            edge = e;
            other = e.b;
            among = among;
            on = subst (λ (c : Coordinates). IsOnEdge e (grid_point c)) k start;
            there = stop;
            apart = apart-ends e.b p (λ g. long (k ∙ sym g));
          }
      | inr k ↦
          record {
            edge = e;
            other = e.a;
            among = among;
            on = subst (λ (c : Coordinates). IsOnEdge e (grid_point c)) k stop;
            there = start;
            apart = apart-ends e.a p (λ g. long (g ∙ sym k));
          }
    ]

-- off the second one's edges
outside-off : (b : Geometry) (p : Coordinates) → in_exterior b (grid_point p) ≡ true → IsOff (grid_point p) (edges_of b)
outside-off b p off =
    each-from_in (λ e. on_edge e (grid_point p) ≡ false) (edges_of b)
    (λ e among. false_from_ne_true (on_edge e (grid_point p)) (λ t. in-not-outside b (grid_point p) (edge-is-in b e (grid_point p) among t) off))

-- in the interior or the exterior of an area, by the parity of the edges above
border-off : (b : Geometry) (p : Coordinates) → shape_of b ≡ Areas → in_boundary b (grid_point p) ≡ false → IsOff (grid_point p) (edges_of b)
border-off b p t h = all-off (grid_point p) (edges_of b) (by-edges b (grid_point p) t ∙ h)

not-in : (x y : Bool) → (not x && not y) ≡ true → y ≡ false
not-in x true h = absurd (both_ways false refl ((and_parts (not x) false h).1))
not-in x false h = refl

at-place : (b : Geometry) (p : Coordinates) (odd : Bool) → IsValid b → shape_of b ≡ Areas → IsOff (grid_point p) (edges_of b) →
    (IsAt (edges_of b) (not odd) (grid_point p) → ⊥) → IsAt (edges_of b) odd (grid_point p)
at-place b p odd w t off n = by (is_odd (edges_above (grid_point p) (edges_of b))) refl odd n
  where
    by : (c : Bool) → is_odd (edges_above (grid_point p) (edges_of b)) ≡ c → (o : Bool) → (IsAt (edges_of b) (not o) (grid_point p) → ⊥) → IsAt (edges_of b) o (grid_point p)
    by true e true m = record { off = off; parity = e }
    by false e false m = record { off = off; parity = e }
    by false e true m = absurd (m (record { off = off; parity = e }))
    by true e false m = absurd (m (record { off = off; parity = e }))

inside-parity : (b : Geometry) (p : Coordinates) → IsValid b → shape_of b ≡ Areas → in_interior b (grid_point p) ≡ true → IsAt (edges_of b) true (grid_point p)
inside-parity b p w t h =
    at-place b p true w t (border-off b p t (interior_is_apart b (grid_point p) w (is_grid p) h))
    (λ k. in-not-outside b (grid_point p) (interior-in b (grid_point p) h) (outside-at b (grid_point p) w t (is_grid p) k))

outside-parity : (b : Geometry) (p : Coordinates) → IsValid b → shape_of b ≡ Areas → in_exterior b (grid_point p) ≡ true → IsAt (edges_of b) false (grid_point p)
outside-parity b p w t h =
    at-place b p false w t (border-off b p t (not-in (in_interior b (grid_point p)) (in_boundary b (grid_point p)) h))
    (λ k. in-not-outside b (grid_point p) (interior-in b (grid_point p) (inside-at b (grid_point p) w t (is_grid p) k)) h)

module _ (a b : Geometry) (v : IsValid a) (w : IsValid b) where
  n : IsMatrix a b (matrix_of a b)
  n = (matrices_are_over_the_plane a b).computed

  off-line : shape_of a ≡ Lines → shape_of b ≡ Lines → HasEndOff a b → HasSegment (both (in_interior a) (in_exterior b))
  off-line s t h =
      let e = with-edge a h.point h.end in
      first-inside a b (in_exterior b) s v (exterior_union (all_pieces a b) b (second_has a b))
      (piece-off e.edge e.other (grid_point h.point) (edges_of b) (both (is_in a) (in_exterior b)) (is_grid h.point) e.on e.there e.apart (outside-off b h.point h.off)
      (λ q i on off. and_from (is_in a q) (in_exterior b q) (edge-is-in a e.edge q e.among on) (is-outside b q t i off)))

  off-border : shape_of a ≡ Areas → shape_of b ≡ Lines → HasEndOff a b → HasSegment (both (in_boundary a) (in_exterior b))
  off-border s t h =
      let e = with-edge a h.point h.end in
      piece-off e.edge e.other (grid_point h.point) (edges_of b) (both (in_boundary a) (in_exterior b)) (is_grid h.point) e.on e.there e.apart (outside-off b h.point h.off)
      (λ q i on off. and_from (in_boundary a q) (in_exterior b q) (on-boundary a e.edge q s e.among on) (is-outside b q t i off))

  in-area : shape_of a ≡ Lines → shape_of b ≡ Areas → HasEndIn a b → HasSegment (both (in_interior a) (in_interior b))
  in-area s t h =
      let e = with-edge a h.point h.end in
      first-inside a b (in_interior b) s v (interior_union (all_pieces a b) b (second_has a b))
      (piece-at e.edge e.other (grid_point h.point) (edges_of b) true (both (is_in a) (in_interior b)) (is_grid h.point) e.on e.there e.apart
      (balanced-area b (grid_point h.point) w t (is_grid h.point)) (inside-parity b h.point w t h.inside)
      (λ q i on at. and_from (is_in a q) (in_interior b q) (edge-is-in a e.edge q e.among on) (inside-at b q w t i at)))

  off-area : shape_of a ≡ Lines → shape_of b ≡ Areas → HasEndOff a b → HasSegment (both (in_interior a) (in_exterior b))
  off-area s t h =
      let e = with-edge a h.point h.end in
      first-inside a b (in_exterior b) s v (exterior_union (all_pieces a b) b (second_has a b))
      (piece-at e.edge e.other (grid_point h.point) (edges_of b) false (both (is_in a) (in_exterior b)) (is_grid h.point) e.on e.there e.apart
      (balanced-area b (grid_point h.point) w t (is_grid h.point)) (outside-parity b h.point w t h.off)
      (λ q i on at. and_from (is_in a q) (in_exterior b q) (edge-is-in a e.edge q e.among on) (outside-at b q w t i at)))

  -- an entry has a length if an end was seen
  if-entry : (set : PointSet) (d : Dim) (seen : Bool) → HasDimension set d → (seen ≡ true → HasSegment set) → IsAtMost (if_long seen) d
  if-entry set d true h long = long-entry set d h (long refl)
  if-entry set d false h long = refl

  lines-end : shape_of a ≡ Lines → shape_of b ≡ Lines → (s : Seen) → EndsAreSeen a b s → Holds (known_of_ends_at Lines Lines s) (matrix_of a b)
  lines-end l k s h =
      record {
        least = (refl, (refl, (if-entry (both (in_interior a) (in_exterior b)) _ s.exterior n.1.1.0 (λ e. off-line l k (h.exterior e)), (refl, (refl, (refl, (refl, (refl, (refl, refl)))))))));
        most = (nothing-holds a b).most;
        contact = λ f. absurd (both_ways false refl f);
      }

  line-ends : shape_of a ≡ Lines → shape_of b ≡ Areas → (s : Seen) → EndsAreSeen a b s → Holds (known_of_ends_at Lines Areas s) (matrix_of a b)
  line-ends l k s h =
      record {
        least = (
          if-entry (both (in_interior a) (in_interior b)) _ s.interior n.0 (λ e. in-area l k (h.interior e)),
          (refl, (if-entry (both (in_interior a) (in_exterior b)) _ s.exterior n.1.1.0 (λ e. off-area l k (h.exterior e)), (refl, (refl, (refl, (refl, (refl, (refl, refl)))))))),
        );
        most = (nothing-holds a b).most;
        contact = λ f. absurd (both_ways false refl f);
      }

  border-ends : shape_of a ≡ Areas → shape_of b ≡ Lines → (s : Seen) → EndsAreSeen a b s → Holds (known_of_ends_at Areas Lines s) (matrix_of a b)
  border-ends l k s h =
      record {
        least = (refl, (refl, (refl, (refl, (refl, (if-entry (both (in_boundary a) (in_exterior b)) _ s.exterior n.1.1.1.1.1.0 (λ e. off-border l k (h.exterior e)), (refl, (refl, (refl, refl)))))))));
        most = (nothing-holds a b).most;
        contact = λ f. absurd (both_ways false refl f);
      }

-- ---- the law
pub cover_is_known : CoverIsKnown
cover_is_known a b v w =
    record { whole = λ h. covered h (shape_of a) (shape_of b) refl refl; ends = λ seen h. ended seen h (shape_of a) (shape_of b) refl refl }
  where
    covered : LieAlong a b → (s t : Shape) → shape_of a ≡ s → shape_of b ≡ t → Holds (known_of_covered s t) (matrix_of a b)
    covered h Lines Lines s t = lines-covered a b v w h s t
    covered h Lines Areas s t = line-along-border a b v w h s t
    covered h Areas Lines s t = border-along-line a b v w h s t
    covered h Lines Points s t = nothing-holds a b
    covered h Areas Areas s t = nothing-holds a b
    covered h Areas Points s t = nothing-holds a b
    covered h Points Lines s t = nothing-holds a b
    covered h Points Areas s t = nothing-holds a b
    covered h Points Points s t = nothing-holds a b

    ended : (seen : Seen) → EndsAreSeen a b seen → (s t : Shape) → shape_of a ≡ s → shape_of b ≡ t → Holds (known_of_ends_at s t seen) (matrix_of a b)
    ended seen h Lines Lines s t = lines-end a b v w s t seen h
    ended seen h Lines Areas s t = line-ends a b v w s t seen h
    ended seen h Areas Lines s t = border-ends a b v w s t seen h
    ended seen h Lines Points s t = nothing-holds a b
    ended seen h Areas Areas s t = nothing-holds a b
    ended seen h Areas Points s t = nothing-holds a b
    ended seen h Points Lines s t = nothing-holds a b
    ended seen h Points Areas s t = nothing-holds a b
    ended seen h Points Points s t = nothing-holds a b

-- ---- as it is called
pub known-holds : (a b : Geometry) (known : Known) → IsValid a → IsValid b → IsKnownByCover a b known → Holds known (matrix_of a b)
known-holds a b known v w (inl k) = subst (λ (o : Known). Holds o (matrix_of a b)) (sym k.0) ((cover_is_known a b v w).whole k.1)
known-holds a b known v w (inr k) = subst (λ (o : Known). Holds o (matrix_of a b)) (sym k.1) ((cover_is_known a b v w).ends k.0 k.2)

pub whole-known : (a b f g : Geometry) (s t : Shape) (known : Known) → f ≡ a → g ≡ b → s ≡ shape_of f → t ≡ shape_of g → known ≡ known_of_covered s t → LieAlong a b → IsKnownByCover a b known
whole-known a b f g s t known is_f is_g of_s of_t same h =
    inl (same ∙ ap (λ x. known_of_covered x t) (of_s ∙ ap shape_of is_f) ∙ ap (known_of_covered (shape_of a)) (of_t ∙ ap shape_of is_g), h)

pub ends-known : (a b f g : Geometry) (s t : Shape) (seen : Seen) (known : Known) → f ≡ a → g ≡ b → s ≡ shape_of f → t ≡ shape_of g → known ≡ known_of_ends_at s t seen → EndsAreSeen a b seen
    → IsKnownByCover a b known
ends-known a b f g s t seen known is_f is_g of_s of_t same h =
    inr (seen, same ∙ ap (λ x. known_of_ends_at x t seen) (of_s ∙ ap shape_of is_f) ∙ ap (λ y. known_of_ends_at (shape_of a) y seen) (of_t ∙ ap shape_of is_g), h)

-- ---- ends that were seen
-- what one of a part of a list has, one of the list has
in-drop : {A : Type 0} (k : ℕ) (xs : List A) (x : A) → IsIn (drop k xs) x → IsIn xs x
in-drop zero [] x i = absurd i
in-drop zero (y ∷ ys) x i = i
in-drop (suc k) [] x i = absurd i
in-drop (suc k) (y ∷ ys) x i = inr (in-drop k ys x i)

any-take : {A : Type 0} (t : A → Bool) (k : ℕ) (xs : List A) → list_any t (take k xs) ≡ true → list_any t xs ≡ true
any-take t k xs h = let e = any-one t (take k xs) h in one-any t xs e.one (in-take k xs e.one e.among) e.passes

any-drop : {A : Type 0} (t : A → Bool) (k : ℕ) (xs : List A) → list_any t (drop k xs) ≡ true → list_any t xs ≡ true
any-drop t k xs h = let e = any-one t (drop k xs) h in one-any t xs e.one (in-drop k xs e.one e.among) e.passes

-- of the first of two parts, and the first of the other part
any-parts : {A : Type 0} (t : A → Bool) (k few : ℕ) (xs early late first second : List A) → early ≡ take k xs → late ≡ drop k xs → first ≡ take few early → second ≡ take few late →
    (list_any t first || list_any t second) ≡ true → list_any t xs ≡ true
any-parts t k few xs early late first second e l f s h =
    elim (or_cases (list_any t first) (list_any t second) h) [
      | inl i ↦ any-take t k xs (ap (list_any t) (sym e) ∙ any-take t few early (ap (list_any t) (sym f) ∙ i))
      | inr i ↦ any-drop t k xs (ap (list_any t) (sym l) ∙ any-take t few late (ap (list_any t) (sym s) ∙ i))
    ]

any-few : {A : Type 0} (t : A → Bool) (few : ℕ) (xs first : List A) → first ≡ take few xs → list_any t first ≡ true → list_any t xs ≡ true
any-few t few xs first f h = any-take t few xs (ap (list_any t) (sym f) ∙ h)

-- of edges that start in the list's two halves
abbrev AnyStarts : Geometry → (Geometry → PlanePoint → Bool) → List (Coordinates × Coordinates) → Type 0
AnyStarts b place es = list_any (λ (e : Coordinates × Coordinates). place b (grid_point e.0)) es ≡ true

pub halves-start : (b : Geometry) (k few : ℕ) (xs early late first second : List (Coordinates × Coordinates)) (s t both : Seen) → early ≡ take k xs → late ≡ drop k xs →
    first ≡ take few early → second ≡ take few late → s ≡ seen_starts b first → t ≡ seen_starts b second → both ≡ seen_or s t →
    (both.interior ≡ true → AnyStarts b in_interior xs) × (both.exterior ≡ true → AnyStarts b in_exterior xs)
halves-start b k few xs early late first second s t both e l f g is_s is_t is = (
  λ h. any-parts (λ (x : Coordinates × Coordinates). in_interior b (grid_point x.0)) k few xs early late first second e l f g (sym (ap (λ (z : Seen). z.interior) whole) ∙ h),
  λ h. any-parts (λ (x : Coordinates × Coordinates). in_exterior b (grid_point x.0)) k few xs early late first second e l f g (sym (ap (λ (z : Seen). z.exterior) whole) ∙ h),
)
  where
    whole : both ≡ seen_or (seen_starts b first) (seen_starts b second)
    whole = is ∙ ap (λ z. seen_or z t) is_s ∙ ap (seen_or (seen_starts b first)) is_t

-- of the first half alone
pub half-starts : (b : Geometry) (k few : ℕ) (xs early first : List (Coordinates × Coordinates)) (s : Seen) → early ≡ take k xs → first ≡ take few early → s ≡ seen_starts b first →
    (s.interior ≡ true → AnyStarts b in_interior xs) × (s.exterior ≡ true → AnyStarts b in_exterior xs)
half-starts b k few xs early first s e f is = (
  λ h. among (λ (x : Coordinates × Coordinates). in_interior b (grid_point x.0)) (sym (ap (λ (z : Seen). z.interior) is) ∙ h),
  λ h. among (λ (x : Coordinates × Coordinates). in_exterior b (grid_point x.0)) (sym (ap (λ (z : Seen). z.exterior) is) ∙ h),
)
  where
    among : (t : Coordinates × Coordinates → Bool) → list_any t first ≡ true → list_any t xs ≡ true
    among t h = any-take t k xs (ap (list_any t) (sym e) ∙ any-take t few early (ap (list_any t) (sym f) ∙ h))

-- of edges that start in these places
pub starts-seen : (a b f : Geometry) (edges slice : List (Coordinates × Coordinates)) (seen : Seen) → f ≡ a → map edge_of edges ≡ edges_of f → slice ≡ edges →
    (seen.interior ≡ true → list_any (λ (e : Coordinates × Coordinates). in_interior b (grid_point e.0)) slice ≡ true) →
    (seen.exterior ≡ true → list_any (λ (e : Coordinates × Coordinates). in_exterior b (grid_point e.0)) slice ≡ true) → EndsAreSeen a b seen
starts-seen a b f edges slice seen same is all inside outside =
    record {
      interior = λ h. let e = any-one (λ (x : Coordinates × Coordinates). in_interior b (grid_point x.0)) slice (inside h) in record { point = e.one.0; end = end e.one e.among; inside = e.passes };
      exterior = λ h. let e = any-one (λ (x : Coordinates × Coordinates). in_exterior b (grid_point x.0)) slice (outside h) in record { point = e.one.0; end = end e.one e.among; off = e.passes };
    }
  where
    end : (e : Coordinates × Coordinates) → IsIn slice e → IsEnd a e.0
    end e i =
        record {
          edge = edge_of e;
          of = contains (edges_of a) (edge_of e) (subst (λ es. IsIn es (edge_of e)) (is ∙ ap edges_of same) (in_map edge_of edges e (subst (λ (es : List (Coordinates × Coordinates)). IsIn es e) all i)));
          at = inl refl;
        }

-- of ends that are left over
ends-seen : (a b f : Geometry) (ends slice : List Coordinates) (seen : Seen) → f ≡ a → AllByRecursion (IsEnd f) ends → slice ≡ ends →
    (seen.interior ≡ true → list_any (λ p. in_interior b (grid_point p)) slice ≡ true) →
    (seen.exterior ≡ true → list_any (λ p. in_exterior b (grid_point p)) slice ≡ true) → EndsAreSeen a b seen
ends-seen a b f ends slice seen same is all inside outside =
    record {
      interior = λ h. let e = any-one (λ p. in_interior b (grid_point p)) slice (inside h) in record { point = e.one; end = end e.one e.among; inside = e.passes };
      exterior = λ h. let e = any-one (λ p. in_exterior b (grid_point p)) slice (outside h) in record { point = e.one; end = end e.one e.among; off = e.passes };
    }
  where
    end : (p : Coordinates) → IsIn slice p → IsEnd a p
    end p i = subst (λ g. IsEnd g p) same (each-in (IsEnd f) ends is p (subst (λ ps. IsIn ps p) all i))

pub few-seen : (a b f : Geometry) (ends slice first : List Coordinates) (few : ℕ) (seen : Seen) → f ≡ a → AllByRecursion (IsEnd f) ends → slice ≡ ends → first ≡ take few slice →
    seen ≡ seen_points b first → EndsAreSeen a b seen
few-seen a b f ends slice first few seen same is all part told =
    ends-seen a b f ends slice seen same is all
    (λ h. any-few (λ p. in_interior b (grid_point p)) few slice first part (sym (ap (λ (s : Seen). s.interior) told) ∙ h))
    (λ h. any-few (λ p. in_exterior b (grid_point p)) few slice first part (sym (ap (λ (s : Seen). s.exterior) told) ∙ h))

-- of both
pub both-seen : (a b : Geometry) (s t both : Seen) → both ≡ seen_or s t → EndsAreSeen a b s → EndsAreSeen a b t → EndsAreSeen a b both
both-seen a b s t both is h k =
    subst (EndsAreSeen a b) (sym is)
    (record {
      interior = λ o. elim (or_cases s.interior t.interior o) [ inl i ↦ h.interior i | inr i ↦ k.interior i ];
      exterior = λ o. elim (or_cases s.exterior t.exterior o) [ inl i ↦ h.exterior i | inr i ↦ k.exterior i ];
    })

-- what is known of each of the two, and of edges along one another, holds of all
pub all-covers : (a b : Geometry) (first second turn along both known : Known) → Holds first (matrix_of a b) → Holds second (matrix_of b a) → Holds along (matrix_of a b) →
    turn ≡ known_transposed second → both ≡ known_by_both first turn → known ≡ known_by_both both along → Holds known (matrix_of a b)
all-covers a b first second turn along both known h k l t is same =
    let m = matrix_of a b in
    subst (λ (o : Known). Holds o m) (sym (same ∙ ap (λ o. known_by_both o along) (is ∙ ap (known_by_both first) t)))
    (both_hold (known_by_both first (known_transposed second)) along m (both_hold first (known_transposed second) m h (turned a b second k)) l)

abbrev seen-in : Cover → Seen
seen-in (Ends s) = s
seen-in Whole = none_seen

pub told-ends : (a b : Geometry) (x : Seen) → EndsAreSeen a b x → (s : Seen) → Ends x ≡ Ends s → EndsAreSeen a b s
told-ends a b x h s e = subst (EndsAreSeen a b) (ap seen-in e) h
