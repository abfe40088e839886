-- Points with the same edges on them and above them, and that are the same vertices, pass the same tests of shape.
use Rattle.std.proofs.Common.{◌≡◌, refl, ap, ◌∙◌, ℕ, ◌+◌, Bool, ◌&&◌, ◌||◌, not, List, [], ◌∷◌, length}
use Rattle.std.specs.Prelude.{nat_eq}
use Rattle.std.specs.List.{AllByRecursion, enumerate_from, list_any}
use Rattle.sf_slabs.proofs.CallerLemmas.{each-both, each-map}
use Rattle.sf_grid.specs.Plane.{Coordinates, Point, grid_point, same_point}
use Rattle.sf_grid.specs.Edge.{Edge as Line, edge_above, on_edge}
use Rattle.sf_grid.specs.EvenOdd.{edges_above, is_odd}
use Rattle.sf_geometry.specs.Lists.{edges_of, ends_of, is_closed, tight}
use Rattle.sf_geometry.specs.PointSets.{in_polygon, in_ring, is_among, on_line, within_ring}
use Rattle.sf_valid_rules.proofs.MemberLaws.{any-same, any_two-same, count-same, each-numbered}
use Rattle.sf_valid_rules.proofs.TightLaws.{edges-ends, tight-ends}
use Rattle.sf_valid_rules.specs.Shapes.{in_hole_outside, in_two_holes, in_two_polygons, is_joint, meets_itself, on_both, on_two_lines}

-- both points are the vertex, or neither is
abbrev pub AgreeAt : Point → Point → Coordinates → Type 0
AgreeAt p q v = same_point (grid_point v) p ≡ same_point (grid_point v) q

-- both points are on the edge, or neither is; and so for below it
abbrev pub AgreeBy : Point → Point → Line → Type 0
AgreeBy p q e = (on_edge e p ≡ on_edge e q) × (edge_above e p ≡ edge_above e q)

-- so for each edge and each vertex of a line or ring
pub record Agree (p q : Point) (ps : List Coordinates) : Type 0 where
  pub edges : AllByRecursion (AgreeBy p q) (edges_of ps)
  pub vertices : AllByRecursion (AgreeAt p q) (tight ps)

-- ---- on, inside and within a ring, at the ends of a line
on_line-same : (p q : Point) (ps : List Coordinates) → Agree p q ps → on_line ps p ≡ on_line ps q
on_line-same p q ps a =
    any-same (λ e. on_edge e p) (λ e. on_edge e q) (edges_of ps) (each-map (AgreeBy p q) (λ e. on_edge e p ≡ on_edge e q) (edges_of ps) (λ e h. h.0) a.edges)

above-same : (p q : Point) (ps : List Coordinates) → Agree p q ps → edges_above p (edges_of ps) ≡ edges_above q (edges_of ps)
above-same p q ps a =
    count-same (λ e. edge_above e p) (λ e. edge_above e q) (edges_of ps)
    (each-map (AgreeBy p q) (λ e. edge_above e p ≡ edge_above e q) (edges_of ps) (λ e h. h.1) a.edges)

in_ring-same : (p q : Point) (ring : List Coordinates) → Agree p q ring → in_ring ring p ≡ in_ring ring q
in_ring-same p q ring a =
    ap (λ b. not b && is_odd (edges_above p (edges_of ring))) (on_line-same p q ring a)
    ∙ ap (λ n. not (on_line ring q) && is_odd n) (above-same p q ring a)

within_ring-same : (p q : Point) (ring : List Coordinates) → Agree p q ring → within_ring ring p ≡ within_ring ring q
within_ring-same p q ring a =
    ap (λ b. b || in_ring ring p) (on_line-same p q ring a) ∙ ap (λ b. on_line ring q || b) (in_ring-same p q ring a)

ends-same : (p q : Point) (ps : List Coordinates) → Agree p q ps → is_among (ends_of ps) p ≡ is_among (ends_of ps) q
ends-same p q ps a =
    any-same (λ v. same_point (grid_point v) p) (λ v. same_point (grid_point v) q) (ends_of ps) (tight-ends (AgreeAt p q) ps a.vertices)

-- ---- a line or ring and itself
-- both points agree by the edge and at its ends
abbrev AgreeAlong : Point → Point → Line → Type 0
AgreeAlong p q e = AgreeBy p q e × (AgreeAt p q e.a × AgreeAt p q e.b)

joint-same : (p q : Point) (closed : Bool) (count : ℕ) (e f : ℕ × Line) → AgreeAlong p q e.1 → is_joint closed count e f p ≡ is_joint closed count e f q
joint-same p q closed count e f a =
    ap (λ b. (nat_eq f.0 (e.0 + 1) && b) || (closed && nat_eq e.0 0 && nat_eq (f.0 + 1) count && same_point (grid_point e.1.a) p)) a.1.1
    ∙ ap (λ b. (nat_eq f.0 (e.0 + 1) && same_point (grid_point e.1.b) q) || (closed && nat_eq e.0 0 && nat_eq (f.0 + 1) count && b)) a.1.0

both-same : (p q : Point) (e f : Line) → AgreeBy p q e → AgreeBy p q f → on_both e f p ≡ on_both e f q
both-same p q e f a b = ap (λ t. t && on_edge f p) a.0 ∙ ap (λ t. on_edge e q && t) b.0

pub meets_itself-same : (p q : Point) (ps : List Coordinates) → Agree p q ps → meets_itself ps p ≡ meets_itself ps q
meets_itself-same p q ps a =
    any_two-same (λ (e : ℕ × Line). AgreeAlong p q e.1)
    (λ e f. on_both e.1 f.1 p && not (is_joint (is_closed ps) (length (edges_of ps)) e f p))
    (λ e f. on_both e.1 f.1 q && not (is_joint (is_closed ps) (length (edges_of ps)) e f q))
    (enumerate_from 0 (edges_of ps))
    (λ e f h k.
    ap (λ t. t && not (is_joint (is_closed ps) (length (edges_of ps)) e f p)) (both-same p q e.1 f.1 h.0 k.0)
    ∙ ap (λ t. on_both e.1 f.1 q && not t) (joint-same p q (is_closed ps) (length (edges_of ps)) e f h))
    (each-numbered (AgreeAlong p q) 0 (edges_of ps)
    (each-both (AgreeBy p q) (λ (e : Line). AgreeAt p q e.a × AgreeAt p q e.b) (AgreeAlong p q) (edges_of ps) (λ e h k. (h, k)) a.edges
    (edges-ends (AgreeAt p q) ps a.vertices)))

-- ---- two lines
pub on_two_lines-same : (p q : Point) (lines : List (List Coordinates)) → AllByRecursion (Agree p q) lines → on_two_lines lines p ≡ on_two_lines lines q
on_two_lines-same p q lines a =
    any_two-same (Agree p q)
    (λ r s. on_line r p && on_line s p && not (is_among (ends_of r) p && is_among (ends_of s) p))
    (λ r s. on_line r q && on_line s q && not (is_among (ends_of r) q && is_among (ends_of s) q))
    lines
    (λ r s h k.
    ap (λ t. t && on_line s p && not (is_among (ends_of r) p && is_among (ends_of s) p)) (on_line-same p q r h)
    ∙ ap (λ t. on_line r q && t && not (is_among (ends_of r) p && is_among (ends_of s) p)) (on_line-same p q s k)
    ∙ ap (λ t. on_line r q && on_line s q && not (t && is_among (ends_of s) p)) (ends-same p q r h)
    ∙ ap (λ t. on_line r q && on_line s q && not (is_among (ends_of r) q && t)) (ends-same p q s k))
    a

-- ---- a polygon, as its rings, and several of them
any_within-same : (p q : Point) (holes : List (List Coordinates)) → AllByRecursion (Agree p q) holes →
    list_any (λ hole. within_ring hole p) holes ≡ list_any (λ hole. within_ring hole q) holes
any_within-same p q holes a =
    any-same (λ hole. within_ring hole p) (λ hole. within_ring hole q) holes
    (each-map (Agree p q) (λ hole. within_ring hole p ≡ within_ring hole q) holes (within_ring-same p q) a)

pub hole_outside-same : (p q : Point) (rings : List (List Coordinates)) → AllByRecursion (Agree p q) rings → in_hole_outside rings p ≡ in_hole_outside rings q
hole_outside-same p q [] a = refl
hole_outside-same p q (shell ∷ holes) a =
    ap (λ t. t && not (within_ring shell p)) (any_within-same p q holes a.1)
    ∙ ap (λ t. list_any (λ hole. within_ring hole q) holes && not t) (within_ring-same p q shell a.0)

pub two_holes-same : (p q : Point) (rings : List (List Coordinates)) → AllByRecursion (Agree p q) rings → in_two_holes rings p ≡ in_two_holes rings q
two_holes-same p q [] a = refl
two_holes-same p q (shell ∷ holes) a =
    any_two-same (Agree p q) (λ hole other. in_ring hole p && in_ring other p) (λ hole other. in_ring hole q && in_ring other q) holes
    (λ r s h k. ap (λ t. t && in_ring s p) (in_ring-same p q r h) ∙ ap (λ t. in_ring r q && t) (in_ring-same p q s k))
    a.1

in_polygon-same : (p q : Point) (rings : List (List Coordinates)) → AllByRecursion (Agree p q) rings → in_polygon rings p ≡ in_polygon rings q
in_polygon-same p q [] a = refl
in_polygon-same p q (shell ∷ holes) a =
    ap (λ t. t && not (list_any (λ hole. within_ring hole p) holes)) (in_ring-same p q shell a.0)
    ∙ ap (λ t. in_ring shell q && not t) (any_within-same p q holes a.1)

pub two_polygons-same : (p q : Point) (polygons : List (List (List Coordinates))) → AllByRecursion (AllByRecursion (Agree p q)) polygons →
    in_two_polygons polygons p ≡ in_two_polygons polygons q
two_polygons-same p q polygons a =
    any_two-same (AllByRecursion (Agree p q)) (λ rings others. in_polygon rings p && in_polygon others p) (λ rings others. in_polygon rings q && in_polygon others q) polygons
    (λ r s h k. ap (λ t. t && in_polygon s p) (in_polygon-same p q r h) ∙ ap (λ t. in_polygon r q && t) (in_polygon-same p q s k))
    a
