-- A crossing of those edges of two geometries whose boxes meet the common box of both is one of all their edges: the point is in
-- that box, so no edge that has it was left out.
use Rattle.std.proofs.Common.{◌≡◌, ℕ, ◌+◌, ◌≤◌, arith, refl, ap, sym, ◌∙◌, subst, ℤ, pos, ◌*ℤ◌, Bool, true, false, cond, ◌&&◌, ◌||◌, not, List, [], ◌∷◌, map, ◌⊎◌, inl, inr}
use Rattle.std.specs.Prelude.{if◌then◌else◌, int_le}
use Rattle.std.specs.Int.{int_max, int_min}
use Rattle.std.specs.List.{count_by, list_any}
use Rattle.std.proofs.lemmas.Bool.{and_from, and_parts, both_ways, false_from_ne_true, or_right}
use Rattle.std.proofs.lemmas.Int.{by_lt_z, clamps, ints}
use Rattle.std.proofs.lemmas.List.Sums.{sum_by-cons}
use Rattle.sf_crossing.specs.Crossing.{HaveCrossing}
use Rattle.sf_edge_tree.specs.Meeting.{ends_meeting, ends_of_edge, extent_of_edge}
use Rattle.sf_geometry.specs.declared.extent.Extent.{Extent}
use Rattle.sf_geometry.specs.declared.geometry.Geometry.{Geometry}
use Rattle.sf_geometry.specs.declared.geometry.Geometry.TheVariants.{Point, LineString, Polygon, MultiPoint, MultiLineString, MultiPolygon}
use Rattle.sf_geometry.specs.Envelope.{common_extent, envelope_of, extents_meet}
use Rattle.sf_geometry.specs.Lists.{edges_of as edges_of_list}
use Rattle.sf_geometry.specs.Parts.{edge_of, edges_of}
use Rattle.sf_geometry.specs.PointSets.{in_boundary, in_interior, on_line}
use Rattle.sf_grid.specs.Edge.{Edge as Line, IsOnEdge, on_edge, within}
use Rattle.sf_grid.specs.Plane.{IsPoint, Point as PlanePoint, x_of, y_of}
use Rattle.sf_plane.proofs.BoxLaws.{common_point_meets, edge_in_box}
use Rattle.sf_plane.proofs.CoverLaws.{contains}
use Rattle.sf_plane.proofs.PlaceLaws.{IsIn}
use Rattle.sf_plane.proofs.ShareLaws.{in_from_contains}
use Rattle.sf_valid_rules.proofs.MemberLaws.{one-any}
use Rattle.sf_valid_rules.specs.Validity.{IsValid}
use Rattle.sf_validity.specs.Beside.{box_of_extent}
use Rattle.sf_relate.specs.Contact.{in_extent, is_in}
use Rattle.sf_relate.proofs.AreasLaws.{any-flat}
use Rattle.sf_relate.proofs.EnvelopeLaws.{lies_in_box, valid-closed}
use Rattle.sf_relate.proofs.OverlapLaws.{on-boundary}
-- ---- the box of an edge has its ends
pub use Rattle.sf_along.proofs.NearLaws.{has-ends}

-- ---- a point of two boxes is in their common one
between : (m n s t x : ℤ) (d : ℕ) → (int_le (m *ℤ pos d) x && int_le x (n *ℤ pos d)) ≡ true → (int_le (s *ℤ pos d) x && int_le x (t *ℤ pos d)) ≡ true →
    (int_le (int_max m s *ℤ pos d) x && int_le x (int_min n t *ℤ pos d)) ≡ true
between m n s t x d h k =
    let first = and_parts (int_le (m *ℤ pos d) x) (int_le x (n *ℤ pos d)) h in
    let second = and_parts (int_le (s *ℤ pos d) x) (int_le x (t *ℤ pos d)) k in
    and_from (int_le (int_max m s *ℤ pos d) x) (int_le x (int_min n t *ℤ pos d))
    (greater m s (int_le_of m s) first.0 second.0)
    (lesser n t (int_le_of n t) first.1 second.1)
  where
    int_le_of : (a b : ℤ) → ((int_max a b ≡ a) × (int_min a b ≡ b)) ⊎ ((int_max a b ≡ b) × (int_min a b ≡ a))
    int_le_of a b = by_lt_z a b (λ l. inr (omega (arith, ints, clamps), omega (arith, ints, clamps))) (λ l. inl (omega (arith, ints, clamps), omega (arith, ints, clamps)))

    greater : (a b : ℤ) → ((int_max a b ≡ a) × (int_min a b ≡ b)) ⊎ ((int_max a b ≡ b) × (int_min a b ≡ a)) → int_le (a *ℤ pos d) x ≡ true → int_le (b *ℤ pos d) x ≡ true → int_le (int_max a b *ℤ pos d) x ≡ true
    greater a b (inl e) f g = ap (λ z. int_le (z *ℤ pos d) x) e.0 ∙ f
    greater a b (inr e) f g = ap (λ z. int_le (z *ℤ pos d) x) e.0 ∙ g

    lesser : (a b : ℤ) → ((int_max a b ≡ a) × (int_min a b ≡ b)) ⊎ ((int_max a b ≡ b) × (int_min a b ≡ a)) → int_le x (a *ℤ pos d) ≡ true → int_le x (b *ℤ pos d) ≡ true → int_le x (int_min a b *ℤ pos d) ≡ true
    lesser a b (inl e) f g = ap (λ z. int_le x (z *ℤ pos d)) e.1 ∙ g
    lesser a b (inr e) f g = ap (λ z. int_le x (z *ℤ pos d)) e.1 ∙ f

pub in-common : (e f : Extent) (q : PlanePoint) → in_extent e q ≡ true → in_extent f q ≡ true → in_extent (common_extent e f) q ≡ true
in-common e f q h k =
    let first = and_parts (within e.min_x e.max_x (x_of q)) (within e.min_y e.max_y (y_of q)) h in
    let second = and_parts (within f.min_x f.max_x (x_of q)) (within f.min_y f.max_y (y_of q)) k in
    and_from _ _ (between e.min_x e.max_x f.min_x f.max_x q.x q.d first.0 second.0) (between e.min_y e.max_y f.min_y f.max_y q.y q.d first.1 second.1)

-- an edge with a point of a box has a box that meets it
meets : (box : Extent) (e : Line) (q : PlanePoint) → IsPoint q → in_extent box q ≡ true → on_edge e q ≡ true → extents_meet (extent_of_edge (ends_of_edge e)) box ≡ true
meets box e q i h on =
    common_point_meets (box_of_extent (extent_of_edge (ends_of_edge e))) (box_of_extent box) q i
    (edge_in_box (box_of_extent (extent_of_edge (ends_of_edge e))) e q (has-ends (ends_of_edge e)) i on) h

-- ---- the edges that are kept
count-cons : (t : Line → Bool) (e : Line) (es : List Line) → count_by t (e ∷ es) ≡ cond (t e) 1 0 + count_by t es
count-cons t e es = sum_by-cons (λ f. cond (t f) 1 0) e es

count-kept : (t : Line → Bool) (box : Extent) (es : List Line) → ((e : Line) → t e ≡ true → extents_meet (extent_of_edge (ends_of_edge e)) box ≡ true) →
    count_by t (map edge_of (ends_meeting box es)) ≡ count_by t es
count-kept t box [] h = refl
count-kept t box (e ∷ es) h = by_test (extents_meet (extent_of_edge (ends_of_edge e)) box) refl (count-kept t box es h)
  where
    by_test : (b : Bool) → extents_meet (extent_of_edge (ends_of_edge e)) box ≡ b → count_by t (map edge_of (ends_meeting box es)) ≡ count_by t es →
        count_by t (map edge_of (if b then ends_of_edge e ∷ ends_meeting box es else ends_meeting box es)) ≡ count_by t (e ∷ es)
    by_test true f k = count-cons t e (map edge_of (ends_meeting box es)) ∙ ap (λ n. cond (t e) 1 0 + n) k ∙ sym (count-cons t e es)
    by_test false f k =
        k
        ∙ sym (none (count_by t es))
        ∙ sym (ap (λ b. cond b 1 0 + count_by t es) (false_from_ne_true (t e) (λ c. both_ways (extents_meet (extent_of_edge (ends_of_edge e)) box) f (h e c))))
        ∙ sym (count-cons t e es)
      where
        none : (n : ℕ) → 0 + n ≡ n
        none n = omega arith

kept-in : (box : Extent) (es : List Line) (e : Line) → IsIn (map edge_of (ends_meeting box es)) e → IsIn es e
kept-in box [] e i = i
kept-in box (f ∷ es) e i = by_test (extents_meet (extent_of_edge (ends_of_edge f)) box) (kept-in box es e) i
  where
    by_test : (b : Bool) → (IsIn (map edge_of (ends_meeting box es)) e → IsIn es e) →
        IsIn (map edge_of (if b then ends_of_edge f ∷ ends_meeting box es else ends_meeting box es)) e → IsIn (f ∷ es) e
    by_test true rest (inl same) = inl same
    by_test true rest (inr later) = inr (rest later)
    by_test false rest later = inr (rest later)

-- ---- the edges of a geometry are in it
kept-or : (on end : Bool) → on ≡ true → ((on && not end) || end) ≡ true
kept-or true true h = refl
kept-or true false h = refl
kept-or false end h = absurd (both_ways false refl h)

or-none : (b : Bool) → (b || false) ≡ b
or-none true = refl
or-none false = refl

pub edge-is-in : (a : Geometry) (e : Line) (q : PlanePoint) → IsIn (edges_of a) e → IsOnEdge e q → is_in a q ≡ true
edge-is-in (Point p) e q i on = absurd i
edge-is-in (MultiPoint ps) e q i on = absurd i
edge-is-in (LineString ps) e q i on =
    kept-or (on_line ps q) (in_boundary (LineString ps) q)
    (sym (or-none (on_line ps q)) ∙ sym (any-flat (λ f. on_edge f q) edges_of_list (ps ∷ [])) ∙ one-any (λ f. on_edge f q) (edges_of (LineString ps)) e i on)
edge-is-in (MultiLineString lines) e q i on =
    kept-or (list_any (λ ps. on_line ps q) lines) (in_boundary (MultiLineString lines) q)
    (sym (any-flat (λ f. on_edge f q) edges_of_list lines) ∙ one-any (λ f. on_edge f q) (edges_of (MultiLineString lines)) e i on)
edge-is-in (Polygon rings) e q i on = or_right (in_interior (Polygon rings) q) (in_boundary (Polygon rings) q) (on-boundary (Polygon rings) e q refl i on)
edge-is-in (MultiPolygon polygons) e q i on =
    or_right (in_interior (MultiPolygon polygons) q) (in_boundary (MultiPolygon polygons) q) (on-boundary (MultiPolygon polygons) e q refl i on)

-- ---- all edges
pub crossing-of-all : (a b : Geometry) → IsValid a → IsValid b →
    let box = common_extent (envelope_of a) (envelope_of b) in
    HaveCrossing (map edge_of (ends_meeting box (edges_of a))) (map edge_of (ends_meeting box (edges_of b))) → HaveCrossing (edges_of a) (edges_of b)
crossing-of-all a b v w h =
    let box = common_extent (envelope_of a) (envelope_of b) in
    let first = kept-in box (edges_of a) h.first (in_from_contains (map edge_of (ends_meeting box (edges_of a))) h.first h.of_first) in
    let second = kept-in box (edges_of b) h.second (in_from_contains (map edge_of (ends_meeting box (edges_of b))) h.second h.of_second) in
    let inside =
    in-common (envelope_of a) (envelope_of b) h.point
    (lies_in_box a h.point (valid-closed a v) h.is_point (edge-is-in a h.first h.point first h.on_first))
    (lies_in_box b h.point (valid-closed b w) h.is_point (edge-is-in b h.second h.point second h.on_second)) in
    record {
      first = h.first;
      second = h.second;
      point = h.point;
      is_point = h.is_point;
      of_first = contains (edges_of a) h.first first;
      of_second = contains (edges_of b) h.second second;
      on_first = h.on_first;
      on_second = h.on_second;
      crossing = h.crossing;
      first_alone = subst (λ n. n ≤ 1) (count-kept (λ e. on_edge e h.point) box (edges_of a) (λ e on. meets box e h.point h.is_point inside on)) h.first_alone;
      second_alone = subst (λ n. n ≤ 1) (count-kept (λ e. on_edge e h.point) box (edges_of b) (λ e on. meets box e h.point h.is_point inside on)) h.second_alone;
    }
