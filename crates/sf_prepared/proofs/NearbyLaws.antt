-- The edges in the columns over a geometry's box, from its lower side up: they tell the place of each of its points, and where one of them leaves the box, the area has parts beyond it.
use Rattle.std.proofs.Common.{◌≡◌, ◌≢◌, ℕ, ◌≤◌, arith, lit<, refl, ap, sym, ◌∙◌, subst, ℤ, pos, ◌+ℤ◌, ◌-ℤ◌, ◌*ℤ◌, ◌<ℤ◌, ◌≤ℤ◌, Bool, true, false, ◌&&◌, ◌||◌, not, List, [], ◌∷◌, length, map, filter, inl, inr}
use Rattle.std.specs.Prelude.{◌^◌, ◌-◌, if◌then◌else◌, int_lt}
use Rattle.std.specs.Int.{int_max}
use Rattle.std.specs.List.{AllByRecursion, list_any}
use Rattle.std.proofs.lemmas.Bool.{and_from, and_parts, both_ways, false_from_ne_true, or_cases}
use Rattle.std.proofs.lemmas.Int.{clamps, ints}
use Rattle.std.proofs.lemmas.List.Elements.{All-filter, All-from_recursion, recursion_from_All}
use Rattle.sf_grid.specs.Bounds.{grid_max}
use Rattle.sf_grid.specs.Edge.{Edge as Line, edge_above, on_edge}
use Rattle.sf_grid.specs.EvenOdd.{edges_above, is_odd}
use Rattle.sf_grid.specs.Plane.{Coordinates, IsPoint, Point as PlanePoint, grid_point}
use Rattle.sf_grid.proofs.CallerLemmas.{lt_from_mul, lt_from_test, mul_le}
use Rattle.sf_slabs.proofs.CallerLemmas.{each-map}
use Rattle.sf_geometry.specs.declared.extent.Extent.{Extent}
use Rattle.sf_geometry.specs.declared.geometry.Geometry.{Geometry}
use Rattle.sf_geometry.specs.declared.geometry.Geometry.TheVariants.{LineString, MultiLineString, MultiPoint, MultiPolygon, Point, Polygon}
use Rattle.sf_geometry.specs.Envelope.{envelope_of, extent_at, extents_meet}
use Rattle.sf_geometry.specs.Lists.{is_same}
use Rattle.sf_geometry.specs.Parts.{edge_of, edges_of}
use Rattle.sf_geometry.specs.PointSets.{in_boundary, in_exterior, in_interior}
use Rattle.sf_geometry.proofs.ListLaws.{same-is}
use Rattle.sf_interiors.specs.Dimensions.{interior_dim}
use Rattle.sf_interiors.specs.Vertices.{HasBeside, beside, is_beside}
use Rattle.sf_interiors.proofs.ChainLaws.{odd-count}
use Rattle.sf_interiors.proofs.DimensionLaws.{long-edges}
use Rattle.sf_interiors.proofs.SideLaws.{differ}
use Rattle.sf_interiors.proofs.VertexLaws.{areas_have_beside}
use Rattle.sf_plane.specs.declared.dim.Dim.TheVariants.{Two}
use Rattle.sf_plane.specs.Dimension.{PointSet}
use Rattle.sf_plane.proofs.BoxLaws.{common_point_meets, edge_in_box}
use Rattle.sf_valid_rules.specs.Validity.{IsValid}
use Rattle.sf_validity.specs.Beside.{box_of_extent}
use Rattle.sf_validity.specs.Held.{IsHeld}
use Rattle.sf_relate.specs.Contact.{in_extent, is_in}
use Rattle.sf_relate.specs.declared.shape.Shape.TheVariants.{Areas}
use Rattle.sf_relate.specs.Locating.{area_place, edges_place}
use Rattle.sf_relate.specs.Matrices.{both}
use Rattle.sf_relate.specs.Nearby.{ReachesBeyond, TellPlaces}
use Rattle.sf_relate.specs.Places.{IsPlaceOf, shape_of}
use Rattle.sf_relate.proofs.TestedPlaces.{tests_tell_places}
use Rattle.sf_relate.proofs.ToldLaws.{exterior-from}
use Rattle.sf_edge_tree.specs.Meeting.{extent_of_edge}
use Rattle.sf_prepared.specs.Boxes.{AreEdgesOf, AreOnGrid, pairs_of}
use Rattle.sf_prepared.specs.Nearby.{LeavingReachesBeyond, NearbyTellsPlaces, columns_over, leaves, nearby}
use Rattle.sf_prepared.proofs.AboveLaws.{above-meets, boxed-from, boxed-sides, own-box}
use Rattle.sf_prepared.proofs.PlacedLaws.{boxed, has-rings}
use Rattle.sf_relate.proofs.CommonBoxLaws.{has-ends}
use Rattle.sf_prepared.proofs.EdgeLaws.{few-pairs, none-said, pairs-edges, pairs-on-grid}

-- ---- an edge that has a point of the box is one of them
on-meets : (pair : Coordinates × Coordinates) (q : PlanePoint) (extent : Extent) → AreOnGrid pair → IsPoint q → in_extent extent q ≡ true → on_edge (edge_of pair) q ≡ true →
    extents_meet (extent_of_edge pair) (columns_over extent) ≡ true
on-meets pair q extent grid i inside on =
    let own = extent_of_edge pair in
    let in_own = edge_in_box (box_of_extent own) (edge_of pair) q (has-ends pair) i on in
    let b = boxed-sides extent q inside in
    common_point_meets (box_of_extent own) (box_of_extent (columns_over extent)) q i in_own
    (boxed-from (columns_over extent) q
    (record {
      left = b.left;
      right = b.right;
      bottom = b.bottom;
      top =
          upto (own.max_y *ℤ pos q.d) (pos (2 ^ 31 - 1) *ℤ pos q.d) (boxed-sides own q in_own).top
          (mul_le own.max_y (pos (2 ^ 31 - 1)) q.d (small pair.0.y pair.1.y grid.0.1.1 grid.1.1.1));
    }))
  where
    upto : (m n : ℤ) → q.y ≤ℤ m → m ≤ℤ n → q.y ≤ℤ n
    upto m n s t = omega (arith, ints)

    small : (a b : ℤ) → a ≤ℤ grid_max → b ≤ℤ grid_max → int_max a b ≤ℤ pos (2 ^ 31 - 1)
    small a b s t = omega (arith, ints, clamps)

-- ---- what is told of all edges, those that are kept tell
-- a value that each edge for which a test holds changes, and no other one
record IsByTest (test : Line → Bool) (join : Bool → Bool → Bool) (value : List Line → Bool) : Type 0 where
  idle : (b : Bool) → join false b ≡ b
  next : (e : Line) (es : List Line) → value (e ∷ es) ≡ join (test e) (value es)

kept-tell : (keep : Coordinates × Coordinates → Bool) (test : Line → Bool) (join : Bool → Bool → Bool) (value : List Line → Bool) (pairs : List (Coordinates × Coordinates)) → IsByTest test join value →
    AllByRecursion (λ pair. test (edge_of pair) ≡ true → keep pair ≡ true) pairs → value (map edge_of (filter keep pairs)) ≡ value (map edge_of pairs)
kept-tell keep test join value [] by h = refl
kept-tell keep test join value (pair ∷ pairs) by h = by_keep (keep pair) refl (kept-tell keep test join value pairs by h.1)
  where
    by_keep : (t : Bool) → keep pair ≡ t → value (map edge_of (filter keep pairs)) ≡ value (map edge_of pairs) →
        value (map edge_of (if t then pair ∷ filter keep pairs else filter keep pairs)) ≡ value (map edge_of (pair ∷ pairs))
    by_keep true e k = by.next (edge_of pair) (map edge_of (filter keep pairs)) ∙ ap (join (test (edge_of pair))) k ∙ sym (by.next (edge_of pair) (map edge_of pairs))
    by_keep false e k =
        k
        ∙ sym (by.idle (value (map edge_of pairs)))
        ∙ sym (ap (λ t. join t (value (map edge_of pairs))) (false_from_ne_true (test (edge_of pair)) (λ t. both_ways (keep pair) e (h.0 t))))
        ∙ sym (by.next (edge_of pair) (map edge_of pairs))

abbrev keep : Extent → Coordinates × Coordinates → Bool
keep extent pair = extents_meet (extent_of_edge pair) (columns_over extent)

nearby-parity : (extent : Extent) (pairs : List (Coordinates × Coordinates)) (q : PlanePoint) → AllByRecursion AreOnGrid pairs → IsPoint q → in_extent extent q ≡ true →
    is_odd (edges_above q (map edge_of (nearby extent pairs))) ≡ is_odd (edges_above q (map edge_of pairs))
nearby-parity extent pairs q grid i inside =
    kept-tell (keep extent) (λ e. edge_above e q) differ (λ es. is_odd (edges_above q es)) pairs (record { idle = λ b. refl; next = odd-count (λ e. edge_above e q) })
    (each-map AreOnGrid (λ pair. edge_above (edge_of pair) q ≡ true → keep extent pair ≡ true) pairs (λ pair g. above-meets pair q extent g i inside) grid)

-- those in the columns over a point of the grid
pub odd-above : (p : Coordinates) (extent : Extent) (pairs near slice : List (Coordinates × Coordinates)) → AllByRecursion AreOnGrid pairs → extent ≡ extent_at p → near ≡ nearby extent pairs → slice ≡ near →
    is_odd (edges_above (grid_point p) (map edge_of slice)) ≡ is_odd (edges_above (grid_point p) (map edge_of pairs))
odd-above p extent pairs near slice grid at found same =
    ap (λ es. is_odd (edges_above (grid_point p) (map edge_of es))) (same ∙ found ∙ ap (λ e. nearby e pairs) at)
    ∙ nearby-parity (extent_at p) pairs (grid_point p) grid (record { positive = lit< tt }) (own-box p)

nearby-place : (extent : Extent) (pairs : List (Coordinates × Coordinates)) (q : PlanePoint) → AllByRecursion AreOnGrid pairs → IsPoint q → in_extent extent q ≡ true →
    edges_place (map edge_of (nearby extent pairs)) q ≡ edges_place (map edge_of pairs) q
nearby-place extent pairs q grid i inside =
    ap (λ on. area_place on (is_odd (edges_above q (map edge_of (nearby extent pairs)))))
    (kept-tell (keep extent) (λ e. on_edge e q) (λ b c. b || c) (λ es. list_any (λ e. on_edge e q) es) pairs (record { idle = λ b. refl; next = λ e es. refl })
    (each-map AreOnGrid (λ pair. on_edge (edge_of pair) q ≡ true → keep extent pair ≡ true) pairs (λ pair g. on-meets pair q extent g i inside) grid))
    ∙ ap (area_place (list_any (λ e. on_edge e q) (map edge_of pairs))) (nearby-parity extent pairs q grid i inside)

nearby-tell : (a b : Geometry) (pairs : List (Coordinates × Coordinates)) → IsValid a → IsValid b → shape_of b ≡ Areas → AreEdgesOf b pairs → AllByRecursion AreOnGrid pairs →
    TellPlaces a b (map edge_of (nearby (envelope_of a) pairs))
nearby-tell a b pairs v w s are grid q i there =
    let r = has-rings b w s in
    subst (IsPlaceOf b q)
    (r.places q ∙ ap (λ es. edges_place es q) (sym r.edges ∙ sym are) ∙ sym (nearby-place (envelope_of a) pairs q grid i (boxed a q v i there)))
    (tests_tell_places b q w i)

-- ---- what holds of each edge of the area holds of each that is kept
each-kept : (P : Line → Type 0) (keep : Coordinates × Coordinates → Bool) (pairs : List (Coordinates × Coordinates)) → AllByRecursion P (map edge_of pairs) → AllByRecursion (λ pair. P (edge_of pair)) (filter keep pairs)
each-kept P keep pairs h =
    recursion_from_All (λ pair. P (edge_of pair)) (filter keep pairs) (All-filter keep (λ pair. P (edge_of pair)) pairs (All-from_recursion (λ pair. P (edge_of pair)) pairs (of_pairs pairs h)))
  where
    of_pairs : (ps : List (Coordinates × Coordinates)) → AllByRecursion P (map edge_of ps) → AllByRecursion (λ pair. P (edge_of pair)) ps
    of_pairs [] k = tt
    of_pairs (pair ∷ ps) k = (k.0, of_pairs ps k.1)

nearby-long : (b : Geometry) (extent : Extent) (pairs : List (Coordinates × Coordinates)) → IsValid b → shape_of b ≡ Areas → AreEdgesOf b pairs →
    AllByRecursion (λ pair. is_same pair.0 pair.1 ≡ false) (nearby extent pairs)
nearby-long b extent pairs w s are =
    let r = has-rings b w s in
    each-map (λ pair. pair.0 ≢ pair.1) (λ pair. is_same pair.0 pair.1 ≡ false) (nearby extent pairs)
    (λ pair differ. false_from_ne_true (is_same pair.0 pair.1) (λ same. differ (same-is pair.0 pair.1 same)))
    (each-kept (λ e. e.a ≢ e.b) (λ pair. extents_meet (extent_of_edge pair) (columns_over extent)) pairs
    (subst (AllByRecursion (λ (e : Line). e.a ≢ e.b)) (sym (are ∙ r.edges)) (long-edges r.rings)))

nearby-few : (b : Geometry) (extent : Extent) (pairs : List (Coordinates × Coordinates)) → IsValid b → AreEdgesOf b pairs → length (nearby extent pairs) ≤ 65536
nearby-few b extent pairs w are = chain (fewer pairs) (few-pairs b b pairs w.sized refl are)
  where
    chain : {l m n : ℕ} → l ≤ m → m ≤ n → l ≤ n
    chain h k = omega (arith, h, k)

    fewer : (ps : List (Coordinates × Coordinates)) → length (nearby extent ps) ≤ length ps
    fewer [] = omega arith
    fewer (pair ∷ ps) = by_test (extents_meet (extent_of_edge pair) (columns_over extent)) (fewer ps)
      where
        by_test : (t : Bool) → length (nearby extent ps) ≤ length ps → length (if t then pair ∷ nearby extent ps else nearby extent ps) ≤ length (pair ∷ ps)
        by_test true h = omega (arith, h)
        by_test false h = omega (arith, h)

-- ---- where one of them leaves the box
-- a place is in a range where a point less than a step from it is
from-low : (low v z : ℤ) (d : ℕ) → (low *ℤ pos d) ≤ℤ z → z <ℤ ((v +ℤ pos 1) *ℤ pos d) → (low *ℤ pos 1) ≤ℤ v
from-low low v z d f g = once (lt_from_mul low (v +ℤ pos 1) d (across (low *ℤ pos d) ((v +ℤ pos 1) *ℤ pos d) f g))
  where
    across : (m n : ℤ) → m ≤ℤ z → z <ℤ n → m <ℤ n
    across m n s t = omega (arith, ints)

    once : low <ℤ (v +ℤ pos 1) → (low *ℤ pos 1) ≤ℤ v
    once s = omega (arith, ints)

to-high : (v high z : ℤ) (d : ℕ) → ((v -ℤ pos 1) *ℤ pos d) <ℤ z → z ≤ℤ (high *ℤ pos d) → v ≤ℤ (high *ℤ pos 1)
to-high v high z d f g = once (lt_from_mul (v -ℤ pos 1) high d (across ((v -ℤ pos 1) *ℤ pos d) (high *ℤ pos d) f g))
  where
    across : (m n : ℤ) → m <ℤ z → z ≤ℤ n → m <ℤ n
    across m n s t = omega (arith, ints)

    once : (v -ℤ pos 1) <ℤ high → v ≤ℤ (high *ℤ pos 1)
    once s = omega (arith, ints)

beside-beyond : (extent : Extent) (v : Coordinates) (q : PlanePoint) → in_extent extent (grid_point v) ≡ false → is_beside v q ≡ true → in_extent extent q ≡ false
beside-beyond extent v q off near =
    false_from_ne_true (in_extent extent q)
    (λ h.
    let b = boxed-sides extent q h in
    let parts = and_parts (int_lt ((v.x -ℤ pos 1) *ℤ pos q.d) q.x && int_lt q.x ((v.x +ℤ pos 1) *ℤ pos q.d)) (int_lt ((v.y -ℤ pos 1) *ℤ pos q.d) q.y && int_lt q.y ((v.y +ℤ pos 1) *ℤ pos q.d)) near in
    let x = and_parts (int_lt ((v.x -ℤ pos 1) *ℤ pos q.d) q.x) (int_lt q.x ((v.x +ℤ pos 1) *ℤ pos q.d)) parts.0 in
    let y = and_parts (int_lt ((v.y -ℤ pos 1) *ℤ pos q.d) q.y) (int_lt q.y ((v.y +ℤ pos 1) *ℤ pos q.d)) parts.1 in
    both_ways (in_extent extent (grid_point v)) off
    (boxed-from extent (grid_point v)
    (record {
      left = from-low extent.min_x v.x q.x q.d b.left (lt_from_test _ _ x.1);
      right = to-high v.x extent.max_x q.x q.d (lt_from_test _ _ x.0) b.right;
      bottom = from-low extent.min_y v.y q.y q.d b.bottom (lt_from_test _ _ y.1);
      top = to-high v.y extent.max_y q.y q.d (lt_from_test _ _ y.0) b.top;
    })))

beyond-from : (a b : Geometry) (v : Coordinates) → IsValid a → in_extent (envelope_of a) (grid_point v) ≡ false → HasBeside b v → ReachesBeyond a b
beyond-from a b v w off has =
    let t = has.interior in
    let s = has.boundary in
    record {
      interior = record { a = t.a; b = t.b; c = t.c; is_a = t.is_a; is_b = t.is_b; is_c = t.is_c; wide = t.wide; has = λ q i inside. outside (in_interior b) q i (t.has q i inside) };
      boundary = record { a = s.a; b = s.b; is_a = s.is_a; is_b = s.is_b; differ = s.differ; has = λ q i between. outside (in_boundary b) q i (s.has q i between) };
    }
  where
    outside : (set : PointSet) (q : PlanePoint) → IsPoint q → beside v set q ≡ true → both (in_exterior a) set q ≡ true
    outside set q i h =
        let parts = and_parts (set q) (is_beside v q) h in
        and_from (in_exterior a q) (set q)
        (exterior-from a q (false_from_ne_true (is_in a q) (λ t. both_ways (in_extent (envelope_of a) q) (beside-beyond (envelope_of a) v q off parts.1) (boxed a q w i t))))
        parts.0

-- an edge of the list with an end out of the box
one-beyond : (a b : Geometry) (pairs : List (Coordinates × Coordinates)) → IsValid a → AllByRecursion (λ pair. HasBeside b pair.0 × HasBeside b pair.1) pairs → list_any (leaves (envelope_of a)) pairs ≡ true → ReachesBeyond a b
one-beyond a b [] v h k = absurd (both_ways false refl k)
one-beyond a b (pair ∷ pairs) v h k =
    elim (or_cases (leaves (envelope_of a) pair) (list_any (leaves (envelope_of a)) pairs) k) [
      | inl here ↦
          elim (or_cases (not (in_extent (envelope_of a) (grid_point pair.0))) (not (in_extent (envelope_of a) (grid_point pair.1))) here) [
            | inl first ↦ beyond-from a b pair.0 v (none-said (in_extent (envelope_of a) (grid_point pair.0)) first) h.0.0
            | inr second ↦ beyond-from a b pair.1 v (none-said (in_extent (envelope_of a) (grid_point pair.1)) second) h.0.1
          ]
      | inr later ↦ one-beyond a b pairs v h.1 later
    ]

-- of an area that has parts beside each end of its edges
area-beyond : (a b : Geometry) (pairs : List (Coordinates × Coordinates)) → IsValid a → IsValid b → shape_of b ≡ Areas → AreEdgesOf b pairs → list_any (leaves (envelope_of a)) (nearby (envelope_of a) pairs) ≡ true →
    ReachesBeyond a b
area-beyond a b pairs v w s are k =
    one-beyond a b (nearby (envelope_of a) pairs) v
    (each-kept (λ e. HasBeside b e.a × HasBeside b e.b) (λ pair. extents_meet (extent_of_edge pair) (columns_over (envelope_of a))) pairs
    (subst (AllByRecursion (λ (e : Line). HasBeside b e.a × HasBeside b e.b)) (sym are) (areas_have_beside b w (is-two b s))))
    k
  where
    is-two : (area : Geometry) → shape_of area ≡ Areas → interior_dim area ≡ Two
    is-two (Point p) e = absurd cc
    is-two (MultiPoint ps) e = absurd cc
    is-two (LineString ps) e = absurd cc
    is-two (MultiLineString lines) e = absurd cc
    is-two (Polygon rings) e = refl
    is-two (MultiPolygon polygons) e = refl

-- ---- as they are called
-- what a walk over these edges in place of the area's asks of them
pub record AreEnough (a b : Geometry) (edges : List (Coordinates × Coordinates)) : Type 0 where
  pub few : length edges ≤ 65536
  pub long : AllByRecursion (λ pair. is_same pair.0 pair.1 ≡ false) edges
  pub places : TellPlaces a b (map edge_of edges)
  pub beyond : ReachesBeyond a b

pub nearby-enough : (a b : Geometry) (extent : Extent) (edges : List (Coordinates × Coordinates)) → IsHeld a → IsHeld b → shape_of b ≡ Areas → extent ≡ envelope_of a → edges ≡ nearby extent (pairs_of b) →
    list_any (leaves extent) edges ≡ true → AreEnough a b edges
nearby-enough a b extent edges v w s is those one =
    let pairs = pairs_of b in
    let are = pairs-edges (edges_of b) in
    let near = those ∙ ap (λ e. nearby e pairs) is in
    subst (AreEnough a b) (sym near)
    (record {
      few = nearby-few b (envelope_of a) pairs w.valid are;
      long = nearby-long b (envelope_of a) pairs w.valid s are;
      places = nearby-tell a b pairs v.valid w.valid s are (pairs-on-grid b w.on_grid);
      beyond = area-beyond a b pairs v.valid w.valid s are (ap (list_any (leaves (envelope_of a))) (sym near) ∙ ap (λ e. list_any (leaves e) edges) (sym is) ∙ one);
    })

-- ---- as laws
pub nearby-tells-places : NearbyTellsPlaces
nearby-tells-places a area pairs beside =
    nearby-tell a area pairs beside.valid beside.valid_area beside.areal beside.edges beside.on_grid

pub leaving-reaches-beyond : LeavingReachesBeyond
leaving-reaches-beyond a area pairs beside one =
    area-beyond a area pairs beside.valid beside.valid_area beside.areal beside.edges one
