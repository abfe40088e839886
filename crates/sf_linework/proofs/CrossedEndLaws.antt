-- Lines at a point that is no end of their edges: no line ends there, so a point on them is in their interior, and one off all of
-- their edges is outside. Where edges cross at a point of no other edge, it is no end.
use Rattle.std.proofs.Common.{◌≡◌, refl, ap, sym, ◌∙◌, subst, ℤ, pos, ◌-ℤ◌, ◌*ℤ◌, arith, Bool, true, false, ◌&&◌, ◌||◌, not, List, [], ◌∷◌}
use Rattle.std.specs.List.{AllByRecursion, count_by}
use Rattle.std.specs.Ordering.{int_eq}
use Rattle.std.proofs.lemmas.Bool.{and_from, and_parts, both_ways, false_from_ne_true, or_from}
use Rattle.std.proofs.lemmas.Int.{ints}
use Rattle.sf_crossing.specs.Crossing.{HaveCrossing}
use Rattle.sf_geometry.specs.declared.geometry.Geometry.{Geometry}
use Rattle.sf_geometry.specs.declared.geometry.Geometry.TheVariants.{Point, LineString, Polygon, MultiPoint, MultiLineString, MultiPolygon}
use Rattle.sf_geometry.specs.Lists.{edges_between, edges_from, edges_of as edges_of_list, ends_of as ends_of_line, is_same, last_from, tight}
use Rattle.sf_geometry.specs.Parts.{edges_of}
use Rattle.sf_geometry.specs.PointSets.{in_boundary, in_exterior, in_interior, is_among, on_line}
use Rattle.sf_geometry.proofs.ListLaws.{ends-closed}
use Rattle.sf_grid.specs.Edge.{Edge as Line, IsOnEdge, on_edge}
use Rattle.sf_grid.specs.EvenOdd.{is_odd}
use Rattle.sf_grid.specs.Plane.{Coordinates, IsPoint, Point as PlanePoint, grid_point, same_point}
use Rattle.sf_grid.proofs.CallerLemmas.{eq_from_test, on_edge-swap, same_points_are_alike, test_from_eq}
use Rattle.sf_slabs.proofs.CallerLemmas.{each-append, each-map}
use Rattle.sf_plane.proofs.CombineLaws.{start_on_edge}
use Rattle.sf_plane.proofs.PlaceLaws.{IsIn}
use Rattle.sf_valid_rules.proofs.MemberLaws.{count-same, each-of_flat}
use Rattle.sf_valid_rules.proofs.TightLaws.{tight-ends}
use Rattle.sf_interiors.proofs.AlongLaws.{rise_to, run_to}
use Rattle.sf_interiors.proofs.DimensionLaws.{is_grid}
use Rattle.sf_interiors.proofs.InsideLaws.{IsOff}
use Rattle.sf_relate.specs.declared.shape.Shape.TheVariants.{Lines}
use Rattle.sf_relate.specs.Places.{shape_of}
use Rattle.sf_relate.proofs.AreasLaws.{any-flat}
use Rattle.sf_relate.proofs.CommonBoxLaws.{edge-is-in}
use Rattle.sf_relate.proofs.CornerLaws.{IsAmid}
use Rattle.sf_relate.proofs.OverlapLaws.{none-on}
use Rattle.sf_relate.proofs.PlaceLaws.{tight-of}
use Rattle.sf_relate.proofs.SectorLaws.{first-alone, first-amid}
use Rattle.sf_relate.proofs.ToldLaws.{exterior-from}

-- ---- the ends of lines are among those of their edges
-- the point is not at v
abbrev IsNotAt : PlanePoint → Coordinates → Type 0
IsNotAt q v = same_point (grid_point v) q ≡ false

-- nor at either end of the edge
abbrev pub EndsElsewhere : PlanePoint → Line → Type 0
EndsElsewhere q e = IsNotAt q e.a × IsNotAt q e.b

vertices : (q : PlanePoint) (p s : Coordinates) (rest : List Coordinates) → AllByRecursion (EndsElsewhere q) (edges_from p (s ∷ rest)) →
    AllByRecursion (IsNotAt q) (p ∷ s ∷ rest)
vertices q p s [] h = (h.0.0, (h.0.1, tt))
vertices q p s (t ∷ rest) h = (h.0.0, vertices q s t rest h.1)

none-among : (q : PlanePoint) (vs : List Coordinates) → AllByRecursion (IsNotAt q) vs → is_among vs q ≡ false
none-among q [] h = refl
none-among q (v ∷ vs) h = or_from (same_point (grid_point v) q) (is_among vs q) h.0 (none-among q vs h.1)

same-self : (p : Coordinates) → is_same p p ≡ true
same-self p = and_from (int_eq p.x p.x) (int_eq p.y p.y) (test_from_eq p.x p.x refl) (test_from_eq p.y p.y refl)

-- a line of one vertex is closed, and has no end
no-line-end : (q : PlanePoint) (ps : List Coordinates) → AllByRecursion (EndsElsewhere q) (edges_of_list ps) → is_among (ends_of_line ps) q ≡ false
no-line-end q [] h = refl
no-line-end q (p ∷ ps) h = let t = tight-of p ps in by_rest t.rest t.is t.last
  where
    by_rest : (rest : List Coordinates) → tight (p ∷ ps) ≡ p ∷ rest → last_from p rest ≡ last_from p ps → is_among (ends_of_line (p ∷ ps)) q ≡ false
    by_rest [] is last = ap (λ vs. is_among vs q) (ends-closed p ps (ap (is_same p) (sym last) ∙ same-self p))
    by_rest (s ∷ rest) is last =
        none-among q (ends_of_line (p ∷ ps))
        (tight-ends (IsNotAt q) (p ∷ ps)
        (subst (AllByRecursion (IsNotAt q)) (sym is) (vertices q p s rest (subst (λ ts. AllByRecursion (EndsElsewhere q) (edges_between ts)) is h))))

none-odd : (t : List Coordinates → Bool) (xs : List (List Coordinates)) → AllByRecursion (λ x. t x ≡ false) xs → is_odd (count_by t xs) ≡ false
none-odd t xs h = ap is_odd (count-same t (λ x. false) xs h ∙ none xs)
  where
    none : (ys : List (List Coordinates)) → count_by (λ (y : List Coordinates). false) ys ≡ 0
    none [] = refl
    none (y ∷ ys) = none ys

pub no-end : (a : Geometry) (q : PlanePoint) → shape_of a ≡ Lines → AllByRecursion (EndsElsewhere q) (edges_of a) → in_boundary a q ≡ false
no-end (LineString ps) q s h = no-line-end q ps (each-of_flat (EndsElsewhere q) edges_of_list (ps ∷ []) h).0
no-end (MultiLineString lines) q s h =
    none-odd (λ ps. is_among (ends_of_line ps) q) lines
    (each-map (λ ps. AllByRecursion (EndsElsewhere q) (edges_of_list ps)) (λ ps. is_among (ends_of_line ps) q ≡ false) lines (λ ps k. no-line-end q ps k)
    (each-of_flat (EndsElsewhere q) edges_of_list lines h))
no-end (Point p) q s h = absurd cc
no-end (MultiPoint ps) q s h = absurd cc
no-end (Polygon rings) q s h = absurd cc
no-end (MultiPolygon polygons) q s h = absurd cc

-- ---- on an edge
other-or : (b c : Bool) → c ≡ false → (b || c) ≡ true → b ≡ true
other-or true c e h = refl
other-or false c e h = absurd (both_ways c e h)

pub is-inside : (a : Geometry) (e : Line) (q : PlanePoint) → shape_of a ≡ Lines → AllByRecursion (EndsElsewhere q) (edges_of a) → IsIn (edges_of a) e → IsOnEdge e q →
    in_interior a q ≡ true
is-inside a e q s h i on = other-or (in_interior a q) (in_boundary a q) (no-end a q s h) (edge-is-in a e q i on)

-- ---- off all edges
elsewhere : (q : PlanePoint) → IsPoint q → (e : Line) → on_edge e q ≡ false → EndsElsewhere q e
elsewhere q i e off = (
  false_from_ne_true (same_point (grid_point e.a) q) (λ t. both_ways (on_edge e q) off (sym (same_points_are_alike e (grid_point e.a) q (is_grid e.a) i t).on ∙ start_on_edge e.a e.b)),
  false_from_ne_true (same_point (grid_point e.b) q)
      (λ t. both_ways (on_edge e q) off (sym (same_points_are_alike e (grid_point e.b) q (is_grid e.b) i t).on ∙ on_edge-swap e.a e.b (grid_point e.b) ∙ start_on_edge e.b e.a)),
)

off-ends : (q : PlanePoint) → IsPoint q → (es : List Line) → IsOff q es → AllByRecursion (EndsElsewhere q) es
off-ends q i es off = each-map (λ e. on_edge e q ≡ false) (EndsElsewhere q) es (elsewhere q i) off

or-none : (b : Bool) → (b || false) ≡ b
or-none true = refl
or-none false = refl

off-lines : (a : Geometry) (q : PlanePoint) → shape_of a ≡ Lines → IsOff q (edges_of a) → in_interior a q ≡ false
off-lines (LineString ps) q s off =
    ap (λ b. b && not (in_boundary (LineString ps) q))
    (sym (or-none (on_line ps q)) ∙ sym (any-flat (λ e. on_edge e q) edges_of_list (ps ∷ [])) ∙ none-on q (edges_of (LineString ps)) off)
off-lines (MultiLineString lines) q s off =
    ap (λ b. b && not (in_boundary (MultiLineString lines) q)) (sym (any-flat (λ e. on_edge e q) edges_of_list lines) ∙ none-on q (edges_of (MultiLineString lines)) off)
off-lines (Point p) q s off = absurd cc
off-lines (MultiPoint ps) q s off = absurd cc
off-lines (Polygon rings) q s off = absurd cc
off-lines (MultiPolygon polygons) q s off = absurd cc

pub is-outside : (a : Geometry) (q : PlanePoint) → shape_of a ≡ Lines → IsPoint q → IsOff q (edges_of a) → in_exterior a q ≡ true
is-outside a q s i off = exterior-from a q (or_from (in_interior a q) (in_boundary a q) (off-lines a q s off) (no-end a q s (off-ends q i (edges_of a) off)))

-- ---- where edges cross
not-at : (c : Coordinates) (q : PlanePoint) → (run_to c q ≡ pos 0 → rise_to c q ≡ pos 0 → ⊥) → IsNotAt q c
not-at c q n =
    false_from_ne_true (same_point (grid_point c) q)
    (λ t.
    let parts = and_parts (int_eq (c.x *ℤ pos q.d) (q.x *ℤ pos 1)) (int_eq (c.y *ℤ pos q.d) (q.y *ℤ pos 1)) t in
    n (no-step (c.x *ℤ pos q.d) q.x (eq_from_test _ _ parts.0)) (no-step (c.y *ℤ pos q.d) q.y (eq_from_test _ _ parts.1)))
  where
    no-step : (s x : ℤ) → s ≡ x *ℤ pos 1 → s -ℤ x ≡ pos 0
    no-step s x e = omega (arith, ints)

amid-elsewhere : (e : Line) (q : PlanePoint) → IsAmid e q → EndsElsewhere q e
amid-elsewhere e q m = (not-at e.a q m.off_start, not-at e.b q m.off_end)

pub crossing-ends : (es fs : List Line) (h : HaveCrossing es fs) → AllByRecursion (EndsElsewhere h.point) es
crossing-ends es fs h =
    let alone = first-alone es fs h in
    subst (λ gs. AllByRecursion (EndsElsewhere h.point) gs) (sym alone.is)
    (each-append (EndsElsewhere h.point) alone.before (h.first ∷ alone.after) (off-ends h.point h.is_point alone.before alone.off_before)
    (amid-elsewhere h.first h.point (first-amid es fs h), off-ends h.point h.is_point alone.after alone.off_after))
