-- Less than a grid step away from each end of its edges a valid area has a triangle of its interior and a segment of its boundary.
use Rattle.std.proofs.Common.{◌≡◌, ◌≢◌, ℕ, ◌+◌, ◌<◌, arith, sym, ◌∙◌, ℤ, pos, ◌+ℤ◌, ◌-ℤ◌, ◌*ℤ◌, ◌<ℤ◌, true, unsigned_abs, List, [], ◌∷◌}
use Rattle.std.specs.List.{AllByRecursion, flat_map}
use Rattle.std.proofs.lemmas.Bool.{and_from, and_parts}
use Rattle.std.proofs.lemmas.Int.{ints}
use Rattle.sf_grid.specs.Edge.{Edge as Line, IsOnEdge, edge_between, on_edge}
use Rattle.sf_grid.specs.Plane.{Coordinates, IsPoint, Point, grid_point}
use Rattle.sf_grid.proofs.CallerLemmas.{on_edge-swap, test_from_lt}
use Rattle.sf_plane.proofs.CombineLaws.{start_on_edge}
use Rattle.sf_plane.proofs.FormLaws.{ArePositive, Form, between_in, growths, nudged, nudged_in, value}
use Rattle.sf_plane.proofs.GuardLaws.{left_of, over, right_of, under, value-left_of, value-over, value-right_of, value-under}
use Rattle.sf_plane.specs.Dimension.{HasSegment, IsBetween, PointSet}
use Rattle.sf_geometry.specs.declared.geometry.Geometry.{Geometry}
use Rattle.sf_geometry.specs.declared.geometry.Geometry.TheVariants.{LineString, MultiLineString, MultiPoint, MultiPolygon, Point as OnePoint, Polygon}
use Rattle.sf_geometry.specs.Lists.{edges_of}
use Rattle.sf_geometry.specs.Parts.{joined}
use Rattle.sf_geometry.specs.PointSets.{in_boundary, in_interior, in_polygon, on_polygon}
use Rattle.sf_valid_rules.proofs.MemberLaws.{each-from_in, each-in, each-of_flat, each-to_flat, one-any}
use Rattle.sf_interiors.specs.Vertices.{AreasHaveBeside, HasBeside, beside, is_beside}
use Rattle.sf_interiors.proofs.AlongLaws.{rise_to, run_to}
use Rattle.sf_interiors.proofs.ApartLaws.{IsSound}
use Rattle.sf_interiors.proofs.DimensionLaws.{is_grid, little, long-edges, polygon-triangle, short-segment, size_of, sound-polygons, wider-triangle}
use Rattle.sf_interiors.proofs.ParityLaws.{on-edges}

-- ---- the points less than a step away from a grid point: those where four forms are positive
abbrev room : Coordinates → List Form
room v =
    right_of (record { num = v.x -ℤ pos 1; den = 1 })
    ∷ left_of (record { num = v.x +ℤ pos 1; den = 1 })
    ∷ over (record { num = v.y -ℤ pos 1; den = 1 })
    ∷ under (record { num = v.y +ℤ pos 1; den = 1 })
    ∷ []

room-beside : (v : Coordinates) (p : Point) → ArePositive (room v) p → is_beside v p ≡ true
room-beside v p h =
    and_from _ _
    (and_from _ _
    (test_from_lt _ _ (low _ p.x ((v.x -ℤ pos 1) *ℤ pos p.d) (value-right_of (record { num = v.x -ℤ pos 1; den = 1 }) p) h.0))
    (test_from_lt _ _ (high _ p.x ((v.x +ℤ pos 1) *ℤ pos p.d) (value-left_of (record { num = v.x +ℤ pos 1; den = 1 }) p) h.1.0)))
    (and_from _ _
    (test_from_lt _ _ (low _ p.y ((v.y -ℤ pos 1) *ℤ pos p.d) (value-over (record { num = v.y -ℤ pos 1; den = 1 }) p) h.1.1.0))
    (test_from_lt _ _ (high _ p.y ((v.y +ℤ pos 1) *ℤ pos p.d) (value-under (record { num = v.y +ℤ pos 1; den = 1 }) p) h.1.1.1.0)))
  where
    low : (w z b : ℤ) → w ≡ z *ℤ pos 1 -ℤ b → pos 0 <ℤ w → b <ℤ z
    low w z b e l = omega (arith, ints)

    high : (w z b : ℤ) → w ≡ b -ℤ z *ℤ pos 1 → pos 0 <ℤ w → z <ℤ b
    high w z b e l = omega (arith, ints)

room-at : (v : Coordinates) → ArePositive (room v) (grid_point v)
room-at v = (omega (arith, ints), (omega (arith, ints), (omega (arith, ints), (omega (arith, ints), tt))))

room-near : (v : Coordinates) (i j : ℤ) (k : ℕ) → unsigned_abs i + unsigned_abs j < k → ArePositive (room v) (nudged k i j (grid_point v))
room-near v i j k h =
    let at = room-at v in (
      near (right_of (record { num = v.x -ℤ pos 1; den = 1 })) (omega (arith, ints)) at.0,
      (
        near (left_of (record { num = v.x +ℤ pos 1; den = 1 })) (omega (arith, ints)) at.1.0,
        (
          near (over (record { num = v.y -ℤ pos 1; den = 1 })) (omega (arith, ints)) at.1.1.0,
          (near (under (record { num = v.y +ℤ pos 1; den = 1 })) (omega (arith, ints)) at.1.1.1.0, tt),
        ),
      ),
    )
  where
    near : (f : Form) → growths i j (f ∷ []) < k → pos 0 <ℤ value f (grid_point v) → pos 0 <ℤ value f (nudged k i j (grid_point v))
    near f g o = (nudged_in (f ∷ []) k i j (grid_point v) g (o, tt)).0

-- ---- the beginning of an edge is less than a step away from its start
between-beside : (e : Line) (p : Point) → IsPoint p → IsBetween (grid_point e.a) (little e (size_of e)) p → is_beside e.a p ≡ true
between-beside e p i b =
    room-beside e.a p
    (between_in (room e.a) (grid_point e.a) (little e (size_of e)) p (is_grid e.a) i b (room-at e.a)
    (room-near e.a (run_to e.b (grid_point e.a)) (rise_to e.b (grid_point e.a)) (size_of e + 1) (omega arith)))

segment-beside : (e : Line) (set : PointSet) → e.a ≢ e.b → ((p : Point) → IsOnEdge e p → set p ≡ true) → HasSegment (beside e.a set)
segment-beside e set n on = short-segment e (beside e.a set) n (λ p i l b. and_from (set p) (is_beside e.a p) (on p l) (between-beside e p i b))

-- ---- a polygon of an area, by its rings
record IsOf (rings : List (List Coordinates)) (area : Geometry) : Type 0 where
  sound : IsSound rings
  inside : (p : Point) → in_polygon rings p ≡ true → in_interior area p ≡ true
  on : (p : Point) → on_polygon rings p ≡ true → in_boundary area p ≡ true

-- the start of an edge of it has both beside it
start-has : (rings : List (List Coordinates)) (area : Geometry) (e : Line) → IsOf rings area → e.a ≢ e.b → ((p : Point) → IsOnEdge e p → on_polygon rings p ≡ true) → HasBeside area e.a
start-has rings area e o n on =
    record {
      interior =
          wider-triangle (beside e.a (in_polygon rings)) (beside e.a (in_interior area))
          (λ p h.
          let parts = and_parts (in_polygon rings p) (is_beside e.a p) h in
          and_from (in_interior area p) (is_beside e.a p) (o.inside p parts.0) parts.1)
          (polygon-triangle rings e.a o.sound (on (grid_point e.a) (start_on_edge e.a e.b)));
      boundary = segment-beside e (in_boundary area) n (λ p l. o.on p (on p l));
    }

-- both ends of an edge have them: turned round, it starts at the other one
abbrev EndsHave : Geometry → Line → Type 0
EndsHave area e = HasBeside area e.a × HasBeside area e.b

ends-have : (rings : List (List Coordinates)) (area : Geometry) → IsOf rings area → AllByRecursion (EndsHave area) (flat_map edges_of rings)
ends-have rings area o =
    each-from_in (EndsHave area) (flat_map edges_of rings)
    (λ e among.
    let n = each-in (λ (f : Line). f.a ≢ f.b) (flat_map edges_of rings) (long-edges rings) e among in
    let on = λ (p : Point) (l : IsOnEdge e p). sym (on-edges rings p) ∙ one-any (λ f. on_edge f p) (flat_map edges_of rings) e among l in (
      start-has rings area e o n on,
      start-has rings area (edge_between e.b e.a) o (λ h. n (sym h)) (λ p l. on p (on_edge-swap e.a e.b p ∙ l)),
    ))

-- ---- the law
pub areas_have_beside : AreasHaveBeside
areas_have_beside (OnePoint p) v two = tt
areas_have_beside (MultiPoint ps) v two = tt
areas_have_beside (LineString ps) v two = absurd cc
areas_have_beside (MultiLineString lines) v two = absurd cc
areas_have_beside (Polygon rings) v two =
    ends-have rings (Polygon rings) (record { sound = (sound-polygons (rings ∷ []) v.faultless).0; inside = λ p h. h; on = λ p h. h })
areas_have_beside (MultiPolygon polygons) v two =
    let area = MultiPolygon polygons in
    each-to_flat (EndsHave area) edges_of (joined polygons)
    (each-to_flat (λ ring. AllByRecursion (EndsHave area) (edges_of ring)) (λ rings. rings) polygons
    (each-from_in (λ rings. AllByRecursion (λ ring. AllByRecursion (EndsHave area) (edges_of ring)) rings) polygons
    (λ rings among.
    each-of_flat (EndsHave area) edges_of rings
    (ends-have rings area
    (record {
      sound = each-in IsSound polygons (sound-polygons polygons v.faultless) rings among;
      inside = λ p h. one-any (λ others. in_polygon others p) polygons rings among h;
      on = λ p h. one-any (λ others. on_polygon others p) polygons rings among h;
    })))))
