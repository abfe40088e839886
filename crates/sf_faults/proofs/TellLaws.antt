-- The condition of each candidate applies at the samples of the rings just where it applies over the plane.
use Rattle.std.proofs.Common.{◌≡◌, ◌≢◌, refl, ap, ◌∙◌, ℕ, ◌+◌, Bool, true, ◌&&◌, ◌||◌, not, List, [], ◌∷◌, ◌++◌, length, map}
use Rattle.std.specs.Prelude.{nat_eq, nat_lt}
use Rattle.std.specs.List.{AllByRecursion, enumerate_from, flat_map, list_any, zip}
use Rattle.std.proofs.lemmas.Bool.{and_from, and_parts, not-true, not_from_false}
use Rattle.std.proofs.lemmas.List.Elements.{recursion_from_All}
use Rattle.sf_slabs.proofs.CallerLemmas.{each-append, each-map}
use Rattle.sf_grid.specs.Plane.{Coordinates, IsPoint, Point, grid_point, same_point}
use Rattle.sf_grid.specs.Edge.{Edge as Line, edge_above, on_edge}
use Rattle.sf_grid.specs.EvenOdd.{edges_above, is_odd}
use Rattle.sf_strips.specs.declared.piece.Piece.TheVariants.{Dot, Edge}
use Rattle.sf_cells.specs.Samples.{Sample, samples}
use Rattle.sf_plane.proofs.CoverLaws.{contains, in_append_left}
use Rattle.sf_plane.proofs.PlaceLaws.{IsIn}
use Rattle.sf_plane.proofs.SampleCellLaws.{every_sample}
use Rattle.sf_plane.proofs.ShareLaws.{in_from_contains}
use Rattle.sf_plane.proofs.TwiceLaws.{shared_sampled}
use Rattle.sf_plane.specs.Cover.{IsInCell}
use Rattle.sf_plane.specs.Laws.{ShareTwoPoints}
use Rattle.sf_geometry.specs.Lists.{edges_of, is_closed, tight}
use Rattle.sf_geometry.specs.Parts.{joined}
use Rattle.sf_geometry.specs.PointSets.{in_polygon, in_ring, on_line, within_ring}
use Rattle.sf_valid_rules.specs.declared.fault.Fault.{Fault}
use Rattle.sf_valid_rules.specs.declared.fault.Fault.TheVariants.{ShortLine, OpenRing, ShortRing, RingNotSimple, RingsMeet, HoleOutside, HolesNested, PolygonsOverlap}
use Rattle.sf_valid_rules.specs.Conditions.{AtTwoPoints}
use Rattle.sf_valid_rules.specs.Shapes.{is_joint, on_both}
use Rattle.sf_valid_rules.specs.Verdicts.{pieces_of, points_among}
use Rattle.sf_valid_rules.proofs.AgreeLaws.{Agree, AgreeAt, AgreeBy}
use Rattle.sf_valid_rules.proofs.MemberLaws.{any-one, any-same, count-same, each-from_in, each-in, each-numbered, each-to_flat, each-to_map, in_flat_map, in_map, one-any}
use Rattle.sf_valid_rules.proofs.SampledLaws.{Tells, all_pieces, plain-tells, point-tells}
use Rattle.sf_valid_rules.proofs.TightLaws.{edges-differ, edges-ends}
use Rattle.sf_faults.specs.declared.place.Spot.{Spot}
use Rattle.sf_faults.specs.Candidates.{Candidate, candidates_among, crossings_of, do_edges_meet, edge_outside, edges_meeting, edges_shared, hole_outside, holes_nested, is_edge_outside, is_hole_outside, nested_in, open_ring, outside_at, outside_in, parts_overlap, share_two, shared_by, short_line, short_ring}
use Rattle.sf_faults.specs.Orders.{numbered, pairs, pairs_after, placed_from, placed_in, placed_rings, spot, with_last, written_edges, edge_numbers}

abbrev pub TellsCandidate : List (List Coordinates) → Candidate → Type 0
TellsCandidate rings c = Tells rings c.condition

-- ---- members
-- of a list that is zipped with numbers
each-zip : {X : Type 0} (P : X → Type 0) (ns : List ℕ) (xs : List X) → AllByRecursion P xs → AllByRecursion (λ (e : ℕ × X). P e.1) (zip ns xs)
each-zip P [] xs h = tt
each-zip P (n ∷ ns) [] h = tt
each-zip P (n ∷ ns) (x ∷ xs) h = (h.0, each-zip P ns xs h.1)

-- of pairs
each-pair_after : {X : Type 0} (P : X → Type 0) (before xs : List X) → AllByRecursion P before → AllByRecursion P xs → AllByRecursion (λ (e : X × X). P e.0 × P e.1) (pairs_after before xs)
each-pair_after P before [] h k = tt
each-pair_after {X} P before (x ∷ xs) h k =
    each-append (λ (e : X × X). P e.0 × P e.1) (with_last before x) (pairs_after (before ++ x ∷ []) xs)
    (each-to_map (λ (e : X × X). P e.0 × P e.1) (λ e. (e, x)) before (each-map P (λ e. P e × P x) before (λ e p. (p, k.0)) h))
    (each-pair_after P (before ++ x ∷ []) xs (each-append P before (x ∷ []) h (k.0, tt)) k.1)

each-pair : {X : Type 0} (P : X → Type 0) (xs : List X) → AllByRecursion P xs → AllByRecursion (λ (e : X × X). P e.0 × P e.1) (pairs xs)
each-pair P xs h = each-pair_after P [] xs tt h

-- each ring is among the rings
each-placed : (rings : List (List Coordinates)) (n : ℕ) (polygons : List (List (List Coordinates))) → AllByRecursion (AllByRecursion (IsIn rings)) polygons →
    AllByRecursion (λ (r : Spot × List Coordinates). IsIn rings r.1) (placed_from n polygons)
each-placed rings n [] h = tt
each-placed rings n (polygon ∷ polygons) h =
    each-append (λ (r : Spot × List Coordinates). IsIn rings r.1) (placed_in n polygon) (placed_from (n + 1) polygons)
    (each-to_map (λ (r : Spot × List Coordinates). IsIn rings r.1) (λ (ring : ℕ × List Coordinates). (spot n ring.0, ring.1)) (numbered polygon)
    (each-numbered (IsIn rings) 0 polygon h.0))
    (each-placed rings (n + 1) polygons h.1)

all-in : (polygons : List (List (List Coordinates))) → AllByRecursion (AllByRecursion (IsIn (joined polygons))) polygons
all-in polygons =
    each-from_in (AllByRecursion (IsIn (joined polygons))) polygons
    (λ rings i. each-from_in (IsIn (joined polygons)) rings (λ ring j. in_flat_map (λ rs. rs) polygons rings ring i j))

-- ---- points that agree on rings pass the tests alike
on_line-same : (p q : Point) (ps : List Coordinates) → Agree p q ps → on_line ps p ≡ on_line ps q
on_line-same p q ps a =
    any-same (λ e. on_edge e p) (λ e. on_edge e q) (edges_of ps) (each-map (AgreeBy p q) (λ e. on_edge e p ≡ on_edge e q) (edges_of ps) (λ e h. h.0) a.edges)

above-same : (p q : Point) (ps : List Coordinates) → Agree p q ps → edges_above p (edges_of ps) ≡ edges_above q (edges_of ps)
above-same p q ps a =
    count-same (λ e. edge_above e p) (λ e. edge_above e q) (edges_of ps)
    (each-map (AgreeBy p q) (λ e. edge_above e p ≡ edge_above e q) (edges_of ps) (λ e h. h.1) a.edges)

in_ring-same : (p q : Point) (ring : List Coordinates) → Agree p q ring → in_ring ring p ≡ in_ring ring q
in_ring-same p q ring a =
    ap (λ b. not b && is_odd (edges_above p (edges_of ring))) (on_line-same p q ring a)
    ∙ ap (λ n. not (on_line ring q) && is_odd n) (above-same p q ring a)

within_ring-same : (p q : Point) (ring : List Coordinates) → Agree p q ring → within_ring ring p ≡ within_ring ring q
within_ring-same p q ring a =
    ap (λ b. b || in_ring ring p) (on_line-same p q ring a) ∙ ap (λ b. on_line ring q || b) (in_ring-same p q ring a)

in_polygon-same : (p q : Point) (rings : List (List Coordinates)) → AllByRecursion (Agree p q) rings → in_polygon rings p ≡ in_polygon rings q
in_polygon-same p q [] a = refl
in_polygon-same p q (shell ∷ holes) a =
    ap (λ t. t && not (list_any (λ hole. within_ring hole p) holes)) (in_ring-same p q shell a.0)
    ∙ ap (λ t. in_ring shell q && not t)
    (any-same (λ hole. within_ring hole p) (λ hole. within_ring hole q) holes
    (each-map (Agree p q) (λ hole. within_ring hole p ≡ within_ring hole q) holes (within_ring-same p q) a.1))

-- an edge of a ring
edge-agrees : (p q : Point) (ring : List Coordinates) (e : Line) → Agree p q ring → IsIn (edges_of ring) e → AgreeBy p q e
edge-agrees p q ring e a i = each-in (AgreeBy p q) (edges_of ring) a.edges e i

ends-agree : (p q : Point) (ring : List Coordinates) (e : Line) → Agree p q ring → IsIn (edges_of ring) e → AgreeAt p q e.a × AgreeAt p q e.b
ends-agree p q ring e a i = each-in (λ (f : Line). AgreeAt p q f.a × AgreeAt p q f.b) (edges_of ring) (edges-ends (AgreeAt p q) ring a.vertices) e i

both-same : (p q : Point) (e f : Line) → AgreeBy p q e → AgreeBy p q f → on_both e f p ≡ on_both e f q
both-same p q e f a b = ap (λ t. t && on_edge f p) a.0 ∙ ap (λ t. on_edge e q && t) b.0

joint-same : (p q : Point) (closed : Bool) (count : ℕ) (e f : ℕ × Line) → AgreeAt p q e.1.a × AgreeAt p q e.1.b → is_joint closed count e f p ≡ is_joint closed count e f q
joint-same p q closed count e f a =
    ap (λ b. (nat_eq f.0 (e.0 + 1) && b) || (closed && nat_eq e.0 0 && nat_eq (f.0 + 1) count && same_point (grid_point e.1.a) p)) a.1
    ∙ ap (λ b. (nat_eq f.0 (e.0 + 1) && same_point (grid_point e.1.b) q) || (closed && nat_eq e.0 0 && nat_eq (f.0 + 1) count && b)) a.0

meet-same : (p q : Point) (ring : List Coordinates) (e f : ℕ × (ℕ × Line)) → Agree p q ring → IsIn (edges_of ring) e.1.1 → IsIn (edges_of ring) f.1.1 →
    do_edges_meet ring e f p ≡ do_edges_meet ring e f q
meet-same p q ring e f a i j =
    ap (λ t. t && not (is_joint (is_closed ring) (length (edges_of ring)) (e.0, e.1.1) (f.0, f.1.1) p))
    (both-same p q e.1.1 f.1.1 (edge-agrees p q ring e.1.1 a i) (edge-agrees p q ring f.1.1 a j))
    ∙ ap (λ t. on_both e.1.1 f.1.1 q && not t)
    (joint-same p q (is_closed ring) (length (edges_of ring)) (e.0, e.1.1) (f.0, f.1.1) (ends-agree p q ring e.1.1 a i))

-- ---- two edges that share two points
point-in : (lists : List (List Coordinates)) (s : Sample) → IsIn (samples (all_pieces lists)) s → IsIn (points_among lists) s.point
point-in lists s i = in_map (λ (s : Sample). s.point) (samples (all_pieces lists)) s i

among-points : (lists : List (List Coordinates)) → AllByRecursion IsPoint (points_among lists)
among-points lists =
    each-to_map IsPoint (λ (s : Sample). s.point) (samples (all_pieces lists))
    (each-map (λ s. IsPoint s.point × IsInCell (all_pieces lists) s.point s) (λ s. IsPoint s.point) (samples (all_pieces lists)) (λ s h. h.0)
    (recursion_from_All (λ s. IsPoint s.point × IsInCell (all_pieces lists) s.point s) (samples (all_pieces lists)) (every_sample (all_pieces lists))))

edge-in : (rings : List (List Coordinates)) (ring : List Coordinates) (e : Line) → IsIn rings ring → IsIn (edges_of ring) e → IsIn (all_pieces rings) (Edge e.a e.b)
edge-in rings ring e i j =
    in_flat_map pieces_of rings ring (Edge e.a e.b) i
    (in_append_left (map (λ (f : Line). Edge f.a f.b) (edges_of ring)) (map Dot (tight ring)) (Edge e.a e.b) (in_map (λ (f : Line). Edge f.a f.b) (edges_of ring) e j))

-- an edge of one of the rings
pub record IsEdgeIn (rings : List (List Coordinates)) (e : Line) : Type 0 where
  pub ring : List Coordinates
  pub ring_in : IsIn rings ring
  pub edge_in : IsIn (edges_of ring) e

share-two : (e f : Line) (p q : Point) → IsPoint p → IsPoint q → share_two e f p q ≡ true → ShareTwoPoints e f
share-two e f p q i j h =
    let parts = and_parts (not (same_point p q)) (on_both e f p && on_both e f q) h in
    let on = and_parts (on_both e f p) (on_both e f q) parts.1 in
    record {
      first = p;
      second = q;
      is_first = i;
      is_second = j;
      differ = not-true (same_point p q) parts.0;
      first_on_both = and_parts (on_edge e p) (on_edge f p) on.0;
      second_on_both = and_parts (on_edge e q) (on_edge f q) on.1;
    }

shared-tells : (rings : List (List Coordinates)) (e f : Line) → IsEdgeIn rings e → IsEdgeIn rings f → Tells rings (AtTwoPoints (share_two e f))
shared-tells rings e f i j = (
  λ h.
      let first = any-one (λ p. list_any (share_two e f p) (points_among rings)) (points_among rings) h in
      let second = any-one (share_two e f first.one) (points_among rings) first.passes in (
        first.one,
        second.one,
        each-in IsPoint (points_among rings) (among-points rings) first.one first.among,
        each-in IsPoint (points_among rings) (among-points rings) second.one second.among,
        second.passes,
      ),
  λ a.
      let shared =
      shared_sampled (all_pieces rings) e f
      (contains (all_pieces rings) (Edge e.a e.b) (edge-in rings i.ring e i.ring_in i.edge_in))
      (contains (all_pieces rings) (Edge f.a f.b) (edge-in rings j.ring f j.ring_in j.edge_in))
      (each-in (λ (e : Line). e.a ≢ e.b) (edges_of i.ring) (edges-differ i.ring) e i.edge_in)
      (each-in (λ (e : Line). e.a ≢ e.b) (edges_of j.ring) (edges-differ j.ring) f j.edge_in)
      (share-two e f a.0 a.1 a.2 a.3 a.4) in
      one-any (λ p. list_any (share_two e f p) (points_among rings)) (points_among rings) shared.first.point
      (point-in rings shared.first (in_from_contains (samples (all_pieces rings)) shared.first shared.first_among))
      (one-any (share_two e f shared.first.point) (points_among rings) shared.second.point
      (point-in rings shared.second (in_from_contains (samples (all_pieces rings)) shared.second shared.second_among))
      (and_from (not (same_point shared.first.point shared.second.point)) (on_both e f shared.first.point && on_both e f shared.second.point)
      (not_from_false (same_point shared.first.point shared.second.point) shared.differ)
      (and_from (on_both e f shared.first.point) (on_both e f shared.second.point)
      (and_from (on_edge e shared.first.point) (on_edge f shared.first.point) shared.first_on_both.0 shared.first_on_both.1)
      (and_from (on_edge e shared.second.point) (on_edge f shared.second.point) shared.second_on_both.0 shared.second_on_both.1)))),
)

-- ---- the candidates of each fault
lines-tell : (lines : List (List Coordinates)) (rings : List (List Coordinates)) → AllByRecursion (TellsCandidate rings) (map short_line (numbered lines))
lines-tell lines rings =
    each-to_map (TellsCandidate rings) short_line (numbered lines)
    (each-from_in (λ line. TellsCandidate rings (short_line line)) (numbered lines) (λ line i. plain-tells rings (nat_lt (length (tight line.1)) 2)))

open-tells : (polygons : List (List (List Coordinates))) → AllByRecursion (TellsCandidate (joined polygons)) (map open_ring (placed_rings polygons))
open-tells polygons =
    each-to_map (TellsCandidate (joined polygons)) open_ring (placed_rings polygons)
    (each-from_in (λ ring. TellsCandidate (joined polygons) (open_ring ring)) (placed_rings polygons) (λ ring i. plain-tells (joined polygons) (not (is_closed ring.1))))

short-tells : (polygons : List (List (List Coordinates))) → AllByRecursion (TellsCandidate (joined polygons)) (map short_ring (placed_rings polygons))
short-tells polygons =
    each-to_map (TellsCandidate (joined polygons)) short_ring (placed_rings polygons)
    (each-from_in (λ ring. TellsCandidate (joined polygons) (short_ring ring)) (placed_rings polygons) (λ ring i. plain-tells (joined polygons) (nat_lt (length (tight ring.1)) 4)))

-- the edges of a ring are among them
edges-in : (ring : List Coordinates) → AllByRecursion (IsIn (edges_of ring)) (edges_of ring)
edges-in ring = each-from_in (IsIn (edges_of ring)) (edges_of ring) (λ e i. i)

written-in : (ring : List Coordinates) → AllByRecursion (λ (e : ℕ × Line). IsIn (edges_of ring) e.1) (written_edges ring)
written-in ring = each-zip (IsIn (edges_of ring)) (edge_numbers ring) (edges_of ring) (edges-in ring)

crossings-tell : (rings : List (List Coordinates)) (ring : Spot × List Coordinates) → IsIn rings ring.1 → AllByRecursion (TellsCandidate rings) (crossings_of ring)
crossings-tell rings ring i =
    let Is : ℕ × (ℕ × Line) → Type 0 = λ e. IsIn (edges_of ring.1) e.1.1 in
    each-to_map (TellsCandidate rings) (edges_meeting ring) (pairs (numbered (written_edges ring.1)))
    (each-map (λ (e : (ℕ × (ℕ × Line)) × (ℕ × (ℕ × Line))). Is e.0 × Is e.1) (λ e. TellsCandidate rings (edges_meeting ring e)) (pairs (numbered (written_edges ring.1)))
    (λ e h. point-tells rings (do_edges_meet ring.1 e.0 e.1) (λ p q a. meet-same p q ring.1 e.0 e.1 (each-in (Agree p q) rings a ring.1 i) h.0 h.1))
    (each-pair Is (numbered (written_edges ring.1)) (each-numbered (λ (e : ℕ × Line). IsIn (edges_of ring.1) e.1) 0 (written_edges ring.1) (written-in ring.1))))

placed-in : (polygons : List (List (List Coordinates))) → AllByRecursion (λ (r : Spot × List Coordinates). IsIn (joined polygons) r.1) (placed_rings polygons)
placed-in polygons = each-placed (joined polygons) 0 polygons (all-in polygons)

simple-tells : (polygons : List (List (List Coordinates))) → AllByRecursion (TellsCandidate (joined polygons)) (flat_map crossings_of (placed_rings polygons))
simple-tells polygons =
    each-to_flat (TellsCandidate (joined polygons)) crossings_of (placed_rings polygons)
    (each-map (λ (r : Spot × List Coordinates). IsIn (joined polygons) r.1) (λ r. AllByRecursion (TellsCandidate (joined polygons)) (crossings_of r)) (placed_rings polygons)
    (λ r i. crossings-tell (joined polygons) r i) (placed-in polygons))

edge-is_in : (rings : List (List Coordinates)) (ring : List Coordinates) (e : Line) → IsIn rings ring → IsIn (edges_of ring) e → IsEdgeIn rings e
edge-is_in rings ring e i j = record { ring = ring; ring_in = i; edge_in = j }

between-tells : (rings : List (List Coordinates)) (pair : (Spot × List Coordinates) × (Spot × List Coordinates)) → IsIn rings pair.0.1 → IsIn rings pair.1.1 →
    AllByRecursion (TellsCandidate rings) (shared_by pair)
between-tells rings pair i j =
    let first = pair.0 in
    let second = pair.1 in
    each-to_flat (TellsCandidate rings) (λ f. map (λ e. edges_shared first.0 second.0 e f) (written_edges first.1)) (written_edges second.1)
    (each-map (λ (f : ℕ × Line). IsIn (edges_of second.1) f.1) (λ f. AllByRecursion (TellsCandidate rings) (map (λ e. edges_shared first.0 second.0 e f) (written_edges first.1))) (written_edges second.1)
    (λ f k.
    each-to_map (TellsCandidate rings) (λ e. edges_shared first.0 second.0 e f) (written_edges first.1)
    (each-map (λ (e : ℕ × Line). IsIn (edges_of first.1) e.1) (λ e. TellsCandidate rings (edges_shared first.0 second.0 e f)) (written_edges first.1)
    (λ e l. shared-tells rings e.1 f.1 (edge-is_in rings first.1 e.1 i l) (edge-is_in rings second.1 f.1 j k)) (written-in first.1)))
    (written-in second.1))

shared-all : (polygons : List (List (List Coordinates))) → AllByRecursion (TellsCandidate (joined polygons)) (flat_map shared_by (pairs (placed_rings polygons)))
shared-all polygons =
    let Is : Spot × List Coordinates → Type 0 = λ r. IsIn (joined polygons) r.1 in
    each-to_flat (TellsCandidate (joined polygons)) shared_by (pairs (placed_rings polygons))
    (each-map (λ (r : (Spot × List Coordinates) × (Spot × List Coordinates)). Is r.0 × Is r.1) (λ r. AllByRecursion (TellsCandidate (joined polygons)) (shared_by r)) (pairs (placed_rings polygons))
    (λ r i. between-tells (joined polygons) r i.0 i.1) (each-pair Is (placed_rings polygons) (placed-in polygons)))

-- the holes of a part against its shell
outside-same : (p q : Point) (shell : List Coordinates) (s t : Bool) → s ≡ t → Agree p q shell → (s && not (within_ring shell p)) ≡ (t && not (within_ring shell q))
outside-same p q shell s t e a = ap (λ b. b && not (within_ring shell p)) e ∙ ap (λ b. t && not b) (within_ring-same p q shell a)

outside_at-tells : (rings : List (List Coordinates)) (part : ℕ) (shell : List Coordinates) (hole : ℕ × List Coordinates) → IsIn rings shell → IsIn rings hole.1 →
    AllByRecursion (TellsCandidate rings) (outside_at part shell hole)
outside_at-tells rings part shell hole i j =
    each-append (TellsCandidate rings) (map (edge_outside shell (spot part hole.0)) (written_edges hole.1)) (hole_outside shell (spot part hole.0) hole.1 ∷ [])
    (each-to_map (TellsCandidate rings) (edge_outside shell (spot part hole.0)) (written_edges hole.1)
    (each-map (λ (e : ℕ × Line). IsIn (edges_of hole.1) e.1) (λ e. TellsCandidate rings (edge_outside shell (spot part hole.0) e)) (written_edges hole.1)
    (λ e k.
    point-tells rings (is_edge_outside shell e.1)
    (λ p q a. outside-same p q shell (on_edge e.1 p) (on_edge e.1 q) (edge-agrees p q hole.1 e.1 (each-in (Agree p q) rings a hole.1 j) k).0 (each-in (Agree p q) rings a shell i)))
    (written-in hole.1))) (
      point-tells rings (is_hole_outside shell hole.1)
          (λ p q a.
          outside-same p q shell (within_ring hole.1 p) (within_ring hole.1 q) (within_ring-same p q hole.1 (each-in (Agree p q) rings a hole.1 j)) (each-in (Agree p q) rings a shell i)),
      tt,
    )

outside_in-tells : (rings : List (List Coordinates)) (n : ℕ) (polygon : List (List Coordinates)) → AllByRecursion (IsIn rings) polygon → AllByRecursion (TellsCandidate rings) (outside_in (n, polygon))
outside_in-tells rings n [] h = tt
outside_in-tells rings n (shell ∷ holes) h =
    each-to_flat (TellsCandidate rings) (outside_at n shell) (enumerate_from 1 holes)
    (each-map (λ (hole : ℕ × List Coordinates). IsIn rings hole.1) (λ hole. AllByRecursion (TellsCandidate rings) (outside_at n shell hole)) (enumerate_from 1 holes)
    (λ hole j. outside_at-tells rings n shell hole h.0 j) (each-numbered (IsIn rings) 1 holes h.1))

-- the holes of a part among one another
inside_both-same : (p q : Point) (r s : List Coordinates) → Agree p q r → Agree p q s → (in_ring r p && in_ring s p) ≡ (in_ring r q && in_ring s q)
inside_both-same p q r s a b = ap (λ t. t && in_ring s p) (in_ring-same p q r a) ∙ ap (λ t. in_ring r q && t) (in_ring-same p q s b)

nested_in-tells : (rings : List (List Coordinates)) (n : ℕ) (polygon : List (List Coordinates)) → AllByRecursion (IsIn rings) polygon → AllByRecursion (TellsCandidate rings) (nested_in (n, polygon))
nested_in-tells rings n [] h = tt
nested_in-tells rings n (shell ∷ holes) h =
    let Is : ℕ × List Coordinates → Type 0 = λ hole. IsIn rings hole.1 in
    each-to_map (TellsCandidate rings) (holes_nested n) (pairs (enumerate_from 1 holes))
    (each-map (λ (e : (ℕ × List Coordinates) × (ℕ × List Coordinates)). Is e.0 × Is e.1) (λ e. TellsCandidate rings (holes_nested n e)) (pairs (enumerate_from 1 holes))
    (λ e i.
    point-tells rings (λ p. in_ring e.0.1 p && in_ring e.1.1 p)
    (λ p q a. inside_both-same p q e.0.1 e.1.1 (each-in (Agree p q) rings a e.0.1 i.0) (each-in (Agree p q) rings a e.1.1 i.1)))
    (each-pair Is (enumerate_from 1 holes) (each-numbered (IsIn rings) 1 holes h.1)))

-- each part
parts-tell : (polygons : List (List (List Coordinates))) (f : ℕ × List (List Coordinates) → List Candidate) →
    ((n : ℕ) (polygon : List (List Coordinates)) → AllByRecursion (IsIn (joined polygons)) polygon → AllByRecursion (TellsCandidate (joined polygons)) (f (n, polygon))) →
    AllByRecursion (TellsCandidate (joined polygons)) (flat_map f (numbered polygons))
parts-tell polygons f tell =
    each-to_flat (TellsCandidate (joined polygons)) f (numbered polygons)
    (each-map (λ (part : ℕ × List (List Coordinates)). AllByRecursion (IsIn (joined polygons)) part.1) (λ part. AllByRecursion (TellsCandidate (joined polygons)) (f part)) (numbered polygons)
    (λ part h. tell part.0 part.1 h) (each-numbered (AllByRecursion (IsIn (joined polygons))) 0 polygons (all-in polygons)))

-- the parts among one another
agree-each : (p q : Point) (rings polygon : List (List Coordinates)) → AllByRecursion (IsIn rings) polygon → AllByRecursion (Agree p q) rings → AllByRecursion (Agree p q) polygon
agree-each p q rings polygon h a = each-map (IsIn rings) (Agree p q) polygon (λ ring i. each-in (Agree p q) rings a ring i) h

overlap-tells : (polygons : List (List (List Coordinates))) → AllByRecursion (TellsCandidate (joined polygons)) (map parts_overlap (pairs (numbered polygons)))
overlap-tells polygons =
    let rings = joined polygons in
    let Is : ℕ × List (List Coordinates) → Type 0 = λ part. AllByRecursion (IsIn rings) part.1 in
    each-to_map (TellsCandidate rings) parts_overlap (pairs (numbered polygons))
    (each-map (λ (e : (ℕ × List (List Coordinates)) × (ℕ × List (List Coordinates))). Is e.0 × Is e.1) (λ e. TellsCandidate rings (parts_overlap e)) (pairs (numbered polygons))
    (λ e i.
    point-tells rings (λ p. in_polygon e.0.1 p && in_polygon e.1.1 p)
    (λ p q a.
    ap (λ t. t && in_polygon e.1.1 p) (in_polygon-same p q e.0.1 (agree-each p q rings e.0.1 i.0 a))
    ∙ ap (λ t. in_polygon e.0.1 q && t) (in_polygon-same p q e.1.1 (agree-each p q rings e.1.1 i.1 a))))
    (each-pair Is (numbered polygons) (each-numbered (AllByRecursion (IsIn rings)) 0 polygons (all-in polygons))))

pub candidates-tell : (lines : List (List Coordinates)) (polygons : List (List (List Coordinates))) (fault : Fault) →
    AllByRecursion (TellsCandidate (joined polygons)) (candidates_among lines polygons fault)
candidates-tell lines polygons ShortLine = lines-tell lines (joined polygons)
candidates-tell lines polygons OpenRing = open-tells polygons
candidates-tell lines polygons ShortRing = short-tells polygons
candidates-tell lines polygons RingNotSimple = simple-tells polygons
candidates-tell lines polygons RingsMeet = shared-all polygons
candidates-tell lines polygons HoleOutside = parts-tell polygons outside_in (outside_in-tells (joined polygons))
candidates-tell lines polygons HolesNested = parts-tell polygons nested_in (nested_in-tells (joined polygons))
candidates-tell lines polygons PolygonsOverlap = overlap-tells polygons
