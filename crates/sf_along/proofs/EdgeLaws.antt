-- The ends of each edge of a geometry differ, so the runs of its edges are runs.
use Rattle.std.proofs.Common.{◌≡◌, ◌≢◌, refl, sym, subst, Bool, true, false, List, [], ◌∷◌, ◌++◌, map}
use Rattle.std.specs.Prelude.{None, Option, Some, fold, if◌then◌else◌}
use Rattle.std.specs.List.{All, AllByRecursion, flat_map}
use Rattle.std.proofs.lemmas.Bool.{and_from, both_ways}
use Rattle.std.proofs.lemmas.List.Elements.{All-append, All-filter, All-from_recursion, All-map}
use Rattle.sf_grid.specs.Plane.{Coordinates}
use Rattle.sf_grid.specs.Edge.{Edge as Line}
use Rattle.sf_grid.proofs.CallerLemmas.{test_from_eq}
use Rattle.sf_grid.proofs.PieceLaws.{sorted}
use Rattle.sf_geometry.specs.declared.extent.Extent.{Extent}
use Rattle.sf_geometry.specs.declared.geometry.Geometry.{Geometry}
use Rattle.sf_geometry.specs.declared.geometry.Geometry.TheVariants.{Point, LineString, Polygon, MultiPoint, MultiLineString, MultiPolygon}
use Rattle.sf_geometry.specs.Envelope.{extents_meet, grown}
use Rattle.sf_geometry.specs.Lists.{before_tight, edges_between, edges_from, edges_of as edges_of_list, is_same, tight}
use Rattle.sf_geometry.specs.Parts.{edges_of, joined, points_of}
use Rattle.sf_edge_tree.specs.Meeting.{ends_meeting, ends_of_edge, extent_of_edge}
use Rattle.sf_along.specs.Near.{edges_near, near_edges}
use Rattle.sf_along.specs.Runs.{IsRun, run_of, runs_of}

-- ---- neighbours of a tight list differ
-- no point of the list is the one after it
abbrev DifferFrom : Coordinates → List Coordinates → Type 0
DifferFrom p [] = Unit {0}
DifferFrom p (q ∷ qs) = (is_same p q ≡ false) × DifferFrom q qs

abbrev Differ : List Coordinates → Type 0
Differ [] = Unit {0}
Differ (p ∷ ps) = DifferFrom p ps

before-differ : (p : Coordinates) (qs : List Coordinates) → Differ qs → Differ (before_tight p qs)
before-differ p [] h = tt
before-differ p (q ∷ qs) h = by_same (is_same p q) refl
  where
    by_same : (t : Bool) → is_same p q ≡ t → Differ (if t then q ∷ qs else p ∷ q ∷ qs)
    by_same true e = h
    by_same false e = (e, h)

tight-differ : (ps : List Coordinates) → Differ (tight ps)
tight-differ [] = tt
tight-differ (p ∷ ps) = before-differ p (tight ps) (tight-differ ps)

differ-is : (p q : Coordinates) → is_same p q ≡ false → p ≢ q
differ-is p q h e =
    both_ways (is_same p q) h (subst (λ (r : Coordinates). is_same p r ≡ true) e (and_from _ _ (test_from_eq p.x p.x refl) (test_from_eq p.y p.y refl)))

-- ---- so do the ends of edges
abbrev HaveLength : List Line → Type 0
HaveLength es = AllByRecursion (λ (e : Line). e.a ≢ e.b) es

lengths-from : (p : Coordinates) (ps : List Coordinates) → DifferFrom p ps → HaveLength (edges_from p ps)
lengths-from p [] h = tt
lengths-from p (q ∷ qs) h = (differ-is p q h.0, lengths-from q qs h.1)

lengths-between : (ps : List Coordinates) → Differ ps → HaveLength (edges_between ps)
lengths-between [] h = tt
lengths-between (p ∷ ps) h = lengths-from p ps h

both-lengths : (es fs : List Line) → HaveLength es → HaveLength fs → HaveLength (es ++ fs)
both-lengths [] fs h k = k
both-lengths (e ∷ es) fs h k = (h.0, both-lengths es fs h.1 k)

lengths-of-lists : (lists : List (List Coordinates)) → HaveLength (flat_map edges_of_list lists)
lengths-of-lists [] = tt
lengths-of-lists (ps ∷ lists) = both-lengths (edges_of_list ps) (flat_map edges_of_list lists) (lengths-between (tight ps) (tight-differ ps)) (lengths-of-lists lists)

pub lengths : (geometry : Geometry) → HaveLength (edges_of geometry)
lengths (Point p) = tt
lengths (LineString ps) = lengths-of-lists (ps ∷ [])
lengths (Polygon rings) = lengths-of-lists rings
lengths (MultiPoint ps) = tt
lengths (MultiLineString lines) = lengths-of-lists lines
lengths (MultiPolygon polygons) = lengths-of-lists (joined polygons)

-- ---- and the runs of edges are runs
run-is : (is_first : Bool) (pair : Coordinates × Coordinates) → pair.0 ≢ pair.1 → IsRun (run_of is_first pair)
run-is is_first pair n = record { forward = sorted pair.0 pair.1 n; slope = refl; height = refl }

each-run : (is_first : Bool) (es : List Line) → HaveLength es → AllByRecursion (λ pair. IsRun (run_of is_first pair)) (map ends_of_edge es)
each-run is_first [] h = tt
each-run is_first (e ∷ es) h = (run-is is_first (ends_of_edge e) h.0, each-run is_first es h.1)

runs-of : (is_first : Bool) (box : Option Extent) (geometry : Geometry) → All IsRun (map (run_of is_first) (edges_near box geometry))
runs-of is_first None geometry = All-from_recursion IsRun [] tt
runs-of is_first (Some box) geometry =
    All-map IsRun (run_of is_first) (ends_meeting box (edges_of geometry))
    (All-filter (λ pair. extents_meet (extent_of_edge pair) box) (λ pair. IsRun (run_of is_first pair)) (map ends_of_edge (edges_of geometry))
    (All-from_recursion (λ pair. IsRun (run_of is_first pair)) (map ends_of_edge (edges_of geometry)) (each-run is_first (edges_of geometry) (lengths geometry))))

pub all-runs : (a b : Geometry) → All IsRun (runs_of (near_edges a b) (near_edges b a))
all-runs a b =
    All-append IsRun (map (run_of true) (near_edges a b)) (map (run_of false) (near_edges b a))
    (runs-of true (fold grown None (points_of b)) a) (runs-of false (fold grown None (points_of a)) b)
